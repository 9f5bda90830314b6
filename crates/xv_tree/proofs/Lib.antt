pub mod ChildLemmas
pub mod SoundLemmas
pub mod PlanLemmas
pub mod ValueLemmas
pub mod Examples
pub mod StartLemmas
