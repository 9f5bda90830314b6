pub mod CellLemmas
pub mod RuleLemmas
pub mod CountLemmas
pub mod NeedLemmas
pub mod Examples
