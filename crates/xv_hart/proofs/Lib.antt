pub mod AccessLemmas
pub mod ClosedLemmas
pub mod Fields
pub mod StepLemmas
pub mod UnledLemmas
pub mod ZeroLemmas
