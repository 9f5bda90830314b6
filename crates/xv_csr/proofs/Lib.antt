pub mod BitsLemmas
mod CauseValues
pub mod KeptLemmas
pub mod Literals
