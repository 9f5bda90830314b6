pub mod Examples
pub mod PlicLemmas
