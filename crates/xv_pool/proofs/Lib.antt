pub mod MarkLemmas
pub mod RangeLemmas
pub mod SoundLemmas
pub mod SumLemmas
pub mod Examples
