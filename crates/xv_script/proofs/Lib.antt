pub mod Examples
pub mod RangeLemmas
pub mod ScriptLemmas
