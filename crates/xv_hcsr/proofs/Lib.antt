pub mod LineLemmas
pub mod TimeLemmas
pub mod Examples
pub mod Literals
