pub mod MaskLemmas
pub mod Examples
