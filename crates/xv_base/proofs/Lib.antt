pub mod BitLemmas
pub mod PaddedLemmas
pub mod NameLemmas
pub mod NumberLemmas
pub mod TextLemmas
