pub mod BitLemmas
pub mod DelegationLemmas
