pub mod BitLemmas
pub mod PortLemmas
