pub mod BelowLemmas
pub mod ClaimLemmas
pub mod HoldsLemmas
pub mod LineLemmas
pub mod Words
