pub mod Bus
pub mod State
pub mod Outcome
pub mod Memory
pub mod Perform
pub mod Step
