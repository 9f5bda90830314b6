pub mod Children
pub mod Fault
pub mod Plan
pub mod Regions
pub mod Seen
pub mod Values
pub mod Vcpus
