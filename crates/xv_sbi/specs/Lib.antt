pub mod Calls
pub mod Mask
