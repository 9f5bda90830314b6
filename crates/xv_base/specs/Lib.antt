pub mod Bits
pub mod Fault
pub mod Name
pub mod Number
pub mod Padded
pub mod Range
pub mod Serial
pub mod Text
