pub mod Command
pub mod Fault
pub mod Field
pub mod Order
pub mod Progress
pub mod Row
pub mod Script
pub mod Text
