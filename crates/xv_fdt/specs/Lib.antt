pub mod Fault
pub mod Grammar
pub mod Header
pub mod Progress
pub mod Shape
pub mod Token
pub mod Tree
pub mod Written
