pub mod Effects
pub mod Encoding
pub mod Length
pub mod Operands
pub mod Results
pub mod Rows
