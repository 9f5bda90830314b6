pub mod Audit
pub mod Blocks
pub mod Fill
pub mod Memory
pub mod Own
pub mod Stands
pub mod Tidy
pub mod Write
