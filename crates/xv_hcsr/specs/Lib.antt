pub mod Delegation
pub mod Guest
pub mod Lines
pub mod Stage
pub mod Time
