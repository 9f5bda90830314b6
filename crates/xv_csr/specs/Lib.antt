pub mod Cause
pub mod Fields
pub mod Kept
pub mod Pending
pub mod Reset
pub mod Table
pub mod Trap
pub use Rattle.xv_base.specs.Bits
