pub mod Outside
pub mod Fetch
pub mod Memory
pub mod Stream
pub use Rattle.xv_base.specs.Fault
