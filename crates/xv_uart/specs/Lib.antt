pub mod Inside
pub mod Lending
pub mod State
pub use Rattle.xv_bus.specs.Uart
