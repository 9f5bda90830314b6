pub mod Registers
pub use Rattle.xv_bus.specs.Plic
