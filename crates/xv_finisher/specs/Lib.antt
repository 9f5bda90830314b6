pub use Rattle.xv_bus.specs.Finisher
