pub use Rattle.xv_base.specs.Serial
