pub mod Translate
pub use Rattle.xv_pte.specs.Sv39
