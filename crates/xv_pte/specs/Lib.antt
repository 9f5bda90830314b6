pub mod Entry
pub mod GStage
pub mod Sv39
pub mod Targets
