pub mod FrameList
pub mod Kept
pub mod Marks
pub mod Resources
