pub mod Action
pub mod Stage
pub mod Closed
pub mod Memory
pub mod Step
pub mod Trail
pub mod Hart
pub mod Machine
