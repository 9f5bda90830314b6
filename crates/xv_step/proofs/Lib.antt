pub mod WidthLemmas
pub mod BusLemmas
pub mod NextLemmas
pub mod AskLemmas
pub mod ExampleMachine
pub mod Examples
pub mod ExampleRows
