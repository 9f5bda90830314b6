pub mod Cell
pub mod Need
pub mod Plan
pub mod Rules
