pub mod Misses
pub mod OneRow
pub mod RoundTrip
pub mod Shapes
