pub mod IterateLemmas
mod Examples
mod CallExamples
