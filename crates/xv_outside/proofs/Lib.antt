mod Entries
mod Tries
pub mod Told
