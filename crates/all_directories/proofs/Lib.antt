pub mod Entry
pub mod Reached
