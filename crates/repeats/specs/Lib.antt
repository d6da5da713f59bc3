pub mod Repeats
pub mod One
