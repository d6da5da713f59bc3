pub mod Wrong
pub mod Told
