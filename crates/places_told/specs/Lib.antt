pub mod Where
pub mod Told
pub mod Wrong
