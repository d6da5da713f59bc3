pub mod Good
pub mod Wrong
