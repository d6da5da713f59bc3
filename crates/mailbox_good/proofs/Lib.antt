pub mod LineFacts
pub mod Good
pub mod Wrong
