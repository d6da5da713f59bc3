pub mod Header
pub mod Version
pub mod Good
