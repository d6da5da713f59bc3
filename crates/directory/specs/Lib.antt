pub mod Header
pub mod Entry
pub mod Directory
pub mod Looks
pub mod Repeat
pub mod Good
pub mod Independent
