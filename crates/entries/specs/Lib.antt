pub mod Entry
pub mod Part
pub mod Good
pub mod Independent
