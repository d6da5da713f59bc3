pub mod Flash
pub mod Good
pub mod Independent
