pub mod Rules
pub mod Fields
pub mod Efs
pub mod Good
