pub mod Machine
pub mod Consistent
