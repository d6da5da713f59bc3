pub mod Typed
pub mod Faithful
pub mod Boundary
pub mod Runs
