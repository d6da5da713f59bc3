pub mod Moved
pub mod Again
pub mod Values
