pub mod Ending
pub mod Table
pub mod Layout
pub mod Found
