pub mod Values
pub mod Orders
