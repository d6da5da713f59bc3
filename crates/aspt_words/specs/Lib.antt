pub mod AsptTable
pub mod Taken
