pub mod Calls
pub mod Log
pub mod Sequence
pub mod Demand3
pub mod Wrong
