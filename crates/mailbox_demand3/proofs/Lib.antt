pub mod SequenceLaws
pub mod Outcome
pub mod Kept
pub mod Demand3
pub mod Wrong
