pub mod TypedLaws
pub mod Back
pub mod Faithful
pub mod Runs
