pub mod Written
pub mod SumLaws
pub mod Parts
pub mod Accept
pub mod Back
pub mod Values
