pub mod Write
pub mod Accept
pub mod Back
