pub mod Cases
pub mod Accept
pub mod Places
pub mod Appended
pub mod Grow
pub mod Accepted
pub mod Back
pub mod Values
