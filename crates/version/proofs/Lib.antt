pub mod Told
pub mod Accept
pub mod Example
