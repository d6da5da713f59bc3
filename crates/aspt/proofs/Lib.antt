pub mod Checks
pub mod Told
pub mod Accept
