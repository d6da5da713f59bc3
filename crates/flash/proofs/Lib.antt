pub mod Ways
pub mod Accept
pub mod Independent
