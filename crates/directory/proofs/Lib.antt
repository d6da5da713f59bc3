pub mod Told
pub mod Cases
pub mod Heads
pub mod Steps
pub mod Accept
pub mod Independent
pub mod Named
