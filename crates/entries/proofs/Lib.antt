pub mod Told
pub mod Cases
pub mod Accept
pub mod Lowest
pub mod Once
pub mod Parts
pub mod PartAccept
pub mod Independent
