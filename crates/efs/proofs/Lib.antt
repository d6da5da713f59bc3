pub mod Accept
pub mod Told
pub mod Pointers
