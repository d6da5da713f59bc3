pub mod Walk
pub mod Told
pub mod Found
pub mod Here
pub mod Laid
pub mod Part
pub mod Lookup
