pub mod Told
pub mod Cases
pub mod Inside
pub mod Length
