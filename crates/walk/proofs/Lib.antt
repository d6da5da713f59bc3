pub mod Placed
pub mod Steps
pub mod First
pub mod Count
pub mod Image
