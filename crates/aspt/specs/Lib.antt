pub mod Header
pub mod Structure
pub mod Rules
pub mod Bytes
pub mod Calls
pub mod Good
