pub mod AllDirectories
pub mod Gathered
