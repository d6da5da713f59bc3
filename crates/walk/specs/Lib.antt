pub mod Walk
pub mod Probe
pub mod First
