pub mod Places
pub mod Leads
pub mod Lookup
pub mod Independent
pub mod Wrong
