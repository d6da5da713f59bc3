pub mod Order
pub mod Leads
pub mod Answer
pub mod Lookup
pub mod Independent
pub mod Wrong
