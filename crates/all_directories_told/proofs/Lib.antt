pub mod Lists
pub mod Leads
pub mod Told
