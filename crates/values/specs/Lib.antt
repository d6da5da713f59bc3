pub mod Values
pub mod Images
pub mod Lookups
pub mod Tables
pub mod Mailboxes
pub mod Orders
