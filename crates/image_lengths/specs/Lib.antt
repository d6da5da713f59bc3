pub mod Told
pub mod AsBefore
pub mod EndsAlike
