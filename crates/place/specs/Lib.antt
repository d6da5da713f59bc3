pub mod Place
pub mod View
