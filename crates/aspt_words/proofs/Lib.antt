pub mod Cut
pub mod AsptWords
