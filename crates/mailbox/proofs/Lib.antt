pub mod ConsistentLaws
pub mod LineLaws
pub mod Facts
