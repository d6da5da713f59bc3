pub mod StoredLaws
pub mod WrittenLaws
pub mod CallLaws
