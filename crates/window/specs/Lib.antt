pub mod Window
pub mod Length
pub mod Inside
