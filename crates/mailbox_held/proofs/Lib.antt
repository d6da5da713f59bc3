pub mod HeldLaws
pub mod FitLaws
