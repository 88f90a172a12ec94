-- What is said of a run under way.
pub mod Lines
