-- What a step of the walk comes to.
pub mod Steps
