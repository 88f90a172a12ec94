-- What is asked of a build, and which commands each module answers.
pub mod Kinds
pub mod Requests
-- Which root is believed of a tree.
pub mod Roots
