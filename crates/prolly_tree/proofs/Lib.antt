-- A list as closed groups and an open rest, and its split.
pub mod splits
-- Trees, how they grow, how large they are, and what their roots and files tell.
pub mod trees
-- What the stages of a pipeline send, at a clean end and at a fault.
pub mod stages
-- Merging inputs of which some end with a fault.
pub mod merging
