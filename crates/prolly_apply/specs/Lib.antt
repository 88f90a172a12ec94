-- How the leaves of an old tree are cut.
pub mod Cutting
-- What was taken of an old tree and of changes that are laid over it.
pub mod Taking
-- What the stage of an old tree's leaves sends.
pub mod Applied
-- What is sent of the leaves of an old tree, and how that ends.
pub mod OldLoaded
-- Lemmas for the crates above, by subject.
pub mod lemmas
