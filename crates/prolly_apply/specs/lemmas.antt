-- Lemmas for the crates above, by subject: what a proof may use of an old tree's leaves.
-- How the leaves of a map are cut.
pub mod OldLeaves
