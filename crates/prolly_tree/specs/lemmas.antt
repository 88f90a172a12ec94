-- Lemmas for the crates above, by subject: what a proof may use of trees, pipelines and merging.
-- Lists of pairs whose keys rise.
pub mod Maps
-- The difference of two maps, from that of what is behind their first pairs.
pub mod Differences
-- Keys and records, where inputs are merged.
pub mod Merging
-- How a list is split into groups.
pub mod Splits
-- Trees, their chunks and their files.
pub mod Trees
-- What the stages of a pipeline send, and its writer takes.
pub mod Stages
-- A walk over two maps: what was passed over, and the change behind it.
pub mod Walks
