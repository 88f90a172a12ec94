-- Pairs whose keys rise, one pair after another.
pub mod Rises
-- The levels of a tree, and its file.
pub mod TreeChunks
