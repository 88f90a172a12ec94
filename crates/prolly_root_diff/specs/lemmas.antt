-- Lemmas for the crates above, by subject: what a proof may use of walks over two trees.
-- Walks in chunk files of any bytes, one part after another.
pub mod WalkParts
-- Walks that begin at a root.
pub mod Roots
-- A walk over the leaves of a tree, one part after another.
pub mod LeafParts
-- That the chunks which a walk reads stand in the chunk file.
pub mod ReadChunks
