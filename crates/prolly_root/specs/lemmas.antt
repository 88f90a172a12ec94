-- Lemmas for the crates above, by subject: what a proof may use of the places of trees
-- and of faults.
-- Going on step by step, where there is one step at most.
pub mod Paths
-- What is wrong with a chunk, and that it is one flaw.
pub mod Flaws
-- Which fault is the first for a look-up.
pub mod FirstFaults
-- The chunks of a level in a file, one behind another.
pub mod Levels
-- The trees of a content in its chunk file: the chunks of each, and where their tops stand.
pub mod FileTrees
-- The chunk file of a lawful content: that nothing is wrong with it before a chunk is read, nor with
-- the chunks that stand where they are due.
pub mod LawfulFiles
-- That chunks which are read stand in the chunk file.
pub mod ReadChunks
