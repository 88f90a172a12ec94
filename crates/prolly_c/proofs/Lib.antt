-- Reading the entries of a leaf, one pair after another.
pub mod Entries
-- What stands behind the elements that were written.
pub mod Behind
-- An index that is written, run by run.
pub mod Writing
-- The runs of an index, and what is found by them.
pub mod RunLists
-- Where cursors stand, and where they go.
pub mod Cursors
-- The frames of a file of a map, one after another.
pub mod FileFrames
-- Two cursors side by side: what is taken of the least key, and what is left.
pub mod Sides
-- What is told of a chunk file in memory, of which no read fails.
pub mod Unread
-- Verifying a proof, chunk by chunk.
pub mod Verifying
-- The pairs of a range among those of a leaf.
pub mod RangeParts
-- The pairs of a range that the chunks of its proof show.
pub mod ShownPairs
-- How many runs the pairs of a range's proof need.
pub mod RangeRuns
