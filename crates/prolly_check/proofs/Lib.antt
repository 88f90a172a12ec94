-- Bytes are accepted exactly where they are the file of a map.
pub mod Verdicts
-- Bytes have one verdict, which is never a fault of the reading.
pub mod OneVerdict
-- What is known of a file that is checked, and of one that was accepted.
pub mod CheckedFile
-- The pairs that chunks hold, chunk after chunk.
pub mod HeldPairs
-- Reading the keys of a file, one after another.
pub mod RisingKeys
-- Counting the pairs of a leaf, one after another.
pub mod PairCounts
-- What is told of chunks, of one after another.
pub mod DigestLists
-- The references of the chunks of a file, and an index of them, made chunk by chunk.
pub mod IndexSteps
-- The numbers of a tree: its levels, the sizes of its chunks, those that others lack.
pub mod TreeNumbers
-- What is left of a map, leaf by leaf, and what was written of it.
pub mod LeafRests
-- Levels of nodes that stand one above another: what they send of events, and of all of them.
pub mod OpenLevels
-- Going down the tree of a file that was checked.
pub mod FileDescents
-- The leaf that follows whole leaves, and the pairs that the chunks of a file hold.
pub mod NextLeaf
-- Events that pass levels of nodes, and the closing of these, where what leaves the last one is due.
pub mod Followed
-- What the chunks of a file that were read so far say of those that must follow, step by step.
pub mod FollowerSteps
-- The chunks of a file, followed from the first to the last.
pub mod Canonical
-- The chunks of a file that were read so far, one after another.
pub mod ChunkSteps
-- What reads leave of a source.
pub mod Sources
-- What the bytes behind a header tell of the file of a map.
pub mod MapFiles
