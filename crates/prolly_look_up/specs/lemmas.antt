-- Lemmas for the crates above, by subject: what a proof may use of chunks and of ways.
-- The entries that bytes spell are read one after another.
pub mod ReadEntries
-- Lawful entries and nothing else, one after another.
pub mod EntryLists
-- The pairs that chunks hold.
pub mod HeldPairs
-- The event of a leaf that was read.
pub mod LeafEvents
-- Reading the keys of one chunk, one after another.
pub mod RisingKeys
-- What a comparison of bytes tells.
pub mod SameBytes
-- What is found in lists that stand one behind another.
pub mod PairLists
-- What is found among the pairs of a map: at a key, from a key on, at a number.
pub mod PairsFrom
-- The tree of a map, and what is read of its chunks.
pub mod MapTree
-- The child of a node that a look-up goes on in.
pub mod Chosen
-- Where a look-up goes on, and where it ends.
pub mod Ways
-- The ways of look-ups down a tree, for who knows the root alone.
pub mod TreeWays
-- Chunks that have the reference of another one.
pub mod Clashes
-- Chunks of which no two have one reference.
pub mod Apart
