-- What a chunk file says, its chunks, and which bytes are it.
pub mod Content
-- The entries that chunks hold.
pub mod Entries
-- What a look-up seeks, and which child of a node it goes on in. (This project's rules.)
pub mod Sought
-- The bytes of chunks, and the pairs that they hold.
pub mod HeldPairs
-- What the entries of a chunk are.
pub mod Kinds
-- The trees of a map, whose tops are its chunks.
pub mod MapTree
-- Pairs that were found, as keys and values that are borrowed.
pub mod FoundPairs
-- The pairs of a map from a key on, and marks of how many are left.
pub mod PairsFrom
-- The way of a look-up down a tree, by the references of its chunks. (This project's rules.)
pub mod Way
-- The way of a scan down a tree, for who knows the root alone. (This project's rules.)
pub mod ScanWay
-- What a look-up comes to at a chunk.
pub mod Step
-- Lemmas for the crates above, by subject: what a proof may use of chunks and of ways.
pub mod lemmas
