-- What is left of a tree, for who knows it by references, and what two such rests come to.
pub mod Left
-- What a walk keeps of one tree.
pub mod Sides
-- How a walk over two trees goes on, and what it gives.
pub mod Walks
-- What is wrong first with a chunk file of any bytes for a walk over its tree.
pub mod FirstFault
-- Where the subtrees that are due stand in such a file.
pub mod Places
-- A walk over the trees of two such files, and what is wrong first with them for it.
pub mod FileWalks
-- What a walk notes of the chunks that it reads, and what that says of the trees.
pub mod Notes
-- How far a walk has to go yet.
pub mod ToGo
-- What is due of a tree, step by step.
pub mod DueTrees
-- The leaves that are left of a tree, for who knows its chunks by their references alone.
pub mod Leaves
-- What a walk over the leaves of a tree keeps, and what it gives.
pub mod LeafWalk
-- Lemmas for the crates above, by subject.
pub mod lemmas
