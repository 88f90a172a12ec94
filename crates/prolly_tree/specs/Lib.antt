-- Merging inputs of which some end with a fault: which fault is named, and which records come
-- before it. (This project's rules.)
pub mod Merge
-- How a merged part goes on, one key after another. (This project's rules.)
pub mod MergeSteps
-- How large overlays are, and that merged parts rise. (This project's rules.)
pub mod MergedParts
-- Inputs of which some were cut short, because a worker on their way was refused memory. (This
-- project's rules.)
pub mod CutShort
-- Look-ups in a map, a list of pairs with rising keys.
pub mod LookUp
-- How a list of entries is cut into groups. (The idea is that of the Noms documentation; `least`
-- is this project's.)
pub mod Split
-- The prolly tree of a map. (The tree is that of the Noms documentation; the fields of a child
-- entry are this project's.)
pub mod Tree
-- The leaves below a tree. (This project's rules.)
pub mod Leaves
-- The chunks of a tree, in the order in which a file has them. (This project's format.)
pub mod Chunk
-- The chunk file of a map, and what a run that met a fault has written of it. (This project's
-- format.)
pub mod File
-- What the stages of a pipeline send, as a function of all that they received. An event is a chunk.
-- (This project's rules.)
pub mod Events
-- The stages of a pipeline one behind another, and what its writer takes. (This project's rules.)
pub mod Pipeline
-- Lemmas for the crates above, by subject.
pub mod lemmas
-- The difference of two maps: the records that turn the one into the other.
pub mod Difference
-- A walk over two maps side by side. (This project's rules.)
pub mod Walks
-- What comes of changes that are laid over a map. (This project's rules.)
pub mod Applying
-- What of a map goes on unchanged where changes are laid over it. (This project's rules.)
pub mod Passing
-- The record file of a map. (This project's format.)
pub mod RecordFile
