-- How a chunk is filled entry by entry.
pub mod Chunk
-- The level of the leaves, as a machine that takes pairs one by one.
pub mod LeafLevel
-- What a contract sees of the event of a chunk.
pub mod Event
-- A level of nodes, as a machine that takes events one by one.
pub mod NodeLevel
-- The chunks that others lack, and how large chunks are.
pub mod Missing
-- Lemmas for the crates above.
pub mod lemmas
