-- The key of a chunk's last entry lies in the chunk's bytes.
pub mod Keys
-- Groups with one entry more, and a split as its closed groups and the open one.
pub mod Groups
-- What the leaf stage sends, and its open leaf, with one pair more and at a clean end.
pub mod Leaves
-- What an inner stage sends, and its open node, with one event more and at a clean end.
pub mod Nodes
