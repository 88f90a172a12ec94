-- Events in blocks: a block ends with its one event of a level.
pub mod Streams
-- What a stage sends of a forest, is the forest of its nodes.
pub mod Groups
-- The stages, one behind another, make the tree.
pub mod Composition
-- What a stage sends of the closed chunks of a forest at a fault, are the closed chunks of the
-- forest of its nodes.
pub mod Faults
-- What a stage sends at a fault is a front of what it sends of a longer input.
pub mod Prefixes
-- A split, and what a stage has sent, go on by one entry.
pub mod Steps
-- What the writer takes of a list of events.
pub mod Writers
-- What the leaf stage sends goes on behind closed leaves, and a leaf that no change touches stays.
pub mod Passing
