-- Leaves with pairs.
pub mod Leaves
-- What was taken, step by step.
pub mod Steps
-- How the leaves of an old tree are seen to be cut.
pub mod Cuttings
-- A run of the stage, from its first leaf to its end.
pub mod Runs
-- What the stage sent, once both inputs have come to their ends.
pub mod Ends
-- What was sent of the leaves of an old tree, step by step.
pub mod Loading
