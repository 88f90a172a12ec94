-- An output behind a gate.
pub mod Gated
-- What a worker has sent, by what it received. A stage is a function: of how the list received ends
-- and of that list it makes the list
pub mod Sends
-- What a stage does with one item: its level takes it, and what that brings is sent.
pub mod StageStep
-- Workers that stand one behind another.
pub mod Workers
-- Lemmas for the crates above.
pub mod lemmas
