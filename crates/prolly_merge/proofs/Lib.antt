-- What equal values of a variant have.
pub mod Equal
-- Relations between two lists, while a loop goes over them.
pub mod EachLemmas
-- How a merger goes on, and how it stops.
pub mod Places
-- The steps of a merger, from its start on.
pub mod Steps
-- A merger from the inputs that it was given to those that it gives back.
pub mod Finishes
-- The turns of two inputs.
pub mod Turns
-- The count of what was sent.
pub mod Counts
-- The last head of the least key.
pub mod Choices
-- Inputs beside their heads, read and written.
pub mod Peeks
-- A round of a merger of many inputs.
pub mod Rounds
-- Keys that several heads have.
pub mod Shared
-- Keys that several inputs have, and records that none of them leaves out.
pub mod Apart
-- The steps of a merger that refuses shared keys, and what a merger of many sent.
pub mod Alone
-- The first heads of inputs, while they are received.
pub mod Openings
