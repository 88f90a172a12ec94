-- Relations between the values of two lists, place by place.
pub mod Each
-- What the inputs of a merger gave, as the inputs that a merged part is made of.
pub mod Inputs
-- What a merger sent.
pub mod Merged
-- The heads of inputs: what each of them gave last.
pub mod Head
-- How far a merger has come.
pub mod Places
-- Inputs beside their heads, and how they go on.
pub mod Peeked
-- One step of a merger.
pub mod MergeStep
-- Which of two inputs is next.
pub mod Turn
-- Which of many inputs is next.
pub mod Choice
-- Keys that stand in one of several lists only, and keys that stand in two.
pub mod Unique
-- How a merger of many goes on, and what it knows of keys that several inputs have.
pub mod Many
-- Lemmas for the crates above, by subject.
pub mod lemmas
