-- Lemmas for the crates above: what a proof may use of stages beside their contracts.
-- The steps of a stage: what it has received and sent, as lists.
pub mod Steps
-- Workers that stand one behind another.
pub mod Joins
-- What the writer behind a pipeline takes.
pub mod Takings
