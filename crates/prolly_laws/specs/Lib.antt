-- The records that bytes spell.
pub mod Readings
-- How a list is split into groups.
pub mod Splits
-- Trees, their chunks and their files.
pub mod Trees
-- What the stages of a pipeline send, and its writer takes.
pub mod Stages
-- Overlays of neighbours, and merging inputs that end with a fault.
pub mod Merging
-- What of a map goes on unchanged where changes are laid over it.
pub mod Passing
-- Worked examples, by computation: whole files and, where a cut shows its boundaries, the order of
-- chunks.
pub mod Examples
