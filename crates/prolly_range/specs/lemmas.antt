-- Lemmas for the crates above.

-- Chunks of a proof that are taken one after another.
pub mod Taken
-- What is left of the proof of a set of keys.
pub mod Rests
-- What is told where no call of a source of chunks failed.
pub mod Unfailed
-- Keys that rise, and where a key splits them.
pub mod Splits
