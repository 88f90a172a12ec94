-- The runs of an index, and what they hold.
pub mod Runs
-- Where a cursor stands.
pub mod Cursor
-- An index that is written, run by run.
pub mod Writing
-- What a check tells.
pub mod Report
-- Chunk files that are built of record files.
pub mod Built
-- What a proof says, and why bytes are none.
pub mod Proofs
-- Proofs of ranges, and the runs that hold what they show.
pub mod RangeProofs
-- Two cursors side by side, and what is between two chunk files.
pub mod Changes
