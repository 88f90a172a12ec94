-- The worked examples, by computation.
pub mod Computed
-- The record file of a map, and what is read of it.
pub mod RecordFiles
