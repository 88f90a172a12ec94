-- Lemmas for the crates above, by subject.
-- First faults where there is none.
pub mod Faults
-- A file has no more pairs than bytes.
pub mod Sizes
