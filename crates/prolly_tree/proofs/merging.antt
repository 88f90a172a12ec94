-- Two neighbours may be merged first.
pub mod Joins
-- What was sent of lists of records.
pub mod Fronts
-- Inputs that were cut short behind the stop.
pub mod CutShort
-- How large overlays are, and that merged parts rise.
pub mod MergedParts
-- Maps by what they say of each key, and their differences.
pub mod Differences
-- How a merged part goes on, one key after another.
pub mod MergeSteps
-- Overlays of lists that are cut at a key.
pub mod Passing
