-- Records that come one after another, of which the last one of a key counts.
pub mod Overlaid
-- Where a record lies among the bytes of a run.
pub mod Place
-- What a run holds, and what it tells of it.
pub mod Run
-- What is said of a record that a run does not take, of records that have one key, and of runs that
-- can't wait or be merged. (This project's texts.)
pub mod FaultTexts
-- Records as they are shown.
pub mod Shown
-- Keys that come twice, and the numbers that records carry.
pub mod Told
-- Runs that wait in files, and what they hold.
pub mod Shelf
