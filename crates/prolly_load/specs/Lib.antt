-- What is taken out of the unparsed bytes.
pub mod Taken
-- How a flaw of a record file is told on a link.
pub mod Fault
-- What a loader sends of a record file, and how it ends.
pub mod Loaded
-- A loading under way, and how one step takes it on.
pub mod Loading
-- What a survey of a record file says.
pub mod Survey
-- What is passed in the unparsed bytes.
pub mod Skipped
-- How a survey is told of what was passed.
pub mod Tally
-- Items that passed an end.
pub mod Passed
-- What contracts see of a reader of a record file, and of the same one later.
pub mod Reader
-- What a reader gave, in one stretch after another and in all.
pub mod ReaderLaws
-- Lemmas for the crates above, by subject.
pub mod lemmas
-- What contracts see of a writer of a record file, and of what it leaves.
pub mod Writer
