-- A loading under way: the records that were sent, the unparsed bytes and those that the source has
-- left.
pub mod UnderWay
-- A reader that gives one thing more.
pub mod ReaderSteps
-- The ends of a loading.
pub mod LoadEnds
-- What was counted of the records that were passed.
pub mod Tallies
-- The key of a flawed record, where the flaw lies behind it.
pub mod ToldKeys
-- A survey under way, and the ends of one.
pub mod Surveys
-- A writer to which one record more is sent, and one that is closed.
pub mod WriterSteps
