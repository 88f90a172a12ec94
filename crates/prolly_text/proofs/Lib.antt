-- Two hexadecimal digits behind `\x`.
pub mod Digits
-- What stood in front of bytes that were appended still does.
pub mod Appended
-- Bytes stand in front of what is appended to them, piece by piece.
pub mod Kept
-- What is written, chunk by chunk.
pub mod Writing
-- The rows of a tree, one by one, and the last first.
pub mod Rows
-- Columns, as the formats of the code write them.
pub mod Columns
-- Values of JSON one behind another, with commas between them.
pub mod Commas
-- A key that is too long to be shown whole.
pub mod Shown
-- The first place of a byte.
pub mod Places
-- Lines of text, and the split of a line at its first space.
pub mod LineLemmas
-- Looking for the line that a text begins with.
pub mod Looking
-- Passing a line that is too long.
pub mod Skipping
-- A line that is refused.
pub mod Refusing
-- Lines that are written, and what they stand for.
pub mod WrittenLines
-- No line that stands for a record is longer than the limit.
pub mod LineLengths
-- What is wrong with a line that stands for no record.
pub mod DefectLemmas
-- Explaining the faulty lines of a text, one after another.
pub mod Explaining
-- Packing a text line by line.
pub mod PackSteps
-- Reading keys line by line.
mod KeySteps
