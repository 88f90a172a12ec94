-- How bytes are written as text.
pub mod Escapes
-- What a text stands for.
pub mod Pieces
-- Bytes that are appended to others.
pub mod Appending
-- The two notations, and their laws.
pub mod Notations
-- How a line shows the name of a file.
pub mod Names
-- The levels of a tree in their places.
pub mod Rows
-- Lines that name what they tell.
pub mod NumberLines
-- The table of a tree.
pub mod Table
-- JSON, as RFC 8259 has it, of a tree and of a record file.
pub mod Json
-- The lines of a record file.
pub mod Records
-- A flawed record file, explained.
pub mod Flaws
-- How keys are shown.
pub mod KeyForms
-- Lines of text, and the records that they stand for. (This project's format.)
pub mod Lines
-- How records are written: as lines, as `pack` reads them, or as a record file.
pub mod RecordForms
-- What packing a text comes to: the record file of its lines, or the first line at fault.
pub mod PackedLines
-- The line that a text begins with, seen from the bytes of it that are at hand.
pub mod Ahead
-- Records out of the lines of a text, one after another.
pub mod RecordLines
-- What is wrong with a line that stands for no record.
pub mod Defects
-- The faulty lines of a text, explained. (This project's texts.)
pub mod FaultyLines
-- Lines of keys that rise. (This project's format.)
pub mod KeyLines
-- What is said of a text that is not packed, and of one that is no list of keys. (This project's
-- texts.)
pub mod LinesFaults
-- Lemmas for the crates above, by subject.
pub mod lemmas
