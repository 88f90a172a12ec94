-- The first piece of a text: there is one at most.
pub mod Fronts
-- Pieces one after another.
pub mod Sequences
-- A chunk of bytes that are not all UTF-8 has an invalid part.
pub mod Chunks
-- The characters that have a letter, and those that stand for themselves.
pub mod Letters
-- What is UTF-8 without a control character.
pub mod Shown
-- Texts in hexadecimal.
pub mod Digits
-- The characters at the front of bytes.
pub mod Characters
-- Texts that stand for bytes, and show.
pub mod Spelled
-- What is written as text is one of these.
pub mod Writing
-- What holds of both notations.
pub mod Notations
-- A byte order mark, of a text and of its first line.
pub mod Marks
-- The records of the first lines of a text, one after another: what a loop over them may cite.
pub mod RecordLines
