-- The order of keys in words, and that bytes have one reading.
pub mod Orders
-- The cases of what bytes begin with, by their number and the two lengths that they spell.
pub mod FrontCases
-- What bytes begin with is spelled there, and what is spelled there is found.
pub mod FrontBytes
-- A copy of a pair is kept as its spelling.
pub mod Copies
-- What is wrong with the next record stays wrong when more bytes follow.
pub mod NextFlaws
-- One more good record, and when there is none.
pub mod Endings
-- Each list of bytes has a reading.
pub mod Readings
-- Going through the records of bytes.
pub mod RecordSteps
-- Bytes cut in pieces, and the key that they begin with.
pub mod ByteLists
-- What is read as a child entry is spelled there.
pub mod Children
-- The number that bytes spell.
pub mod Bytes
-- The digits of a number in base 32, and their characters.
pub mod Digits
-- Numbers with a few digits in a base.
pub mod Powers
-- A reference is 20 bytes, since the digest that it is the beginning of has 64.
pub mod Digests
-- The text of a reference, five bytes and their eight characters at a time.
pub mod Texts
