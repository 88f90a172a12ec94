-- Keys and their order. (This project's format.)
pub mod Keys
-- Pairs of a key and a value. (This project's format.)
pub mod Pair
-- Records: what a record file says of a key. (This project's format.)
pub mod Record
-- What the private parts of a record say. (This project's rules.)
pub mod Change
-- Positions among keys.
pub mod Position
-- Versions of the chunk file. (This project's format.)
pub mod Version
-- How pairs, records and child entries are spelled as bytes. Numbers are big-endian. (This
-- project's format.)
pub mod Spelling
-- Children of a node, as their entries say them. (This project's format.)
pub mod Child
-- A child entry that bytes begin with.
pub mod ChildAt
-- Bytes are seen as numbers.
pub mod Byte
-- References of chunks, and their text. (SHA-512 is that of FIPS 180-4. The cut to 20 bytes and the
-- text are this project's format.)
pub mod Reference
-- Cuts: which entries end a chunk. (SHA-512 is that of FIPS 180-4. The rest is this project's
-- format.)
pub mod Cut
-- How a pair is kept, and what it carries. (This project's own; no promise outside rests on it.)
pub mod Storage
-- The records that the bytes of a record file spell, and what follows them. (This project's
-- format.)
pub mod Reading
-- What bytes begin with: a record, a pair, or no whole one. (This project's format.)
pub mod Front
-- Where the parts of a record lie in the bytes that it begins.
pub mod RecordAt
-- What the bytes at hand say of the next record, where more bytes may follow them. (This project's
-- rules.)
pub mod NextRecord
-- The overlay of lists of records: the map that they make where a later list wins a key. (This
-- project's format.)
pub mod Overlay
-- What all records of bytes are.
pub mod RecordList
-- Prefixes of lists.
pub mod Prefix
-- What is said of faults. (This project's texts.)
pub mod FaultTexts
-- Lemmas for the crates above, by subject.
pub mod lemmas
