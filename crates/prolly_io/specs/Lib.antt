-- How a device counts its failures.
pub mod Failures
-- Which numbers are bytes.
pub mod Bytes
-- The bytes of a reader or a writer of std, which tells them or does not.
pub mod Known
-- What the test of bytes tells.
pub mod BytesLaws
-- What a contract sees of a source, and what a read does to the bytes that it has left.
pub mod Source
-- What a contract sees of a device that reads anywhere, and what a read gives.
pub mod Device
-- What a contract sees of a `FromFile`.
pub mod FromFile
-- What a clause reads of a `FromRead`.
pub mod FromRead
-- What a contract sees of a sink, and what a write does to the bytes that it took.
pub mod Sink
-- What comes of writing bytes to a sink.
pub mod Writes
-- What a clause reads of a `ToWrite`.
pub mod ToWrite
-- What a clause reads of a `Buffered`.
pub mod Buffered
-- A source of which the first bytes were taken off.
pub mod Rejoined
-- What a buffer of read bytes holds, and what a read adds to it.
pub mod ReadBuffer
-- What follows from a read into a buffer.
pub mod ReadBufferLaws
-- Spans of bytes: from one offset to another.
pub mod Span
-- The devices in memory that follow a script.
pub mod Script
-- The header of a chunk file, its first six bytes.
pub mod Header
-- The frame of a chunk, over the chunk's bytes.
pub mod Frame
-- A frame, and what stands behind it.
pub mod FrameLaws
-- Which bytes are an end record.
pub mod EndRecord
-- How far a writer of a chunk file is.
pub mod Writer
-- The faults of reading. (This project's rules.)
pub mod ReadFaults
-- What is said of faults. (This project's texts.)
pub mod FaultTexts
