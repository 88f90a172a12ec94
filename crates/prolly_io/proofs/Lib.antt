-- What a script hands out of its bytes, from an offset on.
pub mod ScriptReads
-- Bytes that are written one part after another.
pub mod Written
-- Bytes that are read behind the first ones of a buffer.
pub mod Fronts
-- Parts of bytes, from one offset to another.
pub mod Spans
-- Bytes that are read behind a part of others.
pub mod ReadBehind
-- Reads at an offset that give less than was asked.
pub mod PlacedReads
-- Reads that are served from a block of a device.
pub mod BlockReads
-- The header, byte by byte.
pub mod HeaderBytes
-- The bytes of a frame.
pub mod FrameBytes
