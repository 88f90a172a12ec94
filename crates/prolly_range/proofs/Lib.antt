-- Where a list of keys that rise is split, and where a list ceases to rise.
mod Splitting
-- What of a set of keys may stand below trees.
mod Parts
-- Chunks that are taken one after another.
mod Taking
-- Bytes that are one frame and no more.
mod FrameReads
-- Bytes that begin as a proof, or as none.
mod Starts
-- What is due below a chunk.
mod Below
-- A proof is accepted, chunk by chunk.
mod Accepting
-- How far a walk has to go yet.
mod Weights
-- That the proof of a set of keys has no fault in the chunk file of a lawful content.
mod LawfulSets
-- Where the chunks that are due stand in a chunk file of any bytes.
mod Finds
-- That one fault is the first.
mod OneSetFault
-- Writing the chunks of a proof, one after another.
mod Writing
-- What is known of a key from the pairs that were shown.
mod Finding
-- The pairs that are shown of a list of keys come in its order.
mod Showing
