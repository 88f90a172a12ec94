-- The frames of a chunk file: where its chunks lie, and what follows them.
pub mod Frames
-- Chunks that are read one after another, up to the first that is bad.
pub mod ReadChunks
-- Which bytes are accepted, and which fault others have.
pub mod Verdict
-- What is wrong with the pairs and the chunks of a file that is well formed: the first fault.
pub mod FirstFault
-- What is kept of a file that was accepted, and how its chunks are found by their references.
pub mod Chunks
-- What the hashes of chunks tell.
pub mod Digests
-- The numbers of a tree: its levels.
pub mod Numbers
-- Levels of nodes that stand one above another, each of which takes what the one below it sent.
pub mod OpenLevels
-- The bytes of a source as they come.
pub mod Incoming
-- What is kept of the chunks of a file that were read so far.
pub mod ChunksRead
-- What is wrong first with a file that is read once, in the order of its bytes.
pub mod FirstFlaw
-- What the chunks of a file that were read so far say of those that must follow.
pub mod Follower
-- Look-ups in a file that was checked.
pub mod FileWays
-- What is said of a chunk file, in short.
pub mod Report
-- What is said of a file that is no chunk file. (This project's texts.)
pub mod FaultTexts
-- Lemmas for the crates above, by subject.
pub mod lemmas
