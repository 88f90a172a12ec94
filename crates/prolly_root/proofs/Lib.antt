-- The chunks of a proof, one after another: appending them and reading them.
pub mod Passing
-- That there is one proof for a root and a key.
pub mod OneProof
-- Going down from the root, from each chunk to the one that it refers to.
pub mod Descending
-- The bytes of a file before and behind a frame, and those of a chunk.
pub mod FileBytes
-- What is told of the first bytes of a frame.
pub mod Starts
-- Going over the frames of a file.
pub mod Walking
-- The last bytes of a chunk file.
pub mod Endings
-- That a look-up in the chunk file of a lawful content has no fault.
pub mod LawfulLookUps
-- Counting the chunks of each level on the way to the root.
pub mod Marking
-- What a source over the frames of a file finds.
pub mod Sources
-- Going down in a chunk file of any bytes, from where a look-up stands to where it stands next.
pub mod FaultSteps
-- That any bytes are cut into frames in one way.
pub mod OneCut
-- That a look-up in a chunk file has one fault, and none where it comes to an end.
pub mod OneFault
