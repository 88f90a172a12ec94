-- The file of a proof, and what it proves.
pub mod ProofFile
-- What is wrong with bytes that are no proof.
pub mod ProofFault
-- What a look-up by a root may tell.
pub mod RootFault
-- What gives the chunks of a tree.
pub mod ChunkSource
-- A chunk file of any bytes, and what is wrong with it before a chunk is read.
pub mod ChunkFile
-- Going over the frames of a chunk file on a device.
pub mod Walk
-- Places that are remembered while the root is sought.
pub mod Marks
-- Going down from the root, from each chunk to the one that it refers to.
pub mod Descent
-- Where chunks stand in a chunk file on a device, and those below them.
pub mod Subtree
-- Where the trees of a content stand in its chunk file.
pub mod FileTrees
-- Going on from one to the next, step by step.
pub mod Path
-- Why a look-up in a chunk file of any bytes finds no answer.
pub mod LookUpFault
-- Leaves of a chunk file that are read before they are asked for.
pub mod ReadAhead
-- The root that a chunk file names.
pub mod NamedRoot
-- A reader that looks up by the root again and again.
pub mod Reader
-- What is said of faults. (This project's texts.)
pub mod FaultTexts
-- Lemmas for the crates above, by subject.
pub mod lemmas
