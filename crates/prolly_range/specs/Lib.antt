-- Lists of keys that rise.
pub mod SortedKeys
-- Sets of keys, and where in a tree they may stand.
pub mod KeySet
-- The proof of what a map has at the keys of a set.
pub mod SetProof
-- What is known of keys from the pairs that were shown.
pub mod Found
-- The children of a node in which keys are sought.
pub mod Children
-- The chunks that are due, as a walk keeps them.
pub mod Dues
-- The frames of a proof, as they come.
pub mod Frames
-- What is wrong with the start of bytes that are no proof.
pub mod Start
-- Reading a proof, chunk by chunk.
pub mod Verifier
-- What is said of a proof that shows nothing more. (This project's texts.)
pub mod FaultTexts
-- How far a walk has to go yet.
pub mod ToGo
-- Writing a proof, from a source of chunks.
pub mod Prover
-- Why the proof of a set of keys is not made from a chunk file of any bytes.
pub mod FirstFault
-- Where the chunks that are due stand in a chunk file of any bytes, as a source finds them.
pub mod Places
-- Lemmas for the crates above, by subject.
pub mod lemmas
