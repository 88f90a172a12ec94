-- The pairs of a record file are in order, so the plain builder finds none that isn't.
pub mod Rises
-- What a command answers where writing its file fails.
pub mod Answering
-- Bytes that a sink is to take, part by part.
pub mod Writing
-- Writing the pairs of leaves as lines, leaf by leaf.
pub mod DumpSteps
-- Counting the changes of a difference, record by record.
pub mod Counting
-- Writing a difference record by record.
pub mod DiffSteps
-- What is answered to bytes that are no proof.
pub mod Verifying
-- Lines that are made of the first pairs of leaves.
pub mod FirstLines
-- That the chunks of ways stand in the chunk file.
mod WaysStand
-- What is shown of a look-up by the root.
mod FoundByRoot
-- The status of several files, of which one more was answered.
mod Statuses
-- Look-ups by a root one after another, and the sink that what they find is written to.
pub mod ScanSteps
-- What is written of a portion of the pairs of a tree, and what is left of it, list by list.
mod Portions
-- A reader that looks up again and again, in one source.
mod Readers
-- Going over the pairs of a tree by its root, leaf by leaf.
pub mod RootSteps
-- How far a key is below the greatest one that there may be, by which a loop over rising keys ends.
pub mod KeyRanks
-- What `stat` answers of a file of either kind.
pub mod Stating
-- Writing a difference by the roots, change by change.
pub mod RootDiffSteps
-- Looking up key after key, and writing the line of each.
mod KeySteps
-- Which keys of a list are past when pairs were shown, and what is found there.
pub mod ShownKeys
-- The lines of the keys up to those of pairs, key by key and pair by pair.
pub mod ShownLines
-- Verifying the proof of a set of keys, chunk by chunk.
pub mod SetSteps
-- The pairs of a range are those that a scan has there.
pub mod Ranges
-- Lines whose records are put in order, one after another.
mod Sorting
-- The size of a chunk, doubled bit by bit.
mod ChunkSizes
-- Counting the entries that the first records of a file put.
mod Sampling
-- Looking at one source after another.
mod Peeking
-- Which fault is told of a chunk file of any bytes: by a reader, and by who opened it.
pub mod RootFaultSteps
