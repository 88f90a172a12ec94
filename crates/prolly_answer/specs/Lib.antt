-- How a command reads its input, and what it says of one that it can't read whole.
pub mod Input
-- What a command that makes a file does to the sink that it is lent, and what it answers.
pub mod Outputs
-- What the command `scratch` answers.
pub mod Scratch
-- What the command `pack` answers.
pub mod Pack
-- What `pack` answers of lines in any order.
pub mod SortedPack
-- The bits by which chunks have about so many bytes.
pub mod ChunkBytes
-- Record files that were looked at before they are read.
pub mod Peeks
-- What the commands that read a chunk file print.
pub mod LookUps
-- What the command `root` answers.
pub mod NamedRoots
-- What the command `dump` answers.
pub mod Dump
-- How many changes the difference of two maps has, and the line that tells it.
pub mod Counts
-- What the command `diff` answers.
pub mod Diff
-- What the commands `prove` and `verify` answer.
pub mod Proofs
-- The lines that are told of a set of keys, as its proof is read.
pub mod SetLines
-- What `prove` and `verify` answer of a set of keys.
pub mod SetProofs
-- What `diff` answers to who names the roots.
pub mod RootDiffs
-- Which fault a command tells that looks up in a chunk file by the root.
pub mod RootFaults
-- What comes of a command that goes over the pairs of a tree of which only the root is known.
pub mod RootOutcomes
-- What `get` and `nth` answer to who names the root.
pub mod RootLookUps
-- What a dump by the root has of the map with that root.
pub mod RootDumps
-- Lists of keys, out of files.
pub mod KeyLists
-- What `get` answers of many keys.
pub mod KeyLookUps
-- What `explain` answers, and what a command says of a record file that it goes over once.
pub mod Surveys
-- What `explain --lines` answers.
pub mod ExplainedLines
-- What the command `stat` answers.
pub mod Stat
