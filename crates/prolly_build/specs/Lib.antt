-- What a build is set to.
pub mod Config
-- What the writer of a pipeline has written of the events that it received.
pub mod WriterState
-- Two elements in the place of one.
pub mod Lists
-- What the workers of a build give back.
pub mod Workers
-- What the driver's parts give back.
pub mod RunResult
-- What the mergers of a build give back.
pub mod Mergers
-- How the records of the files reach the last merger.
pub mod RecordLinks
-- What the last merger sent of the files.
pub mod LastMerger
-- What the workers below the stages of nodes give back.
pub mod Base
-- What the stages of a run sent.
pub mod Stages
-- What a build has made of its sources.
pub mod BuiltFile
-- What a build names, and what it leaves, where a record file is at fault.
pub mod InputFaults
-- What a build leaves where a worker was refused memory.
pub mod Refusals
-- What the end of a build makes of a run whose workers have all ended.
pub mod End
-- What a build has answered, and what it has made of its sources and of the sink then.
pub mod Outcome
-- What the workers give back that an old tree needs.
pub mod OldWorkers
-- How changes reach the stage of an old tree's leaves.
pub mod OldBase
-- What applying changes to an old tree has answered, and what it has made of its sources and of the
-- sink then.
pub mod Applied
-- What the end of a run over an old tree makes of it, once its workers have all ended.
pub mod OldEnd
-- What becomes of the source of an old tree, and what is told of its reads.
pub mod GivenBack
-- Which failed reads of files are told.
pub mod FailedReads
