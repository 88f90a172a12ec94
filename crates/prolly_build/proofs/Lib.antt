-- What the writer of a pipeline writes of one event more.
pub mod Tops
-- How the writer's state goes on.
pub mod WritingSteps
-- Two elements in the place of one.
pub mod ForkSteps
-- What the driver's parts give back.
pub mod RanSteps
-- Header and frames hold no end record.
pub mod Beginnings
-- Lists that begin or end with an element.
pub mod FirstOnes
-- What mergers received over links that carried nothing before.
pub mod MergingSteps
-- How the records of the files reach the last merger.
pub mod FeedingSteps
-- Stages over links that were met.
pub mod StagingSteps
-- What mergers make of the files, where all ends are clean, and which faults their ends name.
pub mod Mergings
-- What holds of no loader, and of one more, holds of all.
pub mod LoaderSteps
-- What is known of what loaders sent.
pub mod Loads
-- What the writer behind the stages has made of a map.
pub mod Makings
-- What the workers of a build sent, seen from the sources.
pub mod Runs
-- What the files of a build count for, by what the loaders sent of them.
pub mod Counted
-- Which fault the workers of a build name, and what they sent before it.
pub mod Stops
-- What the writer has written of the pairs before a fault, and before want of memory.
pub mod Takings
-- What the workers of a build sent where one of them was refused memory.
pub mod Refusals
-- What a build answers of a run.
pub mod Outcomes
-- What a run over an old tree has made, seen from a map of its root.
pub mod Applying
-- What is answered of a run over an old tree.
pub mod ApplyOutcomes
-- What is told of the reads of an old tree whose source is given back.
pub mod GivenBack
-- Which failed reads of files are told.
pub mod FailedReads
