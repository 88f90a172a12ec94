-- Passing by equal subtrees.
pub mod Passing
-- Going down.
pub mod Opening
-- Lists of what is due, and heads of lists.
pub mod Lists
-- How far a walk has to go yet.
pub mod Weights
-- Clashes of chunks that are read with those of trees.
pub mod Clashes
-- Taking pairs in hand.
pub mod Taking
-- The steps of a walk over two trees.
pub mod Steps
-- The way of a walk, and what it gives of two maps.
pub mod Runs
-- The chunks that are read on it: that they can be read, and where they stand.
pub mod ReadOn
-- The subtrees that are due below one node.
pub mod Subtrees
-- Where the subtrees that are due stand in a chunk file of any bytes.
pub mod Standing
-- A walk over two trees, step by step, in two such files.
pub mod FileSteps
-- That a walk over the tree of a lawful content has no fault in its chunk file.
pub mod LawfulWalks
-- That one fault is the first for a walk over one tree.
pub mod OneFault
-- That one fault is the first for a walk over two.
pub mod OneWalk
-- What a walk notes on its way.
pub mod Noting
-- What two trees share, and what a walk over them read.
pub mod Shares
-- What the notes of a walk tell of the chunks that the old tree lacks.
pub mod Lacking
-- Counting the notes whose references are unknown.
pub mod Counting
-- The leaves below trees, and going down to them.
pub mod LeafTrees
-- The steps of a walk over the leaves of a tree.
pub mod LeafSteps
-- A walk over the leaves of a tree, from the first to the last.
pub mod LeafRuns
