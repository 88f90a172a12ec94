-- Trees and forests, by their chunks.
pub mod Forests
-- How a forest grows to one tree.
pub mod Growth
-- How many chunks a tree has, and which pairs are below it.
pub mod Sizes
-- How many levels a tree has.
pub mod Levels
-- The chunks of a map are all different as bytes.
pub mod Distinct
-- Maps with one root are the same, or a collision is there.
pub mod Roots
-- A file decides its version, its bits and its map.
pub mod Files
