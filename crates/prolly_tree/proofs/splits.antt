-- A list is its closed groups and an open rest, and its split is these.
pub mod Parts
-- Each list has one split, and with least 2 it has few groups.
pub mod Splits
-- What is behind a list, and how its split goes on.
pub mod Behind
