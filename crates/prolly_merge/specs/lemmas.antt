-- Lemmas for the crates above, by subject.
-- What the heads of inputs say where a merger stops.
pub mod Stops
-- Where all inputs of a merger ended clean, and where one ended with a fault.
pub mod Clean
