-- What the sides of a walk over two maps have in hand, and which of them comes first.
pub mod Sides
