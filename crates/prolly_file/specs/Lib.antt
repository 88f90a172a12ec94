-- What the plain builder answers.
pub mod Scratch
-- What making the levels of a tree may come to.
pub mod Levels
-- What is said of faults. (This project's texts.)
pub mod FaultTexts
