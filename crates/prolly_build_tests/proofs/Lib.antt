-- What is so of each value is so of one that may be there, and of all of a list.
mod Given
