-- Lemmas for the crates above, by subject.
-- What a reader of a record file gave, so far and once it has ended.
pub mod Readers
-- What a writer of a record file wrote, once it is closed.
pub mod Writers
