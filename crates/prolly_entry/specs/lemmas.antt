-- Lemmas for the crates above, by subject: what a proof may use of this crate beside its contracts.
-- Lists: their fronts, what holds of all elements, what is behind an offset.
pub mod Lists
-- The order of keys.
pub mod Orders
-- Lists of records whose keys rise.
pub mod RisingRecords
-- Overlays of lists of records.
pub mod Overlays
-- Spellings: that none begins another, and what stands where in them.
pub mod Spellings
