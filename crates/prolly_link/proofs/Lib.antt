-- One more message, and the whole of a closed list.
pub mod MessageLemmas
-- One more message of a receiver that was open.
pub mod AgreementLemmas
-- The items of batches, and room for them.
pub mod BatchLemmas
-- What is left of the batch in hand, as items are given and batches come.
pub mod HandLemmas
-- What came of a link, beside all that was sent.
pub mod PassingLemmas
-- A receiver once it gave one thing more.
pub mod FollowingLemmas
