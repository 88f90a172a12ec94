-- Which link an end is of.
pub mod Identity
-- What a contract sees of the ends of a link.
pub mod Views
-- The messages of a link: items, and then at most one end.
pub mod Message
-- What a contract sees of the two ends of a ring of messages.
pub mod Rings
-- How far a receiver has come, by the messages that it popped.
pub mod Receiver
-- What is said of a fault of a run. (This project's texts.)
pub mod FaultTexts
-- What a receiver gives, and how far it has come by that.
pub mod Progress
-- What stands in a list before its end.
pub mod Fronts
-- What a list gained at its end.
pub mod Growth
-- A receiver, and the same one later.
pub mod LaterReceiver
-- The messages that passed the ends of a link.
pub mod PassedMessages
-- What draining a receiver leaves.
pub mod Drained
-- What an end over a list has left: items and then an end, or the end alone again and again.
pub mod ListIn
-- What a list lost at its front, in one stretch after another and in all.
pub mod ListInLaws
-- Batches of items.
pub mod Batch
-- The open batch of a sender.
pub mod BatchSender
-- The batch that a receiver has in hand.
pub mod BatchReceiver
-- What draining a receiver of batches leaves.
pub mod BatchDrained
