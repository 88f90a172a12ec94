-- The open batch of a sender.
use Rattle.std.specs.Prelude.{ℕ, ◌-◌, ◌<◌, ◌≤◌, List, ◌++◌, nat_le, if◌then◌else◌}
use Rattle.prolly_link.specs.Views.{Sending, Batching}
use Rattle.prolly_link.specs.Batch.{items_of}

-- for how many more items room was taken, in an open batch that has `count` of them
abbrev pub room_taken : ℕ → ℕ → ℕ → ℕ
room_taken size capacity count = if nat_le size capacity then size - count else 0

-- an open batch has fewer items than a full one, and where it has some, room for a full one was
-- taken
pub record IsOpenBatch (size capacity count : ℕ) : Type 0 where
  pub least : 1 ≤ size
  pub below : count < size
  pub has_room : 0 < count → size ≤ capacity

-- a sender of batches: the items of those sent, and of the open one
abbrev pub batching_of : {T : Type 0} → Sending (List T) → List T → ℕ → ℕ → ℕ → Batching T
batching_of s pending room size bytes = record {
  link = s.link;
  items = items_of s.items ++ pending;
  room = room;
  batch = size;
  held = bytes;
}

-- how many items still fit into the batch that the next item goes into
abbrev pub room_ahead : {T : Type 0} → Batching T → ℕ
room_ahead s = if nat_le 1 s.room then s.room else s.batch

-- how many bytes the open batch has: none where no room is left, since it was sent then
abbrev pub held_in : ℕ → ℕ → ℕ
held_in room bytes = if nat_le 1 room then bytes else 0
