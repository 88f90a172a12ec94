-- The lines that are told of a set of keys, as its proof is read.
use Rattle.std.specs.List.{filter, list_any}
use Rattle.std.specs.Ordering.{is_lt}
use Rattle.std.specs.Prelude.{ℕ, Bool, not, List, []}
use Rattle.prolly_entry.specs.Keys.{Rising, key_order}
use Rattle.prolly_entry.specs.Pair.{Pair}
use Rattle.prolly_range.specs.Found.{AreSomeOf}
use Rattle.prolly_range.specs.KeySet.{KeySet}
use Rattle.prolly_range.specs.KeySet.KeySet.{Keys, Range}
use Rattle.prolly_text.specs.declared.notation.Notation.{Notation}
use Rattle.prolly_answer.specs.KeyLookUps.{found_at, found_lines}
use Rattle.prolly_answer.specs.LookUps.{pair_lines}

-- The key is past: a pair was shown whose key is not less.
abbrev pub is_past : List Pair → List ℕ → Bool
is_past shown key = list_any (λ p. not (is_lt (key_order p.key key))) shown

-- Those of the keys that are past.
abbrev pub keys_past : List Pair → List (List ℕ) → List (List ℕ)
keys_past shown keys = filter (is_past shown) keys

-- The other keys of the list.
abbrev pub keys_left : List Pair → List (List ℕ) → List (List ℕ)
keys_left shown keys = filter (λ key. not (is_past shown key)) keys

-- The lines that were told when these pairs were shown: of a range one for each of them; of a list
-- one for each key that is past, with what was shown there.
abbrev pub lines_so_far : Notation → KeySet → List Pair → List ℕ
lines_so_far notation (Range from to) shown = pair_lines notation shown
lines_so_far notation (Keys keys) shown =
    found_lines notation (found_at shown (keys_past shown keys))

-- And once all was shown: of a list then one for each key.
abbrev pub lines_at_end : Notation → KeySet → List Pair → List ℕ
lines_at_end notation (Range from to) shown = pair_lines notation shown
lines_at_end notation (Keys keys) shown = found_lines notation (found_at shown keys)

-- ---- chunk by chunk

-- The keys of a list rise.
abbrev pub RisesIn : KeySet → Type 0
RisesIn (Range from to) = Unit {0}
RisesIn (Keys keys) = Rising keys

-- The pairs of one more chunk are of the keys that are left of a list, in their order.
abbrev pub FitsLeft : KeySet → List (List ℕ) → List Pair → Type 0
FitsLeft (Range from to) left shown = Unit {0}
FitsLeft (Keys keys) left shown = Rising left × AreSomeOf shown left

-- The lines that are told of them, where these keys are left.
abbrev pub more_lines : Notation → KeySet → List (List ℕ) → List Pair → List ℕ
more_lines notation (Range from to) left shown = pair_lines notation shown
more_lines notation (Keys keys) left shown =
    found_lines notation (found_at shown (keys_past shown left))

-- The keys that are left behind them.
abbrev pub left_behind : KeySet → List (List ℕ) → List Pair → List (List ℕ)
left_behind (Range from to) left shown = left
left_behind (Keys keys) left shown = keys_left shown left

-- The keys of a list, which are all left at first.
abbrev pub left_at_first : KeySet → List (List ℕ)
left_at_first (Range from to) = []
left_at_first (Keys keys) = keys

-- A line for each key alone.
abbrev pub alone_lines : Notation → List (List ℕ) → List ℕ
alone_lines notation keys = found_lines notation (found_at [] keys)
