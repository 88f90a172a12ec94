-- Reading the keys of one chunk, one after another.
use Rattle.std.proofs.Common.{◌≡◌, ℕ, true, List, Some, None, refl, Ordering}
use Rattle.std.specs.Ordering.{is_lt}
use Rattle.std.specs.declared.cmp.Ordering.TheVariants.{Less, Equal, Greater}
use Rattle.std.proofs.lemmas.Bool.{false≢true}
use Rattle.prolly_entry.specs.Keys.{Rising, RisingFrom}
use Rattle.prolly_entry.specs.Position.{Position}

pub is_less : (o : Ordering) → is_lt o ≡ true → o ≡ Less
is_less Less h = refl
is_less Equal h = absurd (false≢true h)
is_less Greater h = absurd (false≢true h)

-- The keys rise, the first one behind this position.
abbrev pub RisesOn : Position → List (List ℕ) → Type 0
RisesOn None keys = Rising keys
RisesOn (Some last) keys = RisingFrom last keys
