-- Pairs that were found, as keys and values that are borrowed.
use Rattle.std.specs.Prelude.{ℕ, List, Option, option_map}
use Rattle.std.specs.Borrow.{Bor}
use Rattle.prolly_entry.specs.Pair.{Pair}

-- The pair of a key and a value that were found.
abbrev pub pair_found : Option (Bor (List ℕ) × Bor (List ℕ)) → Option Pair
pair_found found = option_map (λ parts. record { key = parts.0.now; value = parts.1.now }) found
