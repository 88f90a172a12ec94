-- The pairs of a map from a key on, and marks of how many are left.
use Rattle.std.specs.Prelude.{◌≡◌, ℕ, not, List, ◌++◌, length}
use Rattle.std.specs.Ordering.{is_lt}
use Rattle.std.specs.List.{filter}
use Rattle.prolly_entry.specs.Keys.{key_order}
use Rattle.prolly_entry.specs.Pair.{Pair}
use Rattle.prolly_tree.specs.RecordFile.{record_file}

-- The pairs whose key is not less than `from`.
abbrev pub pairs_from : List ℕ → List Pair → List Pair
pairs_from from pairs = filter (λ p. not (is_lt (key_order p.key from))) pairs

-- So many bytes are those of the last ones of these pairs.
pub record IsLeft (all : List Pair) (left : ℕ) : Type 0 where
  pub before : List Pair
  pub rest : List Pair
  pub are : all ≡ before ++ rest
  pub is : left ≡ length (record_file rest)
