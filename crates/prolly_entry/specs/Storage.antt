-- How a pair is kept, and what it carries. (This project's own; no promise outside rests on it.)
use Rattle.std.specs.Prelude.{◌≡◌, ℕ, ◌+◌, ◌-◌, ◌≤◌, List, length, vec_len, take, drop, Option}
use Rattle.std.specs.Prelude.{IfSome}
use Rattle.prolly_entry.specs.Cut.{boundary_number}
use Rattle.prolly_entry.specs.Pair.{Pair, IsPair}
use Rattle.prolly_entry.specs.Spelling.{pair_spelling}
use Rattle.prolly_entry.specs.declared.storage.Storage.{Storage}
use Rattle.prolly_entry.specs.declared.storage.TheConstants.{IN_PLACE_LIMIT}
use Rattle.prolly_entry.specs.declared.storage.Storage.TheVariants.{Apart, Block, InPlace}

-- The pair whose spelling the bytes are, where its key ends there.
abbrev pub pair_of : List ℕ → ℕ → Pair
pair_of bytes key_end = record {
  key = take (key_end - 2) (drop 2 bytes);
  value = drop (key_end + 4) bytes;
}

-- The pair that is kept so.
abbrev pub pair_in : Storage → Pair
pair_in (Apart key value) = record { key = key.items; value = value.items }
pair_in (Block spelling key_end) = pair_of spelling.items key_end
pair_in (InPlace bytes key_end len) = pair_of (take len bytes) key_end

-- The bytes are the spelling of a lawful pair whose key ends there.
pub record IsSpelling (bytes : List ℕ) (key_end : ℕ) : Type 0 where
  pub lawful : IsPair (pair_of bytes key_end)
  pub spelled : bytes ≡ pair_spelling (pair_of bytes key_end)
  pub begun : 2 ≤ key_end
  pub within : key_end + 4 ≤ length bytes

-- What is kept is lawful.
abbrev pub IsStored : Storage → Type 0
IsStored (Apart key value) = (vec_len key ≤ 1024) × (vec_len value ≤ 65536)
IsStored (Block spelling key_end) = IsSpelling spelling.items key_end
IsStored (InPlace bytes key_end len) = (len ≤ IN_PLACE_LIMIT) × IsSpelling (take len bytes) key_end

-- The boundary number that a pair carries, where it carries one, is that of its spelling.
abbrev pub IsCarried : Pair → Option ℕ → Type 0
IsCarried pair carried = IfSome carried (λ number. number ≡ boundary_number (pair_spelling pair))
