-- A child entry that bytes begin with.
use Rattle.std.specs.Prelude.{◌≡◌, ℕ, ◌+◌, ◌-◌, ◌≤◌, List, ◌++◌, length, take, drop}
use Rattle.std.specs.Int.{w64, from_be_bytes}
use Rattle.prolly_entry.specs.declared.version.Version.{Version}
use Rattle.prolly_entry.specs.declared.version.Version.TheVariants.{One, Two}
use Rattle.prolly_entry.specs.declared.child.ChildAt.{ChildAt}
use Rattle.prolly_entry.specs.Spelling.{child_spelling}

-- The number of bytes behind a child entry's key: its reference and, in version Two, its count.
abbrev pub tail_length : Version → ℕ
tail_length One = 20
tail_length Two = 28

-- The key of the child entry that is said to lie there.
abbrev pub key_at : List ℕ → ChildAt → List ℕ
key_at bytes at = take (at.key_end - 2) (drop 2 bytes)

-- The reference of the child entry that is said to lie there.
abbrev pub reference_at : List ℕ → ChildAt → List ℕ
reference_at bytes at = take 20 (drop at.key_end bytes)

-- The count of the child entry that is said to lie there. (Version One has none; whatever number
-- stands for it is not spelled.)
abbrev pub count_at : List ℕ → ChildAt → ℕ
count_at bytes at = from_be_bytes w64 (take 8 (drop (at.key_end + 20) bytes))

-- A lawful child entry is the first `len` bytes, and its key ends at `key_end`.
pub record IsChildAt (version : Version) (bytes : List ℕ) (at : ChildAt) : Type 0 where
  pub spelled : bytes ≡ child_spelling version (key_at bytes at) (reference_at bytes at)
      (count_at bytes at) ++ drop at.len bytes
  pub key : length (key_at bytes at) ≤ 1024
  pub reference : length (reference_at bytes at) ≡ 20
  pub starts : 2 ≤ at.key_end
  pub ends : at.len ≡ at.key_end + tail_length version
  pub within : at.len ≤ length bytes

-- No lawful child entry begins the bytes.
abbrev pub NoChildAt : Version → List ℕ → Type 0
NoChildAt version bytes = (key reference : List ℕ) (count : ℕ) (more : List ℕ) →
    length key ≤ 1024 → length reference ≡ 20 →
    bytes ≡ child_spelling version key reference count ++ more → ⊥
