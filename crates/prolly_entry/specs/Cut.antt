-- Cuts: which entries end a chunk. (SHA-512 is that of FIPS 180-4. The rest is this project's
-- format: Noms decides by a rolling hash over a window of bytes, here the hash of exactly one entry
-- decides.)
use Rattle.std.specs.Prelude.{ℕ, ◌-◌, ◌%◌, ◌^◌, Bool, ◌&&◌, ◌==◌, nat_le, List, length, take, drop}
use Rattle.std.specs.Prelude.{slice_index}
use Rattle.std.specs.Int.{w16, w32, from_be_bytes}
use Rattle.sha2.specs.Sha512.{sha512}

-- A cut: a number, and which entries, seen as their spellings, are boundaries.
pub record Cut : Type 0 where
  pub bits : ℕ
  pub is_boundary : List ℕ → Bool

-- The boundary number of an entry: the big-endian number in the bytes 20 to 23, counted from 0, of
-- its SHA-512.
unfoldable pub boundary_number : List ℕ → ℕ
boundary_number entry = from_be_bytes w32 (take 4 (drop 20 (sha512 entry)))

-- The cut of q bits: an entry is a boundary where its boundary number is a multiple of 2 ^ q.
abbrev pub sha512_cut : ℕ → Cut
sha512_cut q = record { bits = q; is_boundary = λ entry. boundary_number entry % 2 ^ q == 0 }

-- The entry has a key of at least one byte by its first two bytes, it holds that key whole, and the
-- key ends with `!`.
abbrev pub ends_with_mark : List ℕ → Bool
ends_with_mark entry = let n = from_be_bytes w16 (take 2 entry) in let key =
    take n (drop 2 entry) in
    nat_le 1 n && (length key == n) && (slice_index key (n - 1) == 0x21)

-- The cut of examples and tests, whose boundaries a reader sees: those entries. Its number, 255, is
-- one that no lawful chunk file has.
abbrev pub key_cut : Cut
key_cut = record { bits = 255; is_boundary = ends_with_mark }
