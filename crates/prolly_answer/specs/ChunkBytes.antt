-- The bits by which chunks have about so many bytes.
use Rattle.std.specs.Prelude.{◌≡◌, ℕ, ◌+◌, ◌*◌, ◌/◌, ◌^◌, ◌<◌, ◌≤◌, List, [], ◌∷◌, ◌++◌, length}
use Rattle.std.specs.Prelude.{Option, Some, None, codes}
use Rattle.std.specs.Fmt.{decimal}
use Rattle.std.specs.List.{flat_map}
use Rattle.prolly_entry.specs.declared.next.Flaw.{Flaw}
use Rattle.prolly_entry.specs.Overlay.{pairs_put}
use Rattle.prolly_entry.specs.Reading.{IsReading}
use Rattle.prolly_entry.specs.Record.{Record}
use Rattle.prolly_entry.specs.Spelling.{pair_spelling}
use Rattle.prolly_answer.specs.declared.chunk_bytes.chosen_bits.ChosenBits.{ChosenBits}

-- What was seen of the first 1,000,000 bytes of record files: how many of these are still to be read,
-- how many entries of leaves their records put, and how many bytes these entries have.
pub record Sampled : Type 0 where
  pub left : ℕ
  pub entries : ℕ
  pub bytes : ℕ

-- Nothing was seen yet.
abbrev pub nothing_sampled : Sampled
nothing_sampled = record { left = 1000000; entries = 0; bytes = 0 }

-- How many bytes of leaves the entries of the pairs have that records put.
abbrev pub entry_bytes : List Record → ℕ
entry_bytes records = length (flat_map pair_spelling (pairs_put records))

-- The whole and good records with which the first bytes of a record file begin put so many entries,
-- which have so many bytes.
pub record ArePuts (front : List ℕ) (entries bytes : ℕ) : Type 0 where
  pub good : List Record
  pub ending : Option Flaw
  pub reading : IsReading front 16777216 good ending
  pub entries_are : entries ≡ length (pairs_put good)
  pub bytes_are : bytes ≡ entry_bytes good
  pub some : entries ≤ bytes
  pub within : bytes ≤ length front

-- The first bytes of one more record file were seen.
pub record Samples (front : List ℕ) (old new : Sampled) : Type 0 where
  pub entries : ℕ
  pub bytes : ℕ
  pub puts : ArePuts front entries bytes
  pub left_is : new.left + length front ≡ old.left
  pub entries_are : new.entries ≡ old.entries + entries
  pub bytes_are : new.bytes ≡ old.bytes + bytes

-- How many bytes a chunk has on average by bits, where an entry has so many.
abbrev pub chunk_size : ℕ → ℕ → ℕ
chunk_size entry bits = 2 ^ bits * entry

-- What is wanted is at most 1.4 times the size.
abbrev pub IsEnough : ℕ → ℕ → Type 0
IsEnough size wanted = 5 * wanted ≤ 7 * size

-- The least bits from 2 to 24 by which the size of a chunk is enough, or 24 bits where fewer are not.
-- So where some bits are enough, and 2 bits are not, the size lies between 5/7 and 10/7 of what is
-- wanted.
pub record AreLeast (entry wanted bits : ℕ) : Type 0 where
  pub some : 2 ≤ bits
  pub within : bits ≤ 24
  pub enough : bits < 24 → IsEnough (chunk_size entry bits) wanted
  pub least : (fewer : ℕ) → 2 ≤ fewer → fewer < bits →
      IsEnough (chunk_size entry fewer) wanted → ⊥

-- The bits that are chosen by the mean of the entries that were seen; none where there were none.
abbrev pub IsChoice : Sampled → ℕ → Option ChosenBits → Type 0
IsChoice sampled wanted None = sampled.entries ≡ 0
IsChoice sampled wanted (Some chosen) =
    (0 < sampled.entries)
    × (chosen.mean ≡ sampled.bytes / sampled.entries)
    × AreLeast chosen.mean wanted chosen.bits

-- The line that says that the bits are the default.
abbrev pub default_note : ℕ → List ℕ
default_note bits = codes "prolly: --bits" ++ (0x20 ∷ decimal bits)
    ++ codes ", since no record was seen" ++ 0x0A ∷ []

-- The line that says that the bits were chosen by a mean.
abbrev pub chosen_note : ℕ → ℕ → List ℕ
chosen_note bits mean = codes "prolly: --bits" ++ (0x20 ∷ decimal bits)
    ++ codes ", since a record has" ++ (0x20 ∷ decimal mean) ++ codes " bytes on average"
    ++ 0x0A ∷ []

-- The line that says which bits a tree has.
abbrev pub note_line : ℕ → Option ChosenBits → List ℕ
note_line default None = default_note default
note_line default (Some chosen) = chosen_note chosen.bits chosen.mean
