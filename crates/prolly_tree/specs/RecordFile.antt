-- The record file of a map. (This project's format.)
use Rattle.std.specs.Prelude.{◌≡◌, ℕ, ◌≤◌, List, [], ◌∷◌, length, Option, None}
use Rattle.std.specs.List.{flat_map, AllByRecursion}
use Rattle.prolly_entry.specs.declared.next.Flaw.{Flaw}
use Rattle.prolly_entry.specs.declared.version.Version.{Version}
use Rattle.prolly_entry.specs.Cut.{Cut}
use Rattle.prolly_entry.specs.Overlay.{overlay}
use Rattle.prolly_entry.specs.Pair.{Pair, IsPair}
use Rattle.prolly_entry.specs.Reading.{IsReading}
use Rattle.prolly_entry.specs.Record.{Record}
use Rattle.prolly_entry.specs.Spelling.{pair_spelling}
use Rattle.prolly_tree.specs.Difference.{IsMap, puts}
use Rattle.prolly_tree.specs.File.{file}

-- The record file of a map: the spellings of its pairs, one after another.
abbrev pub record_file : List Pair → List ℕ
record_file m = flat_map pair_spelling m

-- Law: the record file of a map is read as the records that put its pairs, and ends clean; the
-- overlay of these alone is the map.
abbrev pub RecordFilesAreRead : Type 0
RecordFilesAreRead = (m : List Pair) (limit : ℕ) → IsMap m → AllByRecursion IsPair m →
    length m ≤ limit →
    IsReading (record_file m) limit (puts m) None × (overlay (puts m ∷ []) ≡ m)

-- Law: what is read of it makes the map's file again, byte for byte.
abbrev pub RecordFilesMakeFiles : Type 0
RecordFilesMakeFiles = (cut : Cut) (version : Version) (m : List Pair) (limit : ℕ)
    (good : List Record) (ending : Option Flaw) →
    IsMap m → AllByRecursion IsPair m → length m ≤ limit →
    IsReading (record_file m) limit good ending →
    (ending ≡ None) × (file cut version (overlay (good ∷ [])) ≡ file cut version m)
