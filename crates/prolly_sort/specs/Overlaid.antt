-- Records that come one after another, of which the last one of a key counts. (This project's
-- rules.)
use Rattle.std.specs.Prelude.{◌≡◌, ℕ, List, [], ◌∷◌, map}
use Rattle.std.specs.List.{flat_map}
use Rattle.prolly_entry.specs.Keys.{Rising}
use Rattle.prolly_entry.specs.Overlay.{raw_overlay}
use Rattle.prolly_entry.specs.Record.{Record, keys_of}
use Rattle.prolly_entry.specs.Spelling.{record_spelling}

-- Each record as a list of its own.
abbrev pub singles : List Record → List (List Record)
singles records = map (λ r. r ∷ []) records

-- What records come to that come one after another: their raw overlay, where each is a list of its
-- own. So the last record of a key counts, and a removal stays a removal.
abbrev pub overlaid : List Record → List Record
overlaid records = raw_overlay (singles records)

-- The record file of records: their spellings, one after another.
abbrev pub written : List Record → List ℕ
written records = flat_map record_spelling records

-- Law: records whose keys rise come to themselves.
abbrev pub RisingComeToThemselves : Type 0
RisingComeToThemselves = (records : List Record) → Rising (keys_of records) →
    overlaid records ≡ records

-- Law: records may be overlaid part by part. The raw overlay of what the parts come to is what the
-- whole comes to.
abbrev pub PartsComeToTheWhole : Type 0
PartsComeToTheWhole = (parts : List (List Record)) →
    raw_overlay (map overlaid parts) ≡ overlaid (flat_map (λ records. records) parts)
