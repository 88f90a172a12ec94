-- How large overlays are, and that merged parts rise. (This project's rules.)
use Rattle.std.specs.Prelude.{◌≤◌, List, length}
use Rattle.std.specs.List.{flat_map}
use Rattle.prolly_entry.specs.Keys.{Rising}
use Rattle.prolly_tree.specs.Merge.{Input, raw_merged_part}
use Rattle.prolly_entry.specs.Overlay.{overlay}
use Rattle.prolly_entry.specs.Record.{Record, keys_of}

-- Law: the keys of a raw merged part rise, whatever the inputs.
abbrev pub MergedPartRises : Type 0 → Type 0
MergedPartRises Fault = (inputs : List (Input Fault)) → Rising (keys_of (raw_merged_part inputs))

-- Law: an overlay has at most as many pairs as the lists have records.
abbrev pub OverlayIsSmall : Type 0
OverlayIsSmall = (lists : List (List Record)) →
    length (overlay lists) ≤ length (flat_map (λ records. records) lists)
