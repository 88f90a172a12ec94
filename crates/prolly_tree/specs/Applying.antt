-- What comes of changes that are laid over a map. (This project's rules.)
use Rattle.std.specs.Prelude.{◌≡◌, List, [], ◌∷◌}
use Rattle.prolly_entry.specs.declared.version.Version.{Version}
use Rattle.prolly_entry.specs.Cut.{Cut}
use Rattle.prolly_entry.specs.Keys.{Rising}
use Rattle.prolly_entry.specs.Overlay.{overlay, raw_overlay}
use Rattle.prolly_entry.specs.Pair.{Pair}
use Rattle.prolly_entry.specs.Record.{Record, keys_of}
use Rattle.prolly_tree.specs.Difference.{IsDifference, IsMap, puts}
use Rattle.prolly_tree.specs.File.{file}

-- The map that changes make of a map.
abbrev pub applied : List Pair → List Record → List Pair
applied m changes = overlay (puts m ∷ changes ∷ [])

-- Law: to lay changes over what came of others is to lay both over the map, or their overlay.
abbrev pub AppliedTwice : Type 0
AppliedTwice = (m : List Pair) (d e : List Record) → IsMap m → Rising (keys_of d) →
    Rising (keys_of e) →
    (applied (applied m d) e ≡ overlay (puts m ∷ d ∷ e ∷ []))
    × (overlay (puts m ∷ d ∷ e ∷ []) ≡ applied m (raw_overlay (d ∷ e ∷ [])))

-- Law: no changes leave a map as it is.
abbrev pub NoneApplied : Type 0
NoneApplied = (m : List Pair) → IsMap m → applied m [] ≡ m

-- Law: so no changes leave a file as it is, the difference of two maps turns the one's file into
-- the other's, and changes that are applied one after another make the file of their overlay.
abbrev pub FilesApply : Cut → Version → Type 0
FilesApply cut version =
    ((m : List Pair) → IsMap m → file cut version (applied m []) ≡ file cut version m)
    × ((old new : List Pair) (d : List Record) → IsMap old → IsMap new → IsDifference old new d →
    file cut version (applied old d) ≡ file cut version new)
    × ((m : List Pair) (d e : List Record) → IsMap m → Rising (keys_of d) → Rising (keys_of e) →
    file cut version (applied (applied m d) e) ≡
    file cut version (applied m (raw_overlay (d ∷ e ∷ []))))
