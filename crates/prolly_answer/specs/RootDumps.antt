-- What a dump by the root has of the map with that root.
use Rattle.std.specs.Prelude.{◌≡◌, ◌⊎◌, ℕ, List, [], ◌++◌}
use Rattle.std.specs.List.{AllByRecursion}
use Rattle.prolly_look_up.specs.Content.{chunk_bytes}
use Rattle.prolly_look_up.specs.ScanWay.{AreScanned, EndsEmpty, joined}
use Rattle.prolly_look_up.specs.Way.{Clash}
use Rattle.prolly_entry.specs.Cut.{sha512_cut}
use Rattle.prolly_entry.specs.Pair.{Pair, IsPair}
use Rattle.prolly_entry.specs.declared.version.Version.{Version}
use Rattle.prolly_tree.specs.Difference.{IsMap}
use Rattle.prolly_tree.specs.File.{root_reference}

-- The lists have the first pairs of the map, and all of them where the last is empty.
pub record HaveFirst (m : List Pair) (lists : List (List Pair)) : Type 0 where
  pub others : List Pair
  pub are : m ≡ joined lists ++ others
  pub all : EndsEmpty lists → others ≡ []

-- Law: whoever knows the reference of a map's root knows of lists that were found so that they have
-- the first pairs of the map, and all of them where the last is empty, whatever the bits of the
-- map's tree; or else a chunk of the ways and a different one of the tree have one reference.
abbrev pub DumpsAreRight : Type 0
DumpsAreRight = (version : Version) (bits : ℕ) (m : List Pair) (lists : List (List Pair))
    (ways : List (List (List ℕ))) → IsMap m → AllByRecursion IsPair m →
    AreScanned version (root_reference (sha512_cut bits) version m) [] lists ways →
    HaveFirst m lists ⊎ Clash (joined ways) (chunk_bytes version bits m)
