-- The way of a scan down a tree, for who knows the root alone. (This project's rules.)
use Rattle.std.specs.Prelude.{◌≡◌, ℕ, ◌⊎◌, List, [], ◌∷◌, ◌++◌}
use Rattle.std.specs.List.{AllByRecursion, flat_map}
use Rattle.prolly_entry.specs.Cut.{sha512_cut}
use Rattle.prolly_entry.specs.Pair.{Pair, IsPair}
use Rattle.prolly_entry.specs.declared.version.Version.{Version}
use Rattle.prolly_tree.specs.Difference.{IsMap}
use Rattle.prolly_tree.specs.File.{root_reference}
use Rattle.prolly_tree.specs.Tree.{last_key}
use Rattle.prolly_look_up.specs.HeldPairs.{pairs_held}
use Rattle.prolly_look_up.specs.Content.{chunk_bytes}
use Rattle.prolly_look_up.specs.PairsFrom.{pairs_from}
use Rattle.prolly_look_up.specs.Sought.Sought.{Key}
use Rattle.prolly_look_up.specs.Way.{Clash, IsWayTo}

-- The chunks are the way of a look-up of the key, which finds these pairs: those of the last one
-- whose key is not below the key. (A node holds no pairs.)
pub record IsScanWay (version : Version) (root key : List ℕ) (chunks : List (List ℕ))
    (found : List Pair) : Type 0 where
  pub way : IsWayTo version root (Key key) chunks
  pub found_is : found ≡ pairs_from key (pairs_held way.last)

-- The least key that is greater than this one.
abbrev pub next_key : List ℕ → List ℕ
next_key key = key ++ 0 ∷ []

-- These are the first pairs of the map from the key on, and the others are those from behind the
-- last of them on; and where these are none, the map has none.
abbrev pub AreFirstFrom : List ℕ → List Pair → List Pair → Type 0
AreFirstFrom key m [] = pairs_from key m ≡ []
AreFirstFrom key m (p ∷ ps) =
    pairs_from key m ≡ (p ∷ ps) ++ pairs_from (next_key (last_key (p ∷ ps))) m

-- Law: whoever knows the reference of a map's root knows by such a way the first pairs that the map
-- has from the key on, whatever the bits of the map's tree; or else a chunk of the way and a
-- different one of the tree have one reference.
abbrev pub ScansAreRight : Type 0
ScansAreRight = (version : Version) (bits : ℕ) (m : List Pair) (key : List ℕ)
    (chunks : List (List ℕ)) (found : List Pair) → IsMap m → AllByRecursion IsPair m →
    IsScanWay version (root_reference (sha512_cut bits) version m) key chunks found →
    AreFirstFrom key m found ⊎ Clash chunks (chunk_bytes version bits m)

-- ---- leaf by leaf

-- The lists, one behind another.
abbrev pub joined : {A : Type 0} → List (List A) → List A
joined lists = flat_map (λ list. list) lists

-- Where a scan from the key on goes on once it has found these pairs.
abbrev pub from_behind : List ℕ → List Pair → List ℕ
from_behind from [] = from
from_behind from (p ∷ ps) = next_key (last_key (p ∷ ps))

-- By these ways these lists of pairs were found one after another, the first from the key on, and
-- each other one from behind those before it.
abbrev pub AreScanned : Version → List ℕ → List ℕ → List (List Pair) → List (List (List ℕ)) →
    Type 0
AreScanned version root from [] [] = Unit {0}
AreScanned version root from [] (way ∷ ways) = ⊥
AreScanned version root from (found ∷ lists) [] = ⊥
AreScanned version root from (found ∷ lists) (way ∷ ways) =
    IsScanWay version root from way found ×
    AreScanned version root (from_behind from found) lists ways

-- The last of the lists is empty.
abbrev pub EndsEmpty : List (List Pair) → Type 0
EndsEmpty [] = ⊥
EndsEmpty (found ∷ []) = found ≡ []
EndsEmpty (found ∷ more ∷ lists) = EndsEmpty (more ∷ lists)

-- The lists have the first pairs of the map from the key on, and all of them where the last is
-- empty.
pub record HaveFirstFrom (from : List ℕ) (m : List Pair) (lists : List (List Pair)) : Type 0 where
  pub others : List Pair
  pub are : pairs_from from m ≡ joined lists ++ others
  pub all : EndsEmpty lists → others ≡ []

-- Law: so does who knows the reference of a map's root know of lists that were found so; or else a
-- chunk of the ways and a different one of the tree have one reference.
abbrev pub ScansGoOn : Type 0
ScansGoOn = (version : Version) (bits : ℕ) (m : List Pair) (from : List ℕ)
    (lists : List (List Pair)) (ways : List (List (List ℕ))) → IsMap m → AllByRecursion IsPair m →
    AreScanned version (root_reference (sha512_cut bits) version m) from lists ways →
    HaveFirstFrom from m lists ⊎ Clash (joined ways) (chunk_bytes version bits m)
