-- What is due below a chunk.
use Rattle.std.proofs.Common.{◌≡◌, ℕ, zero, suc, ◌<◌, List, [], ◌∷◌, length, map, drop, take, ◌-◌}
use Rattle.std.proofs.Common.{ap, ◌∙◌, arith, Some}
use Rattle.std.proofs.lemmas.List.{length-drop, take_all}
use Rattle.std.proofs.lemmas.Simd.{map-map}
use Rattle.prolly_look_up.specs.Entries.{children_in}
use Rattle.prolly_look_up.specs.Kinds.{kind_of}
use Rattle.prolly_look_up.specs.Way.{level_of}
use Rattle.prolly_entry.specs.declared.version.Version.{Version}
use Rattle.prolly_range.specs.Children.{SeenMet, seen_met}
use Rattle.prolly_range.specs.Dues.{seen_due}
use Rattle.prolly_range.specs.KeySet.{KeySet, met_in}
use Rattle.prolly_range.specs.SetProof.{due_below}

-- bytes behind the first one are what the slice of them is
pub behind_first : (bytes : List ℕ) → take (length bytes - 1) (drop 1 bytes) ≡ drop 1 bytes
behind_first bytes =
    take_all (length bytes - 1) (drop 1 bytes) (omega (arith, length-drop 1 bytes))

-- the children of a node that are met are due below it
pub below_node : (version : Version) (set : KeySet) (chunk : List ℕ) (met : List SeenMet) →
    0 < level_of chunk →
    met ≡ map seen_met (met_in (λ c. c.key) 0 (Some set) (children_in version (drop 1 chunk))) →
    map (seen_due (level_of chunk)) met ≡ due_below (level_of chunk) set (kind_of version chunk)
below_node version set [] met high e = absurd (omega (arith, high))
below_node version set (zero ∷ entries) met high e = absurd (omega (arith, high))
below_node version set (suc level ∷ entries) met high e =
    ap (map (seen_due (suc level))) e ∙ map-map (seen_due (suc level)) seen_met
    (met_in (λ c. c.key) 0 (Some set) (children_in version entries))
