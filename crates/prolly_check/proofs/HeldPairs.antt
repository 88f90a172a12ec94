-- The pairs that chunks hold, chunk after chunk.
use Rattle.std.proofs.Common.{rules, ◌≡◌, ℕ, List, [], ◌∷◌, ◌++◌, map, refl, ap, arith}
use Rattle.std.specs.List.{flat_map}
use Rattle.prolly_entry.specs.Pair.{Pair}
use Rattle.prolly_entry.specs.declared.version.Version.{Version}
use Rattle.prolly_tree.specs.lemmas.Splits.{flat}
use Rattle.prolly_look_up.specs.Entries.{AreWhole}
use Rattle.prolly_look_up.specs.HeldPairs.{pairs_held}
use Rattle.prolly_look_up.specs.lemmas.HeldPairs.{held_is}
use Rattle.prolly_check.specs.ReadChunks.{AllHold}

pub flat_held : (chunks : List (List ℕ)) → flat (map pairs_held chunks) ≡ flat_map pairs_held chunks
flat_held [] = refl
flat_held (chunk ∷ chunks) = ap (λ ps. pairs_held chunk ++ ps) (flat_held chunks)

module _ (version : Version) where
  -- chunks that have lists of pairs have just these
  pub lists_are : (chunks : List (List ℕ)) (lists : List (List Pair)) →
      AllHold version chunks lists → lists ≡ map pairs_held chunks
  lists_are [] [] h = refl
  lists_are [] (held ∷ lists) h = absurd h
  lists_are (chunk ∷ chunks) [] h = absurd h
  lists_are (chunk ∷ chunks) (held ∷ lists) h = search (rules, held_is version, lists_are chunks lists h.1)

  -- and they are whole; whole chunks have them
  pub are_whole : (chunks : List (List ℕ)) (lists : List (List Pair)) →
      AllHold version chunks lists → AreWhole version chunks
  are_whole [] lists h = tt
  are_whole (chunk ∷ chunks) [] h = absurd h
  are_whole (chunk ∷ chunks) (held ∷ lists) h = search (rules, are_whole chunks lists h.1)

  pub all_hold : (chunks : List (List ℕ)) → AreWhole version chunks →
      AllHold version chunks (map pairs_held chunks)
  all_hold [] w = tt
  all_hold (chunk ∷ chunks) w = grind (arith, held_is version, all_hold chunks w.1)
