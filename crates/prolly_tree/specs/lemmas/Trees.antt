-- Trees, their chunks and their files.
use Rattle.std.proofs.Common.{◌≡◌, ℕ, zero, suc, ◌<◌, inl, inr, List, [], ◌∷◌, ◌++◌, length, refl}
use Rattle.std.proofs.Common.{ap, arith}
use Rattle.std.specs.List.{flat_map, AllByRecursion}
use Rattle.prolly_entry.specs.Pair.{Pair}
use Rattle.prolly_tree.specs.Chunk.{IsIn}
use Rattle.prolly_tree.specs.Tree.{Tree, pairs_below}

-- What is in a list is in it with more behind it.
pub in_front : {A : Type 0} (x : A) (xs ys : List A) → IsIn x xs → IsIn x (xs ++ ys)
in_front x [] ys h = absurd h
in_front x (y ∷ xs) ys (inl e) = inl e
in_front x (y ∷ xs) ys (inr h) = inr (in_front x xs ys h)

-- What is in a list is in it with more in front of it.
pub in_back : {A : Type 0} (x : A) (xs ys : List A) → IsIn x ys → IsIn x (xs ++ ys)
in_back x [] ys h = h
in_back x (y ∷ xs) ys h = inr (in_back x xs ys h)

-- Each leaf has pairs, and each node has children.
abbrev pub Full : (level : ℕ) → Tree level → Type 0
Full zero leaf = 0 < length leaf
Full (suc level) ts = (0 < length ts) × AllByRecursion (Full level) ts

-- A full tree has a first pair.
pub full_pairs : (level : ℕ) (t : Tree level) → Full level t →
    (p : Pair) × ((ps : List Pair) × (pairs_below level t ≡ p ∷ ps))
full_pairs zero [] h = absurd (omega arith)
full_pairs zero (p ∷ ps) h = (p, (ps, refl))
full_pairs (suc level) [] h = absurd (let z : 0 < 0 = h.0 in omega arith)
full_pairs (suc level) (t ∷ ts) h = let r = full_pairs level t h.1.0 in (
  r.0,
  (
    r.1.0 ++ flat_map (pairs_below level) ts,
    ap (λ x. x ++ flat_map (pairs_below level) ts) r.1.1,
  ),
)
