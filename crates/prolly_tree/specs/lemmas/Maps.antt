-- Lists of pairs whose keys rise.
use Rattle.std.proofs.Common.{◌≡◌, ℕ, ◌<◌, ◌≤◌, ◌⊎◌, inl, inr, List, [], ◌∷◌, ◌++◌, length, map, refl}
use Rattle.std.proofs.Common.{None, sym, ap, ◌∙◌, subst, arith}
use Rattle.std.specs.List.{flat_map, AllByRecursion}
use Rattle.prolly_entry.specs.Keys.{KeyBelow, Rising, RisingFrom}
use Rattle.prolly_entry.specs.Pair.{Pair, IsPair}
use Rattle.prolly_entry.specs.Spelling.{pair_spelling}
use Rattle.prolly_entry.specs.lemmas.Lists.{all_front}
use Rattle.prolly_entry.specs.lemmas.Orders.{order_trans, not_eq_above}
use Rattle.prolly_entry.specs.lemmas.Spellings.{pair_spellings_apart}
pub use Rattle.prolly_tree.specs.Difference.{Above}
use Rattle.prolly_tree.specs.LookUp.{find}
use Rattle.prolly_tree.specs.Tree.{last_key}

-- The key is that of a pair of the list.
abbrev pub HasKey : List ℕ → List Pair → Type 0
HasKey key [] = ⊥
HasKey key (p ∷ ps) = (key ≡ p.key) ⊎ HasKey key ps

-- Each key of the list is above all keys before it.
abbrev pub Rises : List Pair → Type 0
Rises [] = Unit {0}
Rises (p ∷ ps) = Above p.key ps × Rises ps

-- A list of pairs has its last key.
pub has_last : (p : Pair) (ps : List Pair) → HasKey (last_key (p ∷ ps)) (p ∷ ps)
has_last p [] = inl refl
has_last p (q ∷ ps) = inr (has_last q ps)

-- Keys above a key are above all keys below that one.
pub above_more : (x y : List ℕ) (ps : List Pair) → KeyBelow x y → Above y ps → Above x ps
above_more x y [] h k = tt
above_more x y (p ∷ ps) h k = (order_trans x y p.key h k.0, above_more x y ps h k.1)

rises_from : (x : List ℕ) (ps : List Pair) → RisingFrom x (map (λ p. p.key) ps) →
    Above x ps × Rises ps
rises_from x [] h = (tt, tt)
rises_from x (p ∷ ps) h = let r = rises_from p.key ps h.1 in
    ((h.0, above_more x p.key ps h.0 r.0), (r.0, r.1))

-- Where each key is above the one before it, it is above all before it.
pub rises : (ps : List Pair) → Rising (map (λ p. p.key) ps) → Rises ps
rises [] h = tt
rises (p ∷ ps) h = let r = rises_from p.key ps h in (r.0, r.1)

-- What is behind the first pairs of a map is a map.
pub map_behind : (ps qs : List Pair) → Rising (map (λ p. p.key) (ps ++ qs)) →
    Rising (map (λ p. p.key) qs)
map_behind [] qs h = h
map_behind (p ∷ ps) qs h = map_behind ps qs (behind p.key (ps ++ qs) h)
  where
    behind : (x : List ℕ) (rs : List Pair) → RisingFrom x (map (λ p. p.key) rs) →
        Rising (map (λ p. p.key) rs)
    behind x [] h = tt
    behind x (r ∷ rs) h = h.1

-- The first key of the list, if there is one, is above this key.
abbrev pub FirstAbove : List ℕ → List Pair → Type 0
FirstAbove key [] = Unit {0}
FirstAbove key (p ∷ ps) = KeyBelow key p.key

-- A key below the first one of a map is below all of them.
pub above_first : (key : List ℕ) (ps : List Pair) → Rising (map (λ p. p.key) ps) →
    FirstAbove key ps → Above key ps
above_first key [] h k = tt
above_first key (p ∷ ps) h k = (k, above_more key p.key ps k (rises (p ∷ ps) h).0)

-- A list of keys above a key has nothing at that key.
pub find_above : (ps : List Pair) (key : List ℕ) → Above key ps → find ps key ≡ None
find_above [] key h = refl
find_above (p ∷ ps) key h = rw (not_eq_above key p.key h.0) (find_above ps key h.1)

-- The first pairs of a rising list rise.
pub rises_front : (ps qs : List Pair) → Rises (ps ++ qs) → Rises ps
rises_front [] qs h = tt
rises_front (p ∷ ps) qs h = (all_front (λ q. KeyBelow p.key q.key) ps qs h.0, rises_front ps qs h.1)

-- So do those behind them.
pub rises_back : (ps qs : List Pair) → Rises (ps ++ qs) → Rises qs
rises_back [] qs h = h
rises_back (p ∷ ps) qs h = rises_back ps qs h.1

-- A key of a list above a key is above that key.
pub above_key : (x key : List ℕ) (ps : List Pair) → Above x ps → HasKey key ps → KeyBelow x key
above_key x key [] h k = absurd k
above_key x key (p ∷ ps) h (inl e) = subst (λ y. KeyBelow x y) (sym e) h.0
above_key x key (p ∷ ps) h (inr k) = above_key x key ps h.1 k

-- In a rising list what is behind some pairs is above the last of them.
pub above_last : (ps ys : List Pair) → 0 < length ps → Rises (ps ++ ys) → Above (last_key ps) ys
above_last [] ys some h = absurd (omega arith)
above_last (p ∷ []) ys some h = h.0
above_last (p ∷ q ∷ ps) ys some h = above_last (q ∷ ps) ys (omega arith) h.1

-- The last key of lawful pairs is lawful.
pub last_key_short : (ps : List Pair) → AllByRecursion IsPair ps → length (last_key ps) ≤ 1024
last_key_short [] h = omega arith
last_key_short (p ∷ []) h = h.0.key
last_key_short (p ∷ q ∷ ps) h = last_key_short (q ∷ ps) h.1

-- Lists of pairs that are spelled alike are the same.
pub leaf_same : (ps qs : List Pair) → AllByRecursion IsPair ps → AllByRecursion IsPair qs →
    flat_map pair_spelling ps ≡ flat_map pair_spelling qs → ps ≡ qs
leaf_same [] [] h k e = refl
leaf_same [] (q ∷ qs) h k e = absurd (nil_cons e)
  where
    nil_cons : {x : ℕ} {xs : List ℕ} → ◌≡◌ {A = List ℕ} [] (x ∷ xs) → ⊥
    nil_cons e = cc
leaf_same (p ∷ ps) [] h k e = absurd (cons_nil e)
  where
    cons_nil : {x : ℕ} {xs : List ℕ} → ◌≡◌ {A = List ℕ} (x ∷ xs) [] → ⊥
    cons_nil e = cc
leaf_same (p ∷ ps) (q ∷ qs) h k e =
    let r = pair_spellings_apart p q (flat_map pair_spelling ps) (flat_map pair_spelling qs) h.0 k.0
    e in
    ap (λ x. x ∷ ps) r.0 ∙ ap (λ x. q ∷ x) (leaf_same ps qs h.1 k.1 r.1)
