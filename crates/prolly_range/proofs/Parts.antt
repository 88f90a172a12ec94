-- What of a set of keys may stand below trees.
use Rattle.std.proofs.Common.{◌≡◌, ℕ, suc, ◌<◌, ◌⊎◌, inl, inr, List, [], ◌∷◌, ◌++◌, length, refl}
use Rattle.std.proofs.Common.{sym, ap, ◌∙◌, subst, Bool, true, false, not, Option, Some, None}
use Rattle.std.proofs.Common.{Ordering, ◌&&◌}
use Rattle.std.specs.List.{flat_map, AllByRecursion}
use Rattle.std.specs.Ordering.{is_lt}
use Rattle.std.specs.declared.cmp.Ordering.TheVariants.{Less, Equal, Greater}
use Rattle.std.proofs.lemmas.Bool.{false≢true}
use Rattle.std.proofs.lemmas.List.Elements.{filter-append}
use Rattle.prolly_entry.specs.Keys.{key_order, KeyBelow}
use Rattle.prolly_entry.specs.Pair.{Pair}
use Rattle.prolly_entry.specs.lemmas.Orders.{order_trans}
use Rattle.prolly_tree.specs.Tree.{Tree, pairs_below, greatest_key, last_key}
use Rattle.prolly_tree.specs.lemmas.Maps.{Above, Rises, above_last, rises_front, rises_back}
use Rattle.prolly_look_up.specs.MapTree.{NodeFull}
use Rattle.prolly_range.specs.KeySet.{KeySet, Met, has_key, met_first, met_in, pairs_wanted}
use Rattle.prolly_range.specs.KeySet.{part_behind, part_below, some_keys}
use Rattle.prolly_range.specs.KeySet.KeySet.{Keys, Range}
use Rattle.prolly_range.specs.SortedKeys.{is_one_of, keys_above, keys_up_to}
use Rattle.prolly_range.proofs.Splitting.{one_above, one_up_to}

-- ---- pairs and a part of a set

-- the pairs whose keys are of the part, where there is one
abbrev pub wanted_in : Option KeySet → List Pair → List Pair
wanted_in None pairs = []
wanted_in (Some part) pairs = pairs_wanted part pairs

-- each key is this one, or below it
abbrev pub UpTo : List ℕ → List Pair → Type 0
UpTo key ps = AllByRecursion (λ p. (p.key ≡ key) ⊎ KeyBelow p.key key) ps

-- in a rising list all keys are up to the last one
pub up_to_last : (ps : List Pair) → Rises ps → UpTo (last_key ps) ps
up_to_last [] h = tt
up_to_last (p ∷ []) h = (inl refl, tt)
up_to_last (p ∷ q ∷ ps) h = (inr (below_last (q ∷ ps) (λ e. absurd cc) h.0), up_to_last (q ∷ ps) h.1)
  where
    below_last : (qs : List Pair) → (qs ≡ [] → ⊥) → Above p.key qs → KeyBelow p.key (last_key qs)
    below_last [] some k = absurd (some refl)
    below_last (x ∷ []) some k = k.0
    below_last (x ∷ y ∷ qs) some k = below_last (y ∷ qs) (λ e. absurd cc) k.1

none_wanted : (set : KeySet) (ps : List Pair) →
    AllByRecursion (λ p. has_key set p.key ≡ false) ps → pairs_wanted set ps ≡ []
none_wanted set [] h = refl
none_wanted set (p ∷ ps) h = rw h.0 (none_wanted set ps h.1)

-- a key that is not above one below a third is below the third
up_to_below : (x y z : List ℕ) → (x ≡ y) ⊎ KeyBelow x y → KeyBelow y z → KeyBelow x z
up_to_below x y z (inl e) k = subst (λ w. KeyBelow w z) (sym e) k
up_to_below x y z (inr h) k = order_trans x y z h k

is_less : (o : Ordering) → is_lt o ≡ true → o ≡ Less
is_less Less h = refl
is_less Equal h = absurd (false≢true h)
is_less Greater h = absurd (false≢true h)

-- a key above one that is not below a third is not below the third
above_not_below : (x y z : List ℕ) → KeyBelow y x → is_lt (key_order y z) ≡ false →
    is_lt (key_order x z) ≡ false
above_not_below x y z h k = go (is_lt (key_order x z)) refl
  where
    go : (b : Bool) → is_lt (key_order x z) ≡ b → is_lt (key_order x z) ≡ false
    go false e = e
    go true e = absurd (false≢true (sym k ∙
        ap is_lt (order_trans y x z h (is_less (key_order x z) e))))

-- ---- a list of keys

-- lists that have the same of these keys want the same pairs
same_wanted : (a b : List (List ℕ)) (ps : List Pair) →
    AllByRecursion (λ p. is_one_of a p.key ≡ is_one_of b p.key) ps →
    pairs_wanted (Keys a) ps ≡ pairs_wanted (Keys b) ps
same_wanted a b [] h = refl
same_wanted a b (p ∷ ps) h = rw (h.0, same_wanted a b ps h.1) refl

-- of a list with no key nothing is wanted
some_wanted : (keys : List (List ℕ)) (ps : List Pair) →
    pairs_wanted (Keys keys) ps ≡ wanted_in (some_keys keys) ps
some_wanted [] [] = refl
some_wanted [] (p ∷ ps) = some_wanted [] ps
some_wanted (key ∷ keys) ps = refl

one_up_to_each : (keys : List (List ℕ)) (greatest : List ℕ) (ps : List Pair) → UpTo greatest ps →
    AllByRecursion (λ p. is_one_of keys p.key ≡ is_one_of (keys_up_to greatest keys) p.key) ps
one_up_to_each keys greatest [] h = tt
one_up_to_each keys greatest (p ∷ ps) h =
    (one_up_to p.key greatest h.0 keys, one_up_to_each keys greatest ps h.1)

one_above_each : (keys : List (List ℕ)) (key : List ℕ) (ps : List Pair) → Above key ps →
    AllByRecursion (λ p. is_one_of keys p.key ≡ is_one_of (keys_above key keys) p.key) ps
one_above_each keys key [] h = tt
one_above_each keys key (p ∷ ps) h = (one_above p.key key h.0 keys, one_above_each keys key ps h.1)

-- ---- any set

-- below a greatest key there is of the set what its part there has
pub below_keeps : (set : KeySet) (greatest : List ℕ) (ps : List Pair) → UpTo greatest ps →
    pairs_wanted set ps ≡ wanted_in (part_below set greatest) ps
below_keeps (Range from to) greatest ps h = go (is_lt (key_order greatest from)) refl
  where
    past : KeyBelow greatest from → (qs : List Pair) → UpTo greatest qs →
        AllByRecursion (λ p. has_key (Range from to) p.key ≡ false) qs
    past k [] u = tt
    past k (q ∷ qs) u = (
      rw (up_to_below q.key greatest from u.0 k) refl,
      past k qs u.1,
    )

    go : (b : Bool) → is_lt (key_order greatest from) ≡ b →
        pairs_wanted (Range from to) ps ≡ wanted_in (part_below (Range from to) greatest) ps
    go true e = rw e (none_wanted (Range from to) ps
        (past (is_less (key_order greatest from) e) ps h))
    go false e = rw e refl
below_keeps (Keys keys) greatest ps h =
    same_wanted keys (keys_up_to greatest keys) ps (one_up_to_each keys greatest ps h) ∙
    some_wanted (keys_up_to greatest keys) ps

-- and so behind a key
pub behind_keeps : (set : KeySet) (key : List ℕ) (ps : List Pair) → Above key ps →
    pairs_wanted set ps ≡ wanted_in (part_behind set key) ps
behind_keeps (Range from None) key ps h = refl
behind_keeps (Range from (Some to)) key ps h = go (is_lt (key_order key to)) refl
  where
    past : is_lt (key_order key to) ≡ false → (qs : List Pair) → Above key qs →
        AllByRecursion (λ p. has_key (Range from (Some to)) p.key ≡ false) qs
    past k [] u = tt
    past k (q ∷ qs) u = (
      and_false (not (is_lt (key_order q.key from))) (is_lt (key_order q.key to))
          (above_not_below q.key key to u.0 k),
      past k qs u.1,
    )
      where
        and_false : (a b : Bool) → b ≡ false → a && b ≡ false
        and_false true b e = e
        and_false false b e = refl

    go : (b : Bool) → is_lt (key_order key to) ≡ b → pairs_wanted (Range from (Some to)) ps ≡
        wanted_in (part_behind (Range from (Some to)) key) ps
    go true e = rw e refl
    go false e = rw e (none_wanted (Range from (Some to)) ps (past e ps h))
behind_keeps (Keys keys) key ps h =
    same_wanted keys (keys_above key keys) ps (one_above_each keys key ps h) ∙
    some_wanted (keys_above key keys) ps

pub wanted-append : (set : KeySet) (xs ys : List Pair) →
    pairs_wanted set (xs ++ ys) ≡ pairs_wanted set xs ++ pairs_wanted set ys
wanted-append set xs ys = filter-append (λ p. has_key set p.key) xs ys

-- ---- trees that stand one behind another

-- the pairs below the trees that are met whose keys are of their parts
abbrev pub wanted_below : (level : ℕ) → List (Met (Tree level)) → List Pair
wanted_below level ms = flat_map (λ m. pairs_wanted m.set (pairs_below level m.item)) ms

abbrev pub AreFull : (level : ℕ) → List (Tree level) → Type 0
AreFull level ts = AllByRecursion (λ t. (0 < length (pairs_below level t)) × NodeFull level t) ts

first_wanted : (level number : ℕ) (t : Tree level) (part : Option KeySet)
    (others : List (Met (Tree level))) →
    wanted_below level (met_first number t part others) ≡
    wanted_in part (pairs_below level t) ++ wanted_below level others
first_wanted level number t None others = refl
first_wanted level number t (Some part) others = refl

-- the pairs of a part of the set below trees are those below the trees that are met
pub met_keep : (level number : ℕ) (part : Option KeySet) (ts : List (Tree level)) → AreFull level ts →
    Rises (flat_map (pairs_below level) ts) →
    wanted_in part (flat_map (pairs_below level) ts) ≡
    wanted_below level (met_in (greatest_key level) number part ts)
met_keep level number None ts full rising = refl
met_keep level number (Some set) [] full rising = refl
met_keep level number (Some set) (t ∷ ts) full rising =
    let own = pairs_below level t in
    let rest = flat_map (pairs_below level) ts in
    let key = greatest_key level t in
    wanted-append set own rest ∙
    ap (λ ps. ps ++ pairs_wanted set rest) (below_keeps set key own
    (up_to_last own (rises_front own rest rising))) ∙
    ap (λ ps. wanted_in (part_below set key) own ++ ps)
    (behind_keeps set key rest (above_last own rest full.0.0 rising) ∙
    met_keep level (suc number) (part_behind set key) ts full.1 (rises_back own rest rising)) ∙
    sym (first_wanted level number t (part_below set key)
    (met_in (greatest_key level) (suc number) (part_behind set key) ts))
