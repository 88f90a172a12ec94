-- The pairs that are shown of a list of keys come in its order.
use Rattle.std.proofs.Common.{◌≡◌, ℕ, suc, inl, inr, List, [], ◌∷◌, ◌++◌, map, refl, sym, ap}
use Rattle.std.proofs.Common.{◌∙◌, subst, append_assoc, append-nil, Bool, true, false, Some}
use Rattle.std.proofs.lemmas.Bool.{false≢true}
use Rattle.std.specs.List.{AllByRecursion}
use Rattle.std.specs.Ordering.{is_eq}
use Rattle.prolly_look_up.specs.Entries.{Child}
use Rattle.prolly_look_up.specs.Kinds.{Entries, kind_of}
use Rattle.prolly_look_up.specs.Kinds.Entries.{Leaf, Node}
use Rattle.prolly_look_up.specs.Way.{entry_keys, level_of}
use Rattle.prolly_entry.specs.Keys.{KeyBelow, Rising, key_order}
use Rattle.prolly_entry.specs.Pair.{Pair}
use Rattle.prolly_entry.specs.declared.version.Version.{Version}
use Rattle.prolly_entry.specs.lemmas.Orders.{eq_true, not_eq_below, order_same}
use Rattle.prolly_tree.specs.lemmas.Maps.{Above, Rises, above_more, rises}
use Rattle.prolly_range.specs.Found.{AreSomeOf, ShownInOrder}
use Rattle.prolly_range.specs.KeySet.{Met, met_first, met_in, pairs_wanted, some_keys}
use Rattle.prolly_range.specs.KeySet.KeySet.{Keys}
use Rattle.prolly_range.specs.SetProof.{AreTaken, Due, child_due, due_below, pairs_there, root_due}
use Rattle.prolly_range.specs.SortedKeys.{is_one_of, keys_above, keys_up_to}
use Rattle.prolly_range.specs.lemmas.Splits.{above_one_of, rising_back, rising_front}
use Rattle.prolly_range.specs.lemmas.Splits.{rising_tail, split_keys}
use Rattle.prolly_range.proofs.Finding.{rises_wanted}

-- ---- pairs of some of the keys

some_behind : (ps : List Pair) (before keys : List (List ℕ)) → AreSomeOf ps keys →
    AreSomeOf ps (before ++ keys)
some_behind [] before keys h = tt
some_behind (p ∷ ps) [] keys h = h
some_behind (p ∷ ps) (b ∷ bs) keys h = inr (some_behind (p ∷ ps) bs keys h)

some_append : (ps qs : List Pair) (xs ys : List (List ℕ)) → AreSomeOf ps xs → AreSomeOf qs ys →
    AreSomeOf (ps ++ qs) (xs ++ ys)
some_append [] qs xs ys h k = some_behind qs xs ys k
some_append (p ∷ ps) qs [] ys h k = absurd h
some_append (p ∷ ps) qs (x ∷ xs) ys h k = elim h [
  | inl same ↦ inl (same.0, some_append ps qs xs ys same.1 k)
  | inr later ↦ inr (some_append (p ∷ ps) qs xs ys later k)
]

-- ---- a leaf

-- the keys of the pairs are all of the list
abbrev AreOf : List (List ℕ) → List Pair → Type 0
AreOf keys ps = AllByRecursion (λ p. is_one_of keys p.key ≡ true) ps

wanted_are_of : (keys : List (List ℕ)) (ps : List Pair) → AreOf keys (pairs_wanted (Keys keys) ps)
wanted_are_of keys [] = tt
wanted_are_of keys (p ∷ ps) = go (is_one_of keys p.key) refl (wanted_are_of keys ps)
  where
    go : (b : Bool) → is_one_of keys p.key ≡ b → AreOf keys (pairs_wanted (Keys keys) ps) →
        AreOf keys (pairs_wanted (Keys keys) (p ∷ ps))
    go true e others = rw e (e, others)
    go false e others = rw e others

behind_first : (k : List ℕ) (ks : List (List ℕ)) (ps : List Pair) → Above k ps →
    AreOf (k ∷ ks) ps → AreOf ks ps
behind_first k ks [] h of = tt
behind_first k ks (p ∷ ps) h of =
    let first = of.0 in
    (rw (not_eq_below k p.key h.0) at first, behind_first k ks ps h.1 of.1)

-- pairs that rise, and whose keys are all of a list that rises, are in its order
listed : (keys : List (List ℕ)) (ps : List Pair) → Rising keys → Rises ps → AreOf keys ps →
    AreSomeOf ps keys
listed keys [] h r of = tt
listed [] (p ∷ ps) h r of = absurd (false≢true of.0)
listed (k ∷ ks) (p ∷ ps) h r of =
    go (is_eq (key_order k p.key)) refl of.0 (listed ks ps (rising_tail k ks h) r.1)
    (listed ks (p ∷ ps) (rising_tail k ks h) r)
  where
    go : (b : Bool) → is_eq (key_order k p.key) ≡ b → is_one_of (k ∷ ks) p.key ≡ true →
        (AreOf ks ps → AreSomeOf ps ks) → (AreOf ks (p ∷ ps) → AreSomeOf (p ∷ ps) ks) →
        AreSomeOf (p ∷ ps) (k ∷ ks)
    go true e one here later =
        let same : k ≡ p.key = order_same k p.key (eq_true (key_order k p.key) e) in
        inl (sym same, here (behind_first k ks ps (subst (λ x. Above x ps) (sym same) r.0) of.1))
    go false e one here later =
        let below : KeyBelow k p.key = above_one_of k p.key ks h (rw e at one) in
        inr (later (behind_first k ks (p ∷ ps) (below, above_more k p.key ps below r.0) of))

-- ---- what is due

-- what is sought at each is a list of some of these keys, and those of the next one stand behind them
abbrev AreSought : List Due → List (List ℕ) → Type 0
AreSought [] keys = Unit {0}
AreSought (d ∷ ds) keys = (skipped : List (List ℕ)) × (own : List (List ℕ)) ×
    (others : List (List ℕ)) × (d.set ≡ Keys own) × (keys ≡ skipped ++ (own ++ others)) ×
    AreSought ds others

more_sought : (ds : List Due) (before keys : List (List ℕ)) → AreSought ds keys →
    AreSought ds (before ++ keys)
more_sought [] before keys s = tt
more_sought (d ∷ ds) before keys s = (
  before ++ s.0,
  s.1,
  s.2,
  s.3,
  ap (λ ks. before ++ ks) s.4 ∙ sym (append_assoc before s.0 (s.1 ++ s.2)),
  s.5,
)

module _ (level : ℕ) (others : List Due) (behind : List (List ℕ)) (sought : AreSought others behind)
  where
    abbrev dues : List (Met Child) → List Due
    dues met = map (child_due level) met ++ others

    first_sought : (number : ℕ) (c : Child) (low rest : List (List ℕ)) (met : List (Met Child)) →
        AreSought (dues met) rest → AreSought (dues (met_first number c (some_keys low) met)) (low ++ rest)
    first_sought number c [] rest met s = s
    first_sought number c (k ∷ ks) rest met s = ([], k ∷ ks, rest, refl, refl, s)

    part_sought : (high : List (List ℕ)) (number : ℕ) (cs : List Child) →
        ((keys : List (List ℕ)) → Rising keys →
        AreSought (dues (met_in (λ c. c.key) number (Some (Keys keys)) cs)) (keys ++ behind)) →
        Rising high →
        AreSought (dues (met_in (λ c. c.key) number (some_keys high) cs)) (high ++ behind)
    part_sought [] number cs rec h = sought
    part_sought (k ∷ ks) number cs rec h = rec (k ∷ ks) h

    met_sought : (number : ℕ) (cs : List Child) (keys : List (List ℕ)) → Rising keys →
        AreSought (dues (met_in (λ c. c.key) number (Some (Keys keys)) cs)) (keys ++ behind)
    met_sought number [] keys h = more_sought others keys behind sought
    met_sought number (c ∷ cs) keys h =
        let low = keys_up_to c.key keys in
        let high = keys_above c.key keys in
        let split : keys ≡ low ++ high = split_keys c.key keys h in
        let met = met_in (λ c. c.key) (suc number) (some_keys high) cs in
        let all = dues (met_first number c (some_keys low) met) in
        subst (λ ks. AreSought all (ks ++ behind)) (sym split)
        (subst (AreSought all) (sym (append_assoc low high behind))
        (first_sought number c low (high ++ behind) met
        (part_sought high (suc number) cs (met_sought (suc number) cs)
        (rising_back low high (subst Rising split h)))))

-- ---- chunk by chunk

-- what a chunk shows is of the first of these keys, and what is due then is sought of the others
record GoesOn (keys : List (List ℕ)) (shown : List Pair) (next : List Due) : Type 0 where
  first : List (List ℕ)
  later : List (List ℕ)
  are : keys ≡ first ++ later
  some : AreSomeOf shown first
  sought : AreSought next later

one_taken : (level : ℕ) (entries : Entries) (own behind : List (List ℕ)) (others : List Due) →
    Rising own → Rising (entry_keys entries) → AreSought others behind →
    GoesOn (own ++ behind) (pairs_there (Keys own) entries)
    (due_below level (Keys own) entries ++ others)
one_taken level (Leaf ps) own behind others h r s = record {
  first = own;
  later = behind;
  are = refl;
  some = listed own (pairs_wanted (Keys own) ps) h (rises_wanted (Keys own) ps (rises ps r))
      (wanted_are_of own ps);
  sought = s;
}
one_taken level (Node cs) own behind others h r s = record {
  first = [];
  later = own ++ behind;
  are = refl;
  some = tt;
  sought = met_sought level others behind s 0 cs own h;
}

in_order : (version : Version) (due : List Due) (keys : List (List ℕ)) (chunks : List (List ℕ))
    (pairs : List Pair) (rest : List Due) → Rising keys → AreSought due keys →
    AreTaken version due chunks pairs rest → AreSomeOf pairs keys
in_order version due keys [] pairs rest h s taken =
    subst (λ ps. AreSomeOf ps keys) (sym taken.1) tt
in_order version due keys (chunk ∷ chunks) pairs rest h s taken =
    let k = taken.3 in
    let there : AreSought (k.first ∷ k.others) keys = subst (λ d. AreSought d keys) k.was s in
    let entries = kind_of version chunk in
    let own = there.1 in
    let behind = there.2 in
    let rising : Rising (own ++ behind) =
    rising_back there.0 (own ++ behind) (subst Rising there.4 h) in
    let goes : GoesOn (own ++ behind) taken.0 taken.2 =
    subst (λ ps. GoesOn (own ++ behind) ps taken.2)
    (sym (k.shows ∙ ap (λ set. pairs_there set entries) there.3))
    (subst (λ next. GoesOn (own ++ behind) (pairs_there (Keys own) entries) next)
    (sym (k.is ∙ ap (λ set. due_below (level_of chunk) set entries ++ k.others) there.3))
    (one_taken (level_of chunk) entries own behind k.others (rising_front own behind rising)
    k.named.ordered.rising there.5)) in
    let later : AreSomeOf taken.1 goes.later =
    in_order version taken.2 goes.later chunks taken.1 rest
    (rising_back goes.first goes.later (subst Rising goes.are rising)) goes.sought taken.4 in
    subst (λ ps. AreSomeOf ps keys) (sym taken.5)
    (subst (AreSomeOf (taken.0 ++ taken.1)) (sym there.4)
    (some_behind (taken.0 ++ taken.1) there.0 (own ++ behind)
    (subst (AreSomeOf (taken.0 ++ taken.1)) (sym goes.are)
    (some_append taken.0 taken.1 goes.first goes.later goes.some later))))

pub shown_in_order : ShownInOrder
shown_in_order version root keys chunks pairs due rising taken =
    in_order version (root_due root (Keys keys) ∷ []) keys chunks pairs due rising
    ([], keys, [], refl, sym (append-nil keys), tt) taken
