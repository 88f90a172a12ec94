-- Two neighbours may be merged first.
use Rattle.std.proofs.Common.{◌≡◌, ℕ, Bool, true, false, not, cond, ◌&&◌, List, [], ◌∷◌, ◌++◌, map}
use Rattle.std.proofs.Common.{Option, Some, None, Ordering, ◌⊎◌, inl, inr, refl, sym, ap, ◌∙◌}
use Rattle.std.proofs.Common.{subst}
use Rattle.std.specs.declared.cmp.Ordering.TheVariants.{Less, Equal, Greater}
use Rattle.std.specs.Ordering.{is_lt, is_eq}
use Rattle.std.proofs.lemmas.Bool.{false≢true}
use Rattle.std.specs.List.{filter, AllByRecursion}
use Rattle.prolly_entry.specs.Record.{Record}
use Rattle.prolly_entry.specs.Keys.{key_order, KeyBelow}
use Rattle.prolly_entry.specs.Overlay.{change_of, or_else, last_change_of, raw_overlay, AllRising}
use Rattle.prolly_entry.specs.Overlay.{NeighboursOverlayFirst}
use Rattle.prolly_tree.specs.Merge.{Input, Stop, stop_at, earlier_stop, stop, is_within}
use Rattle.prolly_tree.specs.Merge.{raw_merged_part, stop_fault, joined_input, NeighboursMergeFirst}
use Rattle.prolly_entry.specs.Position.{Position, last_position, is_before}
use Rattle.prolly_entry.specs.lemmas.RisingRecords.{IsRising, AllAbove, rising_is}
use Rattle.prolly_entry.specs.lemmas.Overlays.{found_raw, rising_raw, same_lookups, or_none}
use Rattle.prolly_entry.specs.lemmas.Overlays.{or_assoc}
use Rattle.prolly_entry.specs.lemmas.Orders.{eq_true, order_same, order_self, order_trans}
use Rattle.prolly_entry.specs.lemmas.Orders.{greater_below}

-- ---- positions

lt_less : (o : Ordering) → is_lt o ≡ true → o ≡ Less
lt_less Less h = refl
lt_less Equal h = absurd (false≢true h)
lt_less Greater h = absurd (false≢true h)

is_below : (x y : List ℕ) → is_lt (key_order x y) ≡ true → KeyBelow x y
is_below x y h = lt_less (key_order x y) h

pub before_trans : (p q r : Position) → is_before p q ≡ true → is_before q r ≡ true →
    is_before p r ≡ true
before_trans p q None h k = k
before_trans None q (Some z) h k = refl
before_trans (Some x) None (Some z) h k = absurd (false≢true h)
before_trans (Some x) (Some y) (Some z) h k =
    ap is_lt (order_trans x y z (is_below x y h) (is_below y z k))

-- what is before p is before what is not before p
pub before_weak : (p q r : Position) → is_before r p ≡ true → is_before q p ≡ false →
    is_before r q ≡ true
before_weak None q r h k = absurd (false≢true (sym (never r) ∙ h))
  where
    never : (r : Position) → is_before r None ≡ false
    never r = refl
before_weak (Some x) None r h k = absurd (false≢true (sym k))
before_weak (Some x) (Some y) None h k = refl
before_weak (Some x) (Some y) (Some z) h k = go (key_order y x) refl
  where
    go : (o : Ordering) → key_order y x ≡ o → is_lt (key_order z y) ≡ true
    go Less e = absurd (false≢true (sym k ∙ ap is_lt e))
    go Equal e = subst (λ w. is_lt (key_order z w) ≡ true) (sym (order_same y x e)) h
    go Greater e = ap is_lt (order_trans z x y (is_below z x h) (greater_below y x e))

module _ {F : Type 0} where
  pub earlier_none : (s : Option (Stop F)) → earlier_stop s None ≡ s
  earlier_none None = refl
  earlier_none (Some s) = refl

  earlier_assoc : (a b c : Option (Stop F)) →
      earlier_stop (earlier_stop a b) c ≡ earlier_stop a (earlier_stop b c)
  earlier_assoc None b c = refl
  earlier_assoc (Some a) None c = refl
  earlier_assoc (Some a) (Some b) None = earlier_none
      (cond (is_before b.position a.position) (Some b) (Some a))
  earlier_assoc (Some a) (Some b) (Some c) = go (is_before b.position a.position)
      (is_before c.position b.position) (is_before c.position a.position) refl refl refl
    where
      go : (x y z : Bool) → is_before b.position a.position ≡ x →
          is_before c.position b.position ≡ y → is_before c.position a.position ≡ z →
          earlier_stop (cond x (Some b) (Some a)) (Some c) ≡ earlier_stop (Some a)
          (cond y (Some c) (Some b))
      go true true true e f g = rw (f, g) refl
      go true true false e f g = absurd (false≢true
          (sym g ∙ before_trans c.position b.position a.position f e))
      go true false z e f g = rw (f, e) refl
      go false true z e f g = refl
      go false false true e f g = absurd (false≢true
          (sym f ∙ before_weak a.position b.position c.position g e))
      go false false false e f g = rw (g, e) refl

  -- up to the earlier_stop one is up to both
  pub within_earlier : (s t : Option (Stop F)) (key : List ℕ) →
      is_within (earlier_stop s t) key ≡ (is_within s key && is_within t key)
  within_earlier None t key = refl
  within_earlier (Some s) None key = sym (and_true (not (is_before s.position (Some key))))
    where
      and_true : (b : Bool) → (b && true) ≡ b
      and_true true = refl
      and_true false = refl
  within_earlier (Some s) (Some t) key = go (is_before t.position s.position)
      (is_before s.position (Some key)) (is_before t.position (Some key)) refl refl refl
    where
      go : (x y z : Bool) → is_before t.position s.position ≡ x →
          is_before s.position (Some key) ≡ y → is_before t.position (Some key) ≡ z →
          is_within (cond x (Some t) (Some s)) key ≡ (not y && not z)
      go true true true e f g = rw g refl
      go true true false e f g = absurd (false≢true
          (sym g ∙ before_trans t.position s.position (Some key) e f))
      go true false z e f g = ap not g
      go false true z e f g = rw f refl
      go false false true e f g = absurd (false≢true
          (sym e ∙ before_weak (Some key) s.position t.position g f))
      go false false false e f g = rw f refl

  abbrev own : Input F → Option (Stop F)
  own i = stop_at (last_position i.records) i.fault

-- ---- a part of a list

filter_above : (t : List ℕ → Bool) (x : List ℕ) (m : List Record) → AllAbove x m →
    AllAbove x (filter (λ r. t r.key) m)
filter_above t x [] h = tt
filter_above t x (r ∷ m) h = go (t r.key) (filter_above t x m h.1)
  where
    go : (b : Bool) → AllAbove x (filter (λ r. t r.key) m) →
        AllAbove x (cond b (r ∷ filter (λ r. t r.key) m) (filter (λ r. t r.key) m))
    go true k = (h.0, k)
    go false k = k

pub filter_rising : (t : List ℕ → Bool) (m : List Record) → IsRising m →
    IsRising (filter (λ r. t r.key) m)
filter_rising t [] h = tt
filter_rising t (r ∷ m) h = go (t r.key) (filter_rising t m h.1)
  where
    go : (b : Bool) → IsRising (filter (λ r. t r.key) m) →
        IsRising (cond b (r ∷ filter (λ r. t r.key) m) (filter (λ r. t r.key) m))
    go true k = (filter_above t r.key m h.0, k)
    go false k = k

pub found_filter : (t : List ℕ → Bool) (m : List Record) (key : List ℕ) →
    change_of (filter (λ r. t r.key) m) key ≡ cond (t key) (change_of m key) None
found_filter t [] key = none_both (t key)
  where
    none_both : (b : Bool) → ◌≡◌ {A = Option (Option (List ℕ))} None (cond b None None)
    none_both true = refl
    none_both false = refl
found_filter t (r ∷ m) key = go (t r.key) (is_eq (key_order r.key key)) refl refl
    (found_filter t m key)
  where
    go : (b e : Bool) → t r.key ≡ b → is_eq (key_order r.key key) ≡ e →
        change_of (filter (λ r. t r.key) m) key ≡ cond (t key) (change_of m key) None →
        change_of (cond b (r ∷ filter (λ r. t r.key) m) (filter (λ r. t r.key) m)) key ≡
        cond (t key) (cond (is_eq (key_order r.key key)) (Some r.value) (change_of m key)) None
    go true true f g more = let same : t key ≡ true =
        ap t (sym (order_same r.key key (eq_true (key_order r.key key) g))) ∙ f in rw (g, same) refl
    go true false f g more = rw g more
    go false true f g more = let same : t key ≡ false =
        ap t (sym (order_same r.key key (eq_true (key_order r.key key) g))) ∙ f in
        more ∙ ap (λ b. cond b (change_of m key) None) same ∙
        sym (ap (λ b. cond b (cond (is_eq (key_order r.key key)) (Some r.value)
        (change_of m key)) None) same)
    go false false f g more = rw g more

-- the last key of a rising list that has the key and nothing above it
last_is : (m : List Record) (x : List ℕ) (v : Option (List ℕ)) → IsRising m →
    change_of m x ≡ Some v → AllByRecursion (λ r. is_lt (key_order x r.key) ≡ false) m →
    last_position m ≡ Some x
last_is [] x v h f none = absurd (let e : ◌≡◌ {A = Option (Option (List ℕ))} None (Some v) = f in
    none_some v e)
  where
    none_some : (v : Option (List ℕ)) → ◌≡◌ {A = Option (Option (List ℕ))} None (Some v) → ⊥
    none_some v e = cc
last_is (r ∷ []) x v h f none = go (is_eq (key_order r.key x)) refl
  where
    none_some : (v : Option (List ℕ)) → ◌≡◌ {A = Option (Option (List ℕ))} None (Some v) → ⊥
    none_some v e = cc

    go : (b : Bool) → is_eq (key_order r.key x) ≡ b →
        ◌≡◌ {A = Option (List ℕ)} (Some r.key) (Some x)
    go true e = ap Some (order_same r.key x (eq_true (key_order r.key x) e))
    go false e = absurd (none_some v (sym (ap (λ b. cond b (Some r.value) None) e) ∙ f))
last_is (r ∷ s ∷ m) x v h f none = go (is_eq (key_order r.key x)) refl
    (λ k. last_is (s ∷ m) x v h.1 k none.1)
  where
    go : (b : Bool) → is_eq (key_order r.key x) ≡ b →
        (change_of (s ∷ m) x ≡ Some v → last_position (s ∷ m) ≡ Some x) →
        last_position (s ∷ m) ≡ Some x
    go true e more = absurd (false≢true (sym none.1.0 ∙
        ap is_lt (subst (λ y. KeyBelow y s.key) (order_same r.key x (eq_true (key_order r.key x) e))
        h.0.0)))
    go false e more = more (sym (ap (λ b. cond b (Some r.value) (change_of (s ∷ m) x)) e) ∙ f)

all_within : (t : List ℕ → Bool) (m : List Record) →
    AllByRecursion (λ r. t r.key ≡ true) (filter (λ r. t r.key) m)
all_within t [] = tt
all_within t (r ∷ m) = go (t r.key) refl (all_within t m)
  where
    go : (b : Bool) → t r.key ≡ b → AllByRecursion (λ r. t r.key ≡ true) (filter (λ r. t r.key) m) →
        AllByRecursion (λ r. t r.key ≡ true) (cond b (r ∷ filter (λ r. t r.key) m)
        (filter (λ r. t r.key) m))
    go true e k = (e, k)
    go false e k = k

-- ---- the joined_input input

last_found_at : (m : List Record) (x : List ℕ) → last_position m ≡ Some x → (v : Option (List ℕ)) ×
    (change_of m x ≡ Some v)
last_found_at [] x h = absurd (none_some x h)
  where
    none_some : (v : List ℕ) → ◌≡◌ {A = Position} None (Some v) → ⊥
    none_some v e = cc
last_found_at (r ∷ []) x h = let same : r.key ≡ x = some_same r.key x h in
    let e : is_eq (key_order r.key x) ≡ true =
    subst (λ y. is_eq (key_order r.key y) ≡ true) same (ap is_eq (order_self r.key)) in
    (r.value, rw e refl)
  where
    some_same : (x y : List ℕ) → ◌≡◌ {A = Position} (Some x) (Some y) → x ≡ y
    some_same x y e = cc
last_found_at (r ∷ s ∷ m) x h = go (is_eq (key_order r.key x)) refl (last_found_at (s ∷ m) x h)
  where
    go : (b : Bool) → is_eq (key_order r.key x) ≡ b → (v : Option (List ℕ)) ×
        (change_of (s ∷ m) x ≡ Some v) → (v : Option (List ℕ)) × (change_of (r ∷ s ∷ m) x ≡ Some v)
    go true e more = (r.value, ap (λ b. cond b (Some r.value) (change_of (s ∷ m) x)) e)
    go false e more = (more.0, ap (λ b. cond b (Some r.value) (change_of (s ∷ m) x)) e ∙ more.1)

-- the list has the key, if there is one
Has : Position → List Record → Type 0
Has None m = Unit {0}
Has (Some x) m = (v : Option (List ℕ)) × (change_of m x ≡ Some v)

not_true : (b : Bool) → not b ≡ true → b ≡ false
not_true true h = absurd (false≢true h)
not_true false h = refl

none_above : (x : List ℕ) (m : List Record) →
    AllByRecursion (λ r. not (is_lt (key_order x r.key)) ≡ true) m →
    AllByRecursion (λ r. is_lt (key_order x r.key) ≡ false) m
none_above x [] h = tt
none_above x (r ∷ m) h = (not_true (is_lt (key_order x r.key)) h.0, none_above x m h.1)

none_left : (m : List Record) → AllByRecursion (λ r. false ≡ true) m → last_position m ≡ None
none_left [] h = refl
none_left (r ∷ m) h = absurd (false≢true h.0)

last_within : (p : Position) (m : List Record) → IsRising m → Has p m →
    last_position (filter (λ r. not (is_before p (Some r.key))) m) ≡ p
unfolding Has
last_within None m h has = none_left (filter (λ r. not (is_before None (Some r.key))) m)
    (all_within (λ key. not (is_before None (Some key))) m)
last_within (Some x) m h has =
    let t : List ℕ → Bool = λ key. not (is_before (Some x) (Some key)) in
    let at : t x ≡ true = ap (λ o. not (is_lt o)) (order_self x) in
    last_is (filter (λ r. t r.key) m) x has.0 (filter_rising t m h)
    (found_filter t m x ∙ ap (λ b. cond b (change_of m x) None) at ∙ has.1)
    (none_above x (filter (λ r. t r.key) m) (all_within t m))

has_one : (p : Position) (a b : List Record) → AllRising (a ∷ b ∷ []) → (p ≡ last_position a) ⊎
    (p ≡ last_position b) → Has p (raw_overlay (a ∷ b ∷ []))
unfolding Has
has_one None a b h k = tt
has_one (Some x) a b h k =
    let all : change_of (raw_overlay (a ∷ b ∷ [])) x ≡ or_else (change_of b x) (change_of a x) =
    found_raw (a ∷ b ∷ []) x h in
    elim k [
      | inl e ↦ from_first (change_of b x) (last_found_at a x (sym e)) all
      | inr e ↦
          from_second (last_found_at b x (sym e)) all
    ]
  where
    from_first : (o : Option (Option (List ℕ))) → (v : Option (List ℕ)) × (change_of a x ≡ Some v) →
        change_of (raw_overlay (a ∷ b ∷ [])) x ≡ or_else o (change_of a x) →
        (v : Option (List ℕ)) × (change_of (raw_overlay (a ∷ b ∷ [])) x ≡ Some v)
    from_first None f all = (f.0, all ∙ f.1)
    from_first (Some w) f all = (w, all)

    from_second : (v : Option (List ℕ)) × (change_of b x ≡ Some v) →
        change_of (raw_overlay (a ∷ b ∷ [])) x ≡ or_else (change_of b x) (change_of a x) →
        (v : Option (List ℕ)) × (change_of (raw_overlay (a ∷ b ∷ [])) x ≡ Some v)
    from_second f all = (f.0, all ∙ ap (λ o. or_else o (change_of a x)) f.1)

last_found_append : (xs ys : List (List Record)) (key : List ℕ) →
    last_change_of (xs ++ ys) key ≡ or_else (last_change_of ys key) (last_change_of xs key)
last_found_append [] ys key = sym (or_none (last_change_of ys key))
last_found_append (l ∷ xs) ys key = ap (λ o. or_else o (change_of l key))
    (last_found_append xs ys key) ∙ or_assoc (last_change_of ys key) (last_change_of xs key)
    (change_of l key)

pub and_left : (a b : Bool) → (a && b) ≡ true → a ≡ true
and_left true b h = refl
and_left false b h = absurd (false≢true h)

pub and_right : (a b : Bool) → (a && b) ≡ true → b ≡ true
and_right true b h = h
and_right false b h = absurd (false≢true h)

and_both : (a b : Bool) → a ≡ true → b ≡ true → (a && b) ≡ true
and_both true b h k = k
and_both false b h k = absurd (false≢true h)

module _ {F : Type 0} where
  position_of : Option (Stop F) → Position
  position_of None = None
  position_of (Some s) = s.position

  -- the stop of two stands at the last key of one of them
  stop_position : (p q : Position) (f g : Option F) (s : Stop F) →
      earlier_stop (stop_at p f) (earlier_stop (stop_at q g) None) ≡ Some s →
      (s.position ≡ p) ⊎ (s.position ≡ q)
  unfolding position_of
  stop_position p q None None s e = absurd (none_some s e)
    where
      none_some : (s : Stop F) → ◌≡◌ {A = Option (Stop F)} None (Some s) → ⊥
      none_some s e = cc
  stop_position p q None (Some g) s e = inr (sym (ap position_of e))
  stop_position p q (Some f) None s e = inl (sym (ap position_of e))
  stop_position p q (Some f) (Some g) s e = go (is_before q p) e
    where
      go : (b : Bool) → cond b (Some (record { position = q; fault = g }))
          (Some (record { position = p; fault = f })) ≡ Some s → (s.position ≡ p) ⊎ (s.position ≡ q)
      go true e = inr (sym (ap position_of e))
      go false e = inl (sym (ap position_of e))

  fault_is : (a b : Input F) → AllRising (a.records ∷ b.records ∷ []) →
      stop_at (last_position (raw_merged_part (a ∷ b ∷ []))) (stop_fault (stop (a ∷ b ∷ []))) ≡
      stop (a ∷ b ∷ [])
  fault_is a b h = go (stop (a ∷ b ∷ [])) refl
    where
      go : (o : Option (Stop F)) → stop (a ∷ b ∷ []) ≡ o →
          stop_at (last_position (filter (λ r. is_within o r.key)
          (raw_overlay (a.records ∷ b.records ∷ [])))) (stop_fault o) ≡ o
      go None e = refl
      go (Some s) e =
          let last : last_position (filter (λ r. is_within (Some s) r.key)
          (raw_overlay (a.records ∷ b.records ∷ []))) ≡ s.position =
          last_within s.position (raw_overlay (a.records ∷ b.records ∷ []))
          (rising_raw (a.records ∷ b.records ∷ []))
          (has_one s.position a.records b.records h
          (stop_position (last_position a.records) (last_position b.records) a.fault b.fault s
          e)) in
          ap (λ p. stop_at p (Some s.fault)) last

  -- ---- in a row of inputs

  stop_row : (before after : List (Input F)) (a b : Input F) →
      AllRising (a.records ∷ b.records ∷ []) →
      stop (before ++ a ∷ b ∷ after) ≡ stop (before ++ joined_input a b ∷ after)
  stop_row [] after a b h =
      sym (ap (λ s. earlier_stop s (stop after)) (fault_is a b h)
      ∙ ap (λ s. earlier_stop (earlier_stop (own a) s) (stop after)) (earlier_none (own b))
      ∙ earlier_assoc (own a) (own b) (stop after))
  stop_row (i ∷ before) after a b h = ap (earlier_stop (own i)) (stop_row before after a b h)

  abbrev lists_of : List (Input F) → List (List Record)
  lists_of inputs = map (λ i. i.records) inputs

  -- what is within the stop of the row is within that of the two
  within_two : (before after : List (Input F)) (a b : Input F) (key : List ℕ) →
      is_within (stop (before ++ a ∷ b ∷ after)) key ≡ true →
      is_within (stop (a ∷ b ∷ [])) key ≡ true
  within_two [] after a b key h =
      let first : (is_within (own a) key && is_within (earlier_stop (own b) (stop after)) key) ≡
      true = sym (within_earlier (own a) (earlier_stop (own b) (stop after)) key) ∙ h in
      let second : (is_within (own b) key && is_within (stop after) key) ≡ true =
      sym (within_earlier (own b) (stop after) key) ∙
      and_right (is_within (own a) key) (is_within (earlier_stop (own b) (stop after)) key)
      first in
      within_earlier (own a) (earlier_stop (own b) None) key
      ∙ and_both (is_within (own a) key) (is_within (earlier_stop (own b) None) key)
      (and_left (is_within (own a) key) (is_within (earlier_stop (own b) (stop after)) key) first)
      (ap (λ s. is_within s key) (earlier_none (own b)) ∙
      and_left (is_within (own b) key) (is_within (stop after) key) second)
  within_two (i ∷ before) after a b key h = within_two before after a b key
      (and_right (is_within (own i) key) (is_within (stop (before ++ a ∷ b ∷ after)) key)
      (sym (within_earlier (own i) (stop (before ++ a ∷ b ∷ after)) key) ∙ h))

  found_joined : (a b : Input F) (key : List ℕ) → AllRising (a.records ∷ b.records ∷ []) →
      is_within (stop (a ∷ b ∷ [])) key ≡ true →
      change_of (joined_input a b).records key ≡ or_else (change_of b.records key)
      (change_of a.records key)
  found_joined a b key h k = found_filter (λ q. is_within (stop (a ∷ b ∷ [])) q)
      (raw_overlay (a.records ∷ b.records ∷ [])) key
      ∙ ap (λ t. cond t (change_of (raw_overlay (a.records ∷ b.records ∷ [])) key) None) k ∙
      found_raw (a.records ∷ b.records ∷ []) key h

  last_found_row : (before after : List (Input F)) (a b : Input F) (key : List ℕ) →
      AllRising (a.records ∷ b.records ∷ []) → is_within (stop (a ∷ b ∷ [])) key ≡ true →
      last_change_of (lists_of (before ++ a ∷ b ∷ after)) key ≡
      last_change_of (lists_of (before ++ joined_input a b ∷ after)) key
  last_found_row [] after a b key h k =
      or_assoc (last_change_of (lists_of after) key) (change_of b.records key)
      (change_of a.records key)
      ∙ ap (or_else (last_change_of (lists_of after) key)) (sym (found_joined a b key h k))
  last_found_row (i ∷ before) after a b key h k =
      ap (λ o. or_else o (change_of i.records key)) (last_found_row before after a b key h k)

  rising_joined : (before after : List (Input F)) (a b : Input F) →
      AllRising (lists_of (before ++ a ∷ b ∷ after)) →
      AllRising (lists_of (before ++ joined_input a b ∷ after))
  rising_joined [] after a b h = (
    rising_is (joined_input a b).records
        (filter_rising (λ q. is_within (stop (a ∷ b ∷ [])) q)
        (raw_overlay (a.records ∷ b.records ∷ [])) (rising_raw (a.records ∷ b.records ∷ []))),
    h.1.1,
  )
  rising_joined (i ∷ before) after a b h = (h.0, rising_joined before after a b h.1)

  rising_two : (before after : List (Input F)) (a b : Input F) →
      AllRising (lists_of (before ++ a ∷ b ∷ after)) → AllRising (a.records ∷ b.records ∷ [])
  rising_two [] after a b h = (h.0, (h.1.0, tt))
  rising_two (i ∷ before) after a b h = rising_two before after a b h.1

  merged_row : (before after : List (Input F)) (a b : Input F) →
      AllRising (lists_of (before ++ a ∷ b ∷ after)) →
      raw_merged_part (before ++ a ∷ b ∷ after) ≡
      raw_merged_part (before ++ joined_input a b ∷ after)
  merged_row before after a b h =
      let two = rising_two before after a b h in
      let t : List ℕ → Bool = λ q. is_within (stop (before ++ a ∷ b ∷ after)) q in
      let u : List ℕ → Bool = λ q. is_within (stop (before ++ joined_input a b ∷ after)) q in
      let left = raw_overlay (lists_of (before ++ a ∷ b ∷ after)) in
      let right = raw_overlay (lists_of (before ++ joined_input a b ∷ after)) in
      same_lookups (filter (λ r. t r.key) left) (filter (λ r. u r.key) right)
      (filter_rising t left (rising_raw (lists_of (before ++ a ∷ b ∷ after))))
      (filter_rising u right (rising_raw (lists_of (before ++ joined_input a b ∷ after))))
      (λ key. found_filter t left key
      ∙ ap (λ o. cond (t key) o None) (found_raw (lists_of (before ++ a ∷ b ∷ after)) key h)
      ∙ by_within key (t key) refl (rising_two before after a b h)
      ∙ ap (λ s. cond (is_within s key) (last_change_of
      (lists_of (before ++ joined_input a b ∷ after)) key) None)
      (stop_row before after a b (rising_two before after a b h))
      ∙ ap (λ o. cond (u key) o None) (sym (found_raw
      (lists_of (before ++ joined_input a b ∷ after)) key (rising_joined before after a b h)))
      ∙ sym (found_filter u right key))
    where
      by_within : (key : List ℕ) (b' : Bool) → is_within (stop (before ++ a ∷ b ∷ after)) key ≡ b' →
          AllRising (a.records ∷ b.records ∷ []) →
          cond (is_within (stop (before ++ a ∷ b ∷ after)) key)
          (last_change_of (lists_of (before ++ a ∷ b ∷ after)) key) None
          ≡ cond (is_within (stop (before ++ a ∷ b ∷ after)) key)
          (last_change_of (lists_of (before ++ joined_input a b ∷ after)) key) None
      by_within key true e two = ap (λ o. cond (is_within (stop (before ++ a ∷ b ∷ after)) key) o
          None) (last_found_row before after a b key two (within_two before after a b key e))
      by_within key false e two = ap (λ t. cond t
          (last_change_of (lists_of (before ++ a ∷ b ∷ after)) key) None) e
          ∙ sym (ap (λ t. cond t (last_change_of (lists_of (before ++ joined_input a b ∷ after))
          key) None) e)

  pub merge_joined : NeighboursMergeFirst F
  merge_joined before after a b h = (
    stop_row before after a b (rising_two before after a b h),
    merged_row before after a b h,
  )

-- ---- two lists of records

last_found_two : (before after : List (List Record)) (a b : List Record) (key : List ℕ) →
    AllRising (a ∷ b ∷ []) →
    last_change_of (before ++ a ∷ b ∷ after) key ≡
    last_change_of (before ++ raw_overlay (a ∷ b ∷ []) ∷ after) key
last_found_two [] after a b key h =
    or_assoc (last_change_of after key) (change_of b key) (change_of a key)
    ∙ ap (or_else (last_change_of after key)) (sym (found_raw (a ∷ b ∷ []) key h))
last_found_two (l ∷ before) after a b key h =
    ap (λ o. or_else o (change_of l key)) (last_found_two before after a b key h)

pub two_of_all : (before after : List (List Record)) (a b : List Record) →
    AllRising (before ++ a ∷ b ∷ after) → AllRising (a ∷ b ∷ [])
two_of_all [] after a b h = (h.0, (h.1.0, tt))
two_of_all (l ∷ before) after a b h = two_of_all before after a b h.1

pub rising_two_as_one : (before after : List (List Record)) (a b : List Record) →
    AllRising (before ++ a ∷ b ∷ after) → AllRising (before ++ raw_overlay (a ∷ b ∷ []) ∷ after)
rising_two_as_one [] after a b h = (
  rising_is (raw_overlay (a ∷ b ∷ [])) (rising_raw (a ∷ b ∷ [])),
  h.1.1,
)
rising_two_as_one (l ∷ before) after a b h = (h.0, rising_two_as_one before after a b h.1)

pub overlay_of_two : NeighboursOverlayFirst
overlay_of_two before after a b h =
    same_lookups (raw_overlay (before ++ a ∷ b ∷ after))
    (raw_overlay (before ++ raw_overlay (a ∷ b ∷ []) ∷ after))
    (rising_raw (before ++ a ∷ b ∷ after)) (rising_raw (before ++ raw_overlay (a ∷ b ∷ []) ∷ after))
    (λ key. found_raw (before ++ a ∷ b ∷ after) key h
    ∙ last_found_two before after a b key (two_of_all before after a b h)
    ∙ sym (found_raw (before ++ raw_overlay (a ∷ b ∷ []) ∷ after) key
    (rising_two_as_one before after a b h)))
