-- Inputs that were cut short behind the stop.
use Rattle.std.proofs.Common.{◌≡◌, Bool, true, false, cond, List, [], ◌∷◌, ◌++◌, map, Option, Some}
use Rattle.std.proofs.Common.{None, ◌⊎◌, inl, inr, refl, sym, ap, ◌∙◌, subst, ℕ}
use Rattle.std.specs.Ordering.{is_lt}
use Rattle.std.proofs.lemmas.Bool.{false≢true}
use Rattle.std.proofs.lemmas.List.{append-nil}
use Rattle.std.specs.List.{filter}
use Rattle.prolly_entry.specs.Overlay.{raw_overlay, AllRising}
use Rattle.prolly_tree.specs.CutShort.{IsSentOf, AreSentOf, CutBehindStop, IsFrontOf, AreFrontsOf}
use Rattle.prolly_tree.specs.Merge.{Input, Stop, stop_at, earlier_stop, stop, is_within}
use Rattle.prolly_tree.specs.Merge.{raw_merged_part}
use Rattle.prolly_entry.specs.Position.{Position, last_position, is_before}
use Rattle.prolly_entry.specs.Record.{Record}
use Rattle.prolly_tree.proofs.merging.Fronts.{part_of_overlay}
use Rattle.prolly_tree.proofs.merging.Joins.{before_trans, before_weak, earlier_none}
use Rattle.prolly_entry.specs.lemmas.RisingRecords.{IsRising, AllAbove, is_rising}
use Rattle.prolly_entry.specs.lemmas.Orders.{order_self, below_greater}

-- ---- a rising list and its first records

before_self : (p : Position) → is_before p p ≡ false
before_self None = refl
before_self (Some x) = ap is_lt (order_self x)

-- the last key of records above x is not before x
last_above : (x : List ℕ) (r : Record) (rs : List Record) → AllAbove x (r ∷ rs) →
    is_before (last_position (r ∷ rs)) (Some x) ≡ false
last_above x r [] h = ap is_lt (below_greater x r.key h.0)
last_above x r (s ∷ rs) h = last_above x s rs h.1

last_behind : (xs ys : List Record) → IsRising (xs ++ ys) →
    is_before (last_position (xs ++ ys)) (last_position xs) ≡ false
last_behind [] ys h = refl
last_behind (x ∷ []) [] h = before_self (Some x.key)
last_behind (x ∷ []) (y ∷ ys) h = last_above x.key y ys h.0
last_behind (x ∷ z ∷ xs) ys h = last_behind (z ∷ xs) ys h.1

-- ---- the stop

module _ {F : Type 0} (refused : F) where
  -- no stop before the position
  IsBehind : Option (Stop F) → Position → Type 0
  IsBehind None p = Unit {0}
  IsBehind (Some s) p = is_before s.position p ≡ false

  -- the stop of what was sent is that of the inputs, or names the refusal and is not behind that of
  -- the inputs
  AreStops : Option (Stop F) → Option (Stop F) → Type 0
  AreStops sent full = (sent ≡ full) ⊎ ((t : Stop F) × (sent ≡ Some t) × (t.fault ≡ refused) ×
      IsBehind full t.position)

  apart : (b : Bool) → b ≡ true → b ≡ false → ⊥
  apart b t f = false≢true (sym f ∙ t)

  not_before : (b : Bool) → (b ≡ true → ⊥) → b ≡ false
  not_before true h = absurd (h refl)
  not_before false h = refl

  behind_earlier : (a b : Option (Stop F)) (p : Position) → IsBehind a p → IsBehind b p →
      IsBehind (earlier_stop a b) p
  unfolding IsBehind
  behind_earlier None b p h k = k
  behind_earlier (Some a) None p h k = h
  behind_earlier (Some a) (Some b) p h k = go (is_before b.position a.position)
    where
      go : (x : Bool) → IsBehind (cond x (Some b) (Some a)) p
      go true = k
      go false = h

  -- behind a position is behind each that is not behind it
  behind_less : (a : Option (Stop F)) (p q : Position) → IsBehind a q → is_before q p ≡ false →
      IsBehind a p
  unfolding IsBehind
  behind_less None p q h k = tt
  behind_less (Some a) p q h k = not_before (is_before a.position p)
      (λ x. apart (is_before a.position q) (before_weak p q a.position x k) h)

  behind_before : (a : Option (Stop F)) (p q : Position) → IsBehind a q → is_before p q ≡ true →
      IsBehind a p
  unfolding IsBehind
  behind_before None p q h k = tt
  behind_before (Some a) p q h k = not_before (is_before a.position p)
      (λ x. apart (is_before a.position q) (before_trans a.position p q x k) h)

  -- one of two is whole, and the other one was cut short, or both were
  cut_second : (a : Option (Stop F)) (t : Stop F) (full : Option (Stop F)) → t.fault ≡ refused →
      IsBehind full t.position →
      AreStops (earlier_stop a (Some t)) (earlier_stop a full)
  unfolding IsBehind AreStops
  cut_second None t full m h = inr (t, refl, m, h)
  cut_second (Some s) t full m h = go (is_before t.position s.position) refl
    where
      stays : (full : Option (Stop F)) → IsBehind full t.position →
          is_before t.position s.position ≡ false → Some s ≡ earlier_stop (Some s) full
      stays None h e = refl
      stays (Some u) h e =
          let late : is_before u.position s.position ≡ false =
          not_before (is_before u.position s.position)
          (λ x. apart (is_before u.position t.position)
          (before_weak s.position t.position u.position x e) h) in
          rw late refl

      go : (x : Bool) → is_before t.position s.position ≡ x →
          AreStops (cond x (Some t) (Some s)) (earlier_stop (Some s) full)
      go true e =
          let late : is_before s.position t.position ≡ false =
          not_before (is_before s.position t.position)
          (λ x. apart (is_before t.position t.position)
          (before_trans t.position s.position t.position e x) (before_self t.position)) in
          inr (t, refl, m, behind_earlier (Some s) full t.position late h)
      go false e = inl (stays full h e)

  cut_first : (s : Stop F) (full b : Option (Stop F)) → s.fault ≡ refused →
      IsBehind full s.position → AreStops (earlier_stop (Some s) b) (earlier_stop full b)
  unfolding IsBehind AreStops
  cut_first s full None m h = inr (
    s,
    refl,
    m,
    subst (λ o. IsBehind o s.position) (sym (earlier_none full)) h,
  )
  cut_first s full (Some t) m h = go (is_before t.position s.position) refl
    where
      wins : (full : Option (Stop F)) → IsBehind full s.position →
          is_before t.position s.position ≡ true → Some t ≡ earlier_stop full (Some t)
      wins None h e = refl
      wins (Some v) h e = let first : is_before t.position v.position ≡ true =
          before_weak s.position v.position t.position e h in rw first refl

      go : (x : Bool) → is_before t.position s.position ≡ x →
          AreStops (cond x (Some t) (Some s)) (earlier_stop full (Some t))
      go true e = inl (wins full h e)
      go false e = inr (s, refl, m, behind_earlier full (Some t) s.position h e)

  cut_both : (s t : Stop F) (a b : Option (Stop F)) → s.fault ≡ refused → t.fault ≡ refused →
      IsBehind a s.position → IsBehind b t.position →
      AreStops (earlier_stop (Some s) (Some t)) (earlier_stop a b)
  unfolding AreStops
  cut_both s t a b m n h k = go (is_before t.position s.position) refl
    where
      go : (x : Bool) → is_before t.position s.position ≡ x →
          AreStops (cond x (Some t) (Some s)) (earlier_stop a b)
      go true e = inr (
        t,
        refl,
        n,
        behind_earlier a b t.position
            (behind_before a t.position s.position h e) k,
      )
      go false e = inr (
        s,
        refl,
        m,
        behind_earlier a b s.position h
            (behind_less b s.position t.position k e),
      )

  earlier_stops : (a b c d : Option (Stop F)) → AreStops a b → AreStops c d →
      AreStops (earlier_stop a c) (earlier_stop b d)
  unfolding AreStops
  earlier_stops a b c d (inl e) (inl f) = inl (ap (λ x. earlier_stop x c) e ∙
      ap (λ y. earlier_stop b y) f)
  earlier_stops a b c d (inl e) (inr f) =
      subst (λ x. AreStops (earlier_stop a x) (earlier_stop b d)) (sym f.1)
      (subst (λ x. AreStops (earlier_stop x (Some f.0)) (earlier_stop b d)) (sym e)
      (cut_second b f.0 d f.2 f.3))
  earlier_stops a b c d (inr e) (inl f) =
      subst (λ x. AreStops (earlier_stop x c) (earlier_stop b d)) (sym e.1)
      (subst (λ x. AreStops (earlier_stop (Some e.0) x) (earlier_stop b d)) (sym f)
      (cut_first e.0 b d e.2 e.3))
  earlier_stops a b c d (inr e) (inr f) =
      subst (λ x. AreStops (earlier_stop x c) (earlier_stop b d)) (sym e.1)
      (subst (λ x. AreStops (earlier_stop (Some e.0) x) (earlier_stop b d)) (sym f.1)
      (cut_both e.0 f.0 b d e.2 f.2 e.3 f.3))

  abbrev own : Input F → Option (Stop F)
  own i = stop_at (last_position i.records) i.fault

  own_stops : (i j : Input F) → IsRising i.records → IsSentOf refused i j → AreStops (own j) (own i)
  unfolding AreStops IsBehind
  own_stops i j h (inl e) = inl (ap own e)
  own_stops i j h (inr k) =
      inr (
        record { position = last_position j.records; fault = refused },
        ap (λ f. stop_at (last_position j.records) f) k.0,
        refl,
        behind i.fault,
      )
    where
      behind : (f : Option F) → IsBehind (stop_at (last_position i.records) f)
          (last_position j.records)
      behind None = tt
      behind (Some f) =
          subst (λ (rs : List Record). is_before (last_position rs) (last_position j.records) ≡
          false) (sym k.1.1)
          (last_behind j.records k.1.0 (subst IsRising k.1.1 h))

  abbrev lists_of : List (Input F) → List (List Record)
  lists_of inputs = map (λ i. i.records) inputs

  stops : (inputs sent : List (Input F)) → AllRising (lists_of inputs) →
      AreSentOf refused inputs sent → AreStops (stop sent) (stop inputs)
  unfolding AreStops
  stops [] [] h k = inl refl
  stops (i ∷ inputs) [] h k = absurd k
  stops [] (j ∷ sent) h k = absurd k
  stops (i ∷ inputs) (j ∷ sent) h k =
      earlier_stops (own j) (own i) (stop sent) (stop inputs)
      (own_stops i j (is_rising i.records h.0) k.0) (stops inputs sent h.1 k.1)

  -- ---- the records up to the stop

  one_front : (i j : Input F) → IsSentOf refused i j → IsFrontOf i.records j
  one_front i j (inl e) = record {
    first = ([], ap (λ (x : Input F). x.records) (sym e) ∙ sym (append-nil j.records));
    all = λ _. ap (λ (x : Input F). x.records) e;
  }
  one_front i j (inr k) = record { first = k.1; all = λ e. absurd (none_is_some (sym e ∙ k.0)) }
    where
      none_is_some : ◌≡◌ {A = Option F} None (Some refused) → ⊥
      none_is_some e = cc

  fronts : (inputs sent : List (Input F)) → AreSentOf refused inputs sent →
      AreFrontsOf (lists_of inputs) sent
  fronts [] [] k = tt
  fronts (i ∷ inputs) [] k = absurd k
  fronts [] (j ∷ sent) k = absurd k
  fronts (i ∷ inputs) (j ∷ sent) k = (one_front i j k.0, fronts inputs sent k.1)

  same_part : (inputs sent : List (Input F)) → AllRising (lists_of inputs) →
      AreSentOf refused inputs sent → stop inputs ≡ stop sent →
      raw_merged_part inputs ≡ raw_merged_part sent
  same_part inputs sent h k same =
      ap (λ s. filter (λ r. is_within s r.key) (raw_overlay (lists_of inputs))) same ∙
      part_of_overlay (lists_of inputs) sent h (fronts inputs sent k)

pub cut_behind_stop : (F : Type 0) → CutBehindStop F
unfolding AreStops
cut_behind_stop F refused inputs sent s h k is other =
    let same : stop inputs ≡ Some s = go (stops refused inputs sent h k) in
    (same, same_part refused inputs sent h k (same ∙ sym is))
  where
    some_same : (x y : Stop F) → Some x ≡ Some y → x ≡ y
    some_same x y e = cc

    go : AreStops refused (stop sent) (stop inputs) → stop inputs ≡ Some s
    go (inl e) = sym e ∙ is
    go (inr e) = absurd (other (ap (λ (x : Stop F). x.fault) (some_same s e.0 (sym is ∙ e.1)) ∙
        e.2))
