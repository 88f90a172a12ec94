-- How a merged part goes on, one key after another.
use Rattle.std.proofs.Common.{◌≡◌, ℕ, Bool, true, false, not, cond, List, [], ◌∷◌, map, Option}
use Rattle.std.proofs.Common.{Some, None, Ordering, refl, sym, ap, ◌∙◌, subst}
use Rattle.std.specs.declared.cmp.Ordering.TheVariants.{Less, Equal, Greater}
use Rattle.std.specs.Ordering.{is_lt, is_eq}
use Rattle.std.proofs.lemmas.Bool.{false≢true}
use Rattle.std.specs.List.{filter, AllByRecursion}
use Rattle.prolly_entry.specs.Record.{Record}
use Rattle.prolly_entry.specs.Keys.{key_order, KeyBelow}
use Rattle.prolly_entry.specs.Overlay.{raw_overlay, AllRising, NotBelow, rest_after}
use Rattle.prolly_tree.specs.Merge.{Input, Stop, stop_at, earlier_stop, stop, is_within}
use Rattle.prolly_tree.specs.Merge.{stop_fault}
use Rattle.prolly_entry.specs.Position.{Position, last_position, is_before}
use Rattle.prolly_entry.specs.lemmas.RisingRecords.{IsRising, AllAbove, is_rising}
use Rattle.prolly_entry.specs.lemmas.Overlays.{rising_raw, merge_step}
use Rattle.prolly_entry.specs.lemmas.Orders.{eq_true, order_same, order_self, order_trans}
use Rattle.prolly_entry.specs.lemmas.Orders.{not_eq_above}
use Rattle.prolly_tree.specs.MergeSteps.{MergeGoesOn, SaysOn, rests}
use Rattle.prolly_tree.specs.lemmas.Merging.{not_below_above}

-- what is above what is not below the key is not below it
above_at_least : (key x y : List ℕ) → is_lt (key_order x key) ≡ false → KeyBelow x y →
    is_lt (key_order y key) ≡ false
above_at_least key x y h k = go (key_order y key) refl
  where
    go : (o : Ordering) → key_order y key ≡ o → is_lt (key_order y key) ≡ false
    go Less e = absurd (false≢true (sym h ∙ ap is_lt (order_trans x y key k e)))
    go Equal e = ap is_lt e
    go Greater e = ap is_lt e

-- ---- positions

-- a position at the key is before all keys once the key is out
low : List ℕ → Position → Position
low key None = None
low key (Some x) = cond (is_eq (key_order x key)) None (Some x)

AtLeast : List ℕ → Position → Type 0
AtLeast key None = ⊥
AtLeast key (Some x) = is_lt (key_order x key) ≡ false

low_above : (key : List ℕ) (m : List Record) → AllAbove key m →
    low key (last_position m) ≡ last_position m
unfolding low
low_above key [] h = refl
low_above key (r ∷ []) h = ap (λ b. cond b None (Some r.key)) (not_eq_above key r.key h.0)
low_above key (r ∷ s ∷ m) h = low_above key (s ∷ m) h.1

above_all : (key x : List ℕ) (m : List Record) → KeyBelow key x → AllAbove x m → AllAbove key m
above_all key x [] h k = tt
above_all key x (r ∷ m) h k = (order_trans key x r.key h k.0, above_all key x m h k.1)

last_at_least : (key : List ℕ) (r : Record) (m : List Record) → IsRising (r ∷ m) →
    is_lt (key_order r.key key) ≡ false → AtLeast key (last_position (r ∷ m))
unfolding AtLeast
last_at_least key r [] h k = k
last_at_least key r (s ∷ m) h k = last_at_least key s m h.1 (above_at_least key r.key s.key k h.0.0)

last_rest : (key : List ℕ) (m : List Record) → IsRising m → NotBelow key m →
    last_position (rest_after key m) ≡ low key (last_position m)
unfolding low
last_rest key [] h k = refl
last_rest key (r ∷ m) h k = go (is_eq (key_order r.key key)) refl
  where
    at : (m : List Record) → r.key ≡ key → AllAbove r.key m →
        last_position m ≡ low key (last_position (r ∷ m))
    at [] e a = sym (ap (λ b. cond b None (Some r.key))
        (ap is_eq (subst (λ x. key_order r.key x ≡ Equal) e (order_self r.key))))
    at (s ∷ m) e a = sym (low_above key (s ∷ m) (subst (λ x. AllAbove x (s ∷ m)) e a))

    go : (b : Bool) → is_eq (key_order r.key key) ≡ b →
        last_position (cond b m (r ∷ m)) ≡ low key (last_position (r ∷ m))
    go true e = at m (order_same r.key key (eq_true (key_order r.key key) e)) h.0
    go false e = let b : KeyBelow key r.key = not_below_above r.key key k e in
        sym (low_above key (r ∷ m) (b, above_all key r.key m b h.0))

before_low : (key : List ℕ) (p q : Position) → AtLeast key p → AtLeast key q →
    is_before (low key p) (low key q) ≡ is_before p q
unfolding low AtLeast
before_low key None q h k = absurd h
before_low key (Some y) None h k = absurd k
before_low key (Some y) (Some x) h k = go (is_eq (key_order y key)) (is_eq (key_order x key)) refl
    refl
  where
    go : (a b : Bool) → is_eq (key_order y key) ≡ a → is_eq (key_order x key) ≡ b →
        is_before (cond a None (Some y)) (cond b None (Some x)) ≡ is_lt (key_order y x)
    go true true e f = let same : y ≡ x = order_same y key (eq_true (key_order y key) e) ∙
        sym (order_same x key (eq_true (key_order x key) f)) in
        sym (ap is_lt (subst (λ z. key_order y z ≡ Equal) same (order_self y)))
    go true false e f = let same : y ≡ key = order_same y key (eq_true (key_order y key) e) in
        sym (ap is_lt (subst (λ z. KeyBelow z x) (sym same) (not_below_above x key k f)))
    go false true e f = let same : x ≡ key = order_same x key (eq_true (key_order x key) f) in
        sym (subst (λ z. is_lt (key_order y z) ≡ false) (sym same) h)
    go false false e f = refl

module _ {F : Type 0} where
  lowered : List ℕ → Option (Stop F) → Option (Stop F)
  lowered key None = None
  lowered key (Some s) = Some (record { position = low key s.position; fault = s.fault })

  StopAtLeast : List ℕ → Option (Stop F) → Type 0
  StopAtLeast key None = Unit {0}
  StopAtLeast key (Some s) = AtLeast key s.position

  abbrev records_of : List (Input F) → List (List Record)
  records_of inputs = map (λ i. i.records) inputs

  stop_at_least_pair : (key : List ℕ) (s t : Option (Stop F)) → StopAtLeast key s →
      StopAtLeast key t → StopAtLeast key (earlier_stop s t)
  unfolding StopAtLeast
  stop_at_least_pair key None t h k = k
  stop_at_least_pair key (Some s) None h k = h
  stop_at_least_pair key (Some s) (Some t) h k = go (is_before t.position s.position)
    where
      go : (b : Bool) → StopAtLeast key (cond b (Some t) (Some s))
      go true = k
      go false = h

  earlier_lowered : (key : List ℕ) (s t : Option (Stop F)) → StopAtLeast key s → StopAtLeast key t →
      earlier_stop (lowered key s) (lowered key t) ≡ lowered key (earlier_stop s t)
  unfolding lowered StopAtLeast
  earlier_lowered key None t h k = refl
  earlier_lowered key (Some s) None h k = refl
  earlier_lowered key (Some s) (Some t) h k =
      ap (λ b. cond b (lowered key (Some t)) (lowered key (Some s)))
      (before_low key t.position s.position k h) ∙ go (is_before t.position s.position)
    where
      go : (b : Bool) → cond b (lowered key (Some t)) (lowered key (Some s)) ≡
          lowered key (cond b (Some t) (Some s))
      go true = refl
      go false = refl

  own_at_least : (key : List ℕ) (m : List Record) (f : Option F) → IsRising m → NotBelow key m →
      (m ≡ [] → f ≡ None) → StopAtLeast key (stop_at (last_position m) f)
  unfolding StopAtLeast
  own_at_least key m None h k l = tt
  own_at_least key [] (Some f) h k l = absurd (some_none (l refl))
    where
      some_none : ◌≡◌ {A = Option F} (Some f) None → ⊥
      some_none e = cc
  own_at_least key (r ∷ m) (Some f) h k l = last_at_least key r m h k

  own_rest : (key : List ℕ) (m : List Record) (f : Option F) → IsRising m → NotBelow key m →
      stop_at (last_position (rest_after key m)) f ≡ lowered key (stop_at (last_position m) f)
  unfolding lowered
  own_rest key m None h k = refl
  own_rest key m (Some f) h k = ap (λ p. stop_at p (Some f)) (last_rest key m h k)

  stop_at_least : (key : List ℕ) (inputs : List (Input F)) → AllRising (records_of inputs) →
      AllByRecursion (NotBelow key) (records_of inputs) → AllByRecursion SaysOn inputs →
      StopAtLeast key (stop inputs)
  unfolding StopAtLeast
  stop_at_least key [] h k l = tt
  stop_at_least key (i ∷ inputs) h k l = stop_at_least_pair key
      (stop_at (last_position i.records) i.fault) (stop inputs)
      (own_at_least key i.records i.fault (is_rising i.records h.0) k.0 l.0)
      (stop_at_least key inputs h.1 k.1 l.1)

  stop_rests : (key : List ℕ) (inputs : List (Input F)) → AllRising (records_of inputs) →
      AllByRecursion (NotBelow key) (records_of inputs) → AllByRecursion SaysOn inputs →
      stop (rests key inputs) ≡ lowered key (stop inputs)
  unfolding lowered
  stop_rests key [] h k l = refl
  stop_rests key (i ∷ inputs) h k l =
      ap (λ s. earlier_stop (stop_at (last_position (rest_after key i.records)) i.fault) s)
      (stop_rests key inputs h.1 k.1 l.1)
      ∙ ap (λ s. earlier_stop s (lowered key (stop inputs)))
      (own_rest key i.records i.fault (is_rising i.records h.0) k.0)
      ∙ earlier_lowered key (stop_at (last_position i.records) i.fault) (stop inputs)
      (own_at_least key i.records i.fault (is_rising i.records h.0) k.0 l.0)
      (stop_at_least key inputs h.1 k.1 l.1)

  lowered_fault : (key : List ℕ) (o : Option (Stop F)) → stop_fault (lowered key o) ≡ stop_fault o
  unfolding lowered
  lowered_fault key None = refl
  lowered_fault key (Some s) = refl

  within_key : (key : List ℕ) (o : Option (Stop F)) → StopAtLeast key o → is_within o key ≡ true
  unfolding StopAtLeast AtLeast
  within_key key None h = refl
  within_key key (Some s) h = go s.position h
    where
      go : (p : Position) → AtLeast key p → not (is_before p (Some key)) ≡ true
      go None h = absurd h
      go (Some x) h = ap not h

  within_above : (key q : List ℕ) (o : Option (Stop F)) → StopAtLeast key o → KeyBelow key q →
      is_within (lowered key o) q ≡ is_within o q
  unfolding StopAtLeast lowered AtLeast low
  within_above key q None h b = refl
  within_above key q (Some s) h b = go s.position h
    where
      go : (p : Position) → AtLeast key p → not (is_before (low key p) (Some q)) ≡
          not (is_before p (Some q))
      go None h = absurd h
      go (Some x) h = by (is_eq (key_order x key)) refl
        where
          by : (c : Bool) → is_eq (key_order x key) ≡ c →
              not (is_before (cond c None (Some x)) (Some q)) ≡ not (is_lt (key_order x q))
          by true e = sym (ap (λ o. not (is_lt o))
              (subst (λ z. KeyBelow z q) (sym (order_same x key (eq_true (key_order x key) e))) b))
          by false e = refl

  filter_within : (key : List ℕ) (o : Option (Stop F)) (m : List Record) → StopAtLeast key o →
      AllAbove key m →
      filter (λ r. is_within o r.key) m ≡ filter (λ r. is_within (lowered key o) r.key) m
  filter_within key o [] h a = refl
  filter_within key o (r ∷ m) h a =
      ap (λ b. cond b (r ∷ filter (λ r. is_within o r.key) m) (filter (λ r. is_within o r.key) m))
      (sym (within_above key r.key o h a.0))
      ∙ ap (λ ys. cond (is_within (lowered key o) r.key) (r ∷ ys) ys) (filter_within key o m h a.1)

  lists_of_rests : (key : List ℕ) (inputs : List (Input F)) →
      map (rest_after key) (records_of inputs) ≡ records_of (rests key inputs)
  lists_of_rests key [] = refl
  lists_of_rests key (i ∷ inputs) = ap (λ ls. rest_after key i.records ∷ ls)
      (lists_of_rests key inputs)

  -- The merged part begins with the least key, and goes on as that of what is left.
  pub merged_step : MergeGoesOn F
  merged_step inputs key value h k l e =
      let o = stop inputs in
      let first : Record = record { key = key; value = value } in
      let left : List Record = raw_overlay (map (rest_after key) (records_of inputs)) in
      let whole : raw_overlay (records_of inputs) ≡ first ∷ left =
      merge_step (records_of inputs) key value h k e in
      let rising : IsRising (first ∷ left) = subst IsRising whole (rising_raw (records_of inputs))
      in
      let least : StopAtLeast key o = stop_at_least key inputs h k l in
      let lower : stop (rests key inputs) ≡ lowered key o = stop_rests key inputs h k l in (
        ap (filter (λ r. is_within o r.key)) whole
            ∙ ap (λ b. cond b (first ∷ filter (λ r. is_within o r.key) left)
            (filter (λ r. is_within o r.key) left)) (within_key key o least)
            ∙ ap (λ ys. first ∷ ys) (filter_within key o left least rising.0
            ∙ ap (λ s. filter (λ r. is_within s r.key) left) (sym lower)
            ∙ ap (λ ls. filter (λ r. is_within (stop (rests key inputs)) r.key) (raw_overlay ls))
            (lists_of_rests key inputs)),
        sym (ap stop_fault lower ∙ lowered_fault key o),
      )
