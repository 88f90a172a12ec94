-- That a look-up in a chunk file has one fault, and none where it comes to an end.
use Rattle.std.proofs.Common.{◌≡◌, ◌∙◌, ℕ, ◌-◌, List, [], ◌∷◌, ◌++◌, length, map, Option, Some}
use Rattle.std.proofs.Common.{None, inl, inr, refl, suc, sym, ap, subst}
use Rattle.prolly_look_up.specs.Entries.{Child}
use Rattle.prolly_look_up.specs.Kinds.{kind_of}
use Rattle.prolly_look_up.specs.Kinds.Entries.{Node}
use Rattle.prolly_look_up.specs.Sought.{EndsAt, Sought, child_sought}
use Rattle.prolly_look_up.specs.Way.{entry_keys, IsOrdered, level_of}
use Rattle.prolly_look_up.specs.lemmas.Chosen.{one_same}
use Rattle.prolly_entry.specs.Keys.{KeyBelow, Rising, RisingFrom}
use Rattle.prolly_entry.specs.declared.version.Version.{Version}
use Rattle.prolly_entry.specs.lemmas.Orders.{less_self, order_trans}
use Rattle.prolly_entry.specs.lemmas.Lists.{head_is, tail_is}
use Rattle.prolly_entry.specs.lemmas.Overlays.{some_none}
use Rattle.prolly_root.specs.ChunkFile.{ChunkFile}
use Rattle.prolly_root.specs.LookUpFault.{ComesToEnd, GoesOnIn, HasDue, IsFirstFault, IsLookUpFault}
use Rattle.prolly_root.specs.LookUpFault.{LeadsTo, Standing, StepsTo, StopsWith, chunk_of}
use Rattle.prolly_root.specs.Walk.{IsBehind, IsNth}
use Rattle.prolly_root.specs.declared.root_fault.RootFault.{RootFault}
use Rattle.prolly_root.specs.lemmas.Flaws.{no_fault_of, one_fault_of}
use Rattle.prolly_root.specs.lemmas.Paths.{one_end}
use Rattle.prolly_root.specs.lemmas.Levels.{behind_one, nth_one}

-- ---- a child stands once among those whose keys rise

abbrev keys : List Child → List (List ℕ)
keys cs = map (λ c. c.key) cs

rises_behind : (key : List ℕ) (ys : List (List ℕ)) → RisingFrom key ys → Rising ys
rises_behind key [] h = tt
rises_behind key (y ∷ ys) h = h.1

not_again : (key : List ℕ) (before : List Child) (c : Child) (after : List Child) →
    RisingFrom key (keys (before ++ c ∷ after)) → KeyBelow key c.key
not_again key [] c after h = h.0
not_again key (b ∷ before) c after h =
    order_trans key b.key c.key h.0 (not_again b.key before c after h.1)

one_place : (before after before' after' : List Child) (c : Child) →
    before ++ c ∷ after ≡ before' ++ c ∷ after' → Rising (keys (before ++ c ∷ after)) →
    length before ≡ length before'
one_place [] after [] after' c e h = refl
one_place [] after (b ∷ before') after' c e h =
    absurd (less_self c.key (not_again c.key before' c after'
    (subst (λ cs. RisingFrom c.key (keys cs)) (tail_is c b after (before' ++ c ∷ after') e) h)))
one_place (b ∷ before) after [] after' c e h =
    absurd (less_self c.key (subst (λ b. KeyBelow b.key c.key)
    (head_is b c (before ++ c ∷ after) after' e) (not_again b.key before c after h)))
one_place (b ∷ before) after (d ∷ before') after' c e h =
    ap suc (one_place before after before' after' c
    (tail_is b d (before ++ c ∷ after) (before' ++ c ∷ after') e)
    (rises_behind b.key (keys (before ++ c ∷ after)) h))

-- ---- one step

-- so the child in which a look-up goes on has one number
record SameChild (n m : ℕ) (r s : List ℕ) (t u : Sought) : Type 0 where
  pub numbers : n ≡ m
  pub references : r ≡ s
  pub soughts : t ≡ u

one_child : {version : Version} {chunk : List ℕ} → IsOrdered version chunk → {sought : Sought}
    {n m : ℕ} {r s : List ℕ} {t u : Sought} → GoesOnIn version chunk sought n r t →
    GoesOnIn version chunk sought m s u → SameChild n m r s t u
one_child ordered {sought = sought} {t = t} {u = u} g h = record {
  numbers = g.number_is ∙ one_place g.before g.after h.before h.after g.child
      (subst (λ c. g.before ++ g.child ∷ g.after ≡ h.before ++ c ∷ h.after) (sym chosen.0) all)
      (subst (λ entries. Rising (entry_keys entries)) g.are ordered.rising) ∙ sym h.number_is;
  references = g.reference_is ∙ ap (λ c. c.reference) chosen.0 ∙ sym h.reference_is;
  soughts = chosen.1;
}
  where
    nodes : (cs ds : List Child) → Node cs ≡ Node ds → cs ≡ ds
    nodes cs ds e = cc

    all : g.before ++ g.child ∷ g.after ≡ h.before ++ h.child ∷ h.after
    all = nodes (g.before ++ g.child ∷ g.after) (h.before ++ h.child ∷ h.after) (sym g.are ∙ h.are)

    pairs : (c d : Child) (x y : Sought) →
        ◌≡◌ {A = Option (Child × Sought)} (Some (c, x)) (Some (d, y)) → (c ≡ d) × (x ≡ y)
    pairs c d x y e =
        let same = one_same (c, x) (d, y) e in (ap (λ p. p.0) same, ap (λ p. p.1) same)

    chosen : (g.child ≡ h.child) × (t ≡ u)
    chosen = pairs g.child h.child t u (sym g.chosen ∙ ap (child_sought sought) all ∙ h.chosen)

-- and where it goes on it does not end
no_end : {version : Version} {chunk : List ℕ} {sought : Sought} {n : ℕ} {r : List ℕ} {t : Sought} →
    GoesOnIn version chunk sought n r t → EndsAt sought (kind_of version chunk) → ⊥
no_end {sought = sought} {t = t} g ends = none g.child t
    (sym g.chosen ∙ subst (λ entries. EndsAt sought entries) g.are ends)
  where
    none : (c : Child) (t : Sought) → ◌≡◌ {A = Option (Child × Sought)} (Some (c, t)) None → ⊥
    none c t e = cc

same_standing : (s t : Standing) → s.reference ≡ t.reference → s.above ≡ t.above →
    s.sought ≡ t.sought → s.number ≡ t.number → s.from ≡ t.from → s ≡ t
same_standing s t a b c d e =
    ap (λ r. standing r s.above s.sought s.number s.from) a ∙
    ap (λ above. standing t.reference above s.sought s.number s.from) b ∙
    ap (λ sought. standing t.reference t.above sought s.number s.from) c ∙
    ap (λ n. standing t.reference t.above t.sought n s.from) d ∙
    ap (λ from. standing t.reference t.above t.sought t.number from) e
  where
    standing : List ℕ → Option ℕ → Sought → ℕ → ℕ → Standing
    standing reference above sought number from = record {
      reference = reference;
      above = above;
      sought = sought;
      number = number;
      from = from;
    }

module _ (version : Version) (file : ChunkFile) where
  one_step : (at next other : Standing) → StepsTo version file at next →
      StepsTo version file at other → next ≡ other
  one_step at next other s t =
      let level = level_of (chunk_of file at) - 1 in
      let same = one_child s.due.named.ordered s.on t.on in
      same_standing next other same.references (s.above ∙ sym t.above) same.soughts
      (nth_one file level s.child at.from next.number other.number s.nth
      (subst (λ k. IsNth file level at.from k other.number) (sym same.numbers) t.nth))
      (behind_one file level s.child at.from next.from other.from s.behind
      (subst (λ k. IsBehind file level at.from k other.from) (sym same.numbers) t.behind))

  -- ---- one fault

  -- where a look-up stops it does not go on, nor end
  no_step : (at next : Standing) (fault : RootFault) → StopsWith version file at fault →
      StepsTo version file at next → ⊥
  no_step at next fault (inl flaw) s = no_fault_of _ s.due.named s.due.falls flaw
  no_step at next fault (inr lacks) s =
      let same = one_child s.due.named.ordered lacks.on s.on in
      lacks.none next.number (subst
      (λ k. IsNth file (level_of (chunk_of file at) - 1) at.from k next.number) (sym same.numbers)
      s.nth)

  one_stop : (at : Standing) (fault other : RootFault) → StopsWith version file at fault →
      StopsWith version file at other → fault ≡ other
  one_stop at fault other (inl f) (inl g) = one_fault_of _ f g
  one_stop at fault other (inl f) (inr g) = absurd (no_fault_of _ g.due.named g.due.falls f)
  one_stop at fault other (inr f) (inl g) = absurd (no_fault_of _ f.due.named f.due.falls g)
  one_stop at fault other (inr f) (inr g) = f.is ∙ sym g.is

  -- so two that stop, stop at one place, and one that stops does not come to an end
  stops_once : (at : Standing) (steps others : List Standing) (last end : Standing)
      (fault other : RootFault) → LeadsTo version file at steps last →
      LeadsTo version file at others end → StopsWith version file last fault →
      StopsWith version file end other → fault ≡ other
  stops_once at steps others last end fault other leads lead stops stop =
      one_stop last fault other stops (subst (λ s. StopsWith version file s other)
      (sym (one_end (StepsTo version file) one_step (λ s. StopsWith version file s fault)
      (λ s. StopsWith version file s other) (λ s next. no_step s next fault)
      (λ s next. no_step s next other) at steps others last end leads lead stops stop)) stop)

  abbrev Ends : Standing → Type 0
  Ends at = HasDue version file at × EndsAt at.sought (kind_of version (chunk_of file at))

  ends_or_stops : (at : Standing) (steps others : List Standing) (last end : Standing)
      (fault : RootFault) → LeadsTo version file at steps last →
      LeadsTo version file at others end → StopsWith version file last fault → Ends end → ⊥
  ends_or_stops at steps others last end fault leads lead stops ends =
      no_stop (subst (λ s. StopsWith version file s fault)
      (one_end (StepsTo version file) one_step (λ s. StopsWith version file s fault) Ends
      (λ s next. no_step s next fault) (λ s next ends step. no_end step.on ends.1) at steps others
      last end leads lead stops ends) stops)
    where
      no_stop : StopsWith version file end fault → ⊥
      no_stop (inl flaw) = no_fault_of _ ends.0.named ends.0.falls flaw
      no_stop (inr lacks) = no_end lacks.on ends.1

one_on_way : (version : Version) (file : ChunkFile) (root : List ℕ) (sought : Sought)
    (fault other : RootFault) → IsLookUpFault version file root sought fault →
    IsLookUpFault version file root sought other → fault ≡ other
one_on_way version file root sought fault other f g =
    stops_once version file _ f.steps g.steps f.last g.last fault other f.leads g.leads f.stops
    g.stops

pub one_fault : (version : Version) (file : ChunkFile) (root : List ℕ) (sought : Sought)
    (fault other : RootFault) → IsFirstFault version file root sought fault →
    IsFirstFault version file root sought other → fault ≡ other
one_fault version file root sought fault other (inl f) (inl g) = one_same fault other (sym f ∙ g)
one_fault version file root sought fault other (inl f) (inr g) = absurd (some_none fault (sym f ∙ g.0))
one_fault version file root sought fault other (inr f) (inl g) = absurd (some_none other (sym g ∙ f.0))
one_fault version file root sought fault other (inr f) (inr g) =
    one_on_way version file root sought fault other f.1 g.1

pub no_fault : (version : Version) (file : ChunkFile) (root : List ℕ) (sought : Sought)
    (fault : RootFault) → ComesToEnd version file root sought →
    IsLookUpFault version file root sought fault → ⊥
no_fault version file root sought fault c f =
    ends_or_stops version file _ f.steps c.steps f.last c.last fault f.leads c.leads f.stops
    (c.due, c.ends)
