-- That one fault is the first for the proof of a set of keys.
use Rattle.std.proofs.Common.{◌≡◌, ◌∙◌, ◌-◌, ℕ, List, [], ◌∷◌, ◌++◌, map, Some, None, inl, inr}
use Rattle.std.proofs.Common.{refl}
use Rattle.std.proofs.Common.{sym, ap, subst}
use Rattle.prolly_look_up.specs.Kinds.{kind_of}
use Rattle.prolly_look_up.specs.Way.{level_of}
use Rattle.prolly_look_up.specs.declared.step.ChunkFlaw.{ChunkFlaw}
use Rattle.prolly_look_up.specs.Step.{IsFlawedChunk}
use Rattle.prolly_look_up.specs.lemmas.Chosen.{one_same}
use Rattle.prolly_look_up.specs.lemmas.Ways.{no_flaw}
use Rattle.prolly_entry.specs.declared.version.Version.{Version}
use Rattle.prolly_entry.specs.lemmas.Lists.{head_is, no_cons, tail_is}
use Rattle.prolly_entry.specs.lemmas.Overlays.{some_none}
use Rattle.prolly_root.specs.ChunkFile.{ChunkFile}
use Rattle.prolly_root.specs.LookUpFault.{fault_of_flaw}
use Rattle.prolly_root.specs.declared.root_fault.RootFault.{RootFault}
use Rattle.prolly_root.specs.lemmas.Flaws.{no_fault_of, one_fault_of}
use Rattle.prolly_root.specs.lemmas.Paths.{one_end}
use Rattle.prolly_root.specs.lemmas.Levels.{behind_one, nth_one}
use Rattle.prolly_range.specs.KeySet.{KeySet}
use Rattle.prolly_range.specs.FirstFault.{AreChildren, DueAt, EndsBehind, GoesOn, HasAllChunks}
use Rattle.prolly_range.specs.FirstFault.{IsDue}
use Rattle.prolly_range.specs.FirstFault.{IsFaultAt}
use Rattle.prolly_range.specs.FirstFault.{IsFirstSetFault, LacksOne, SetFaultsAreOne, StopsBehind}
use Rattle.prolly_range.specs.FirstFault.{StopsWith, chunk_at, numbers_met}
use Rattle.prolly_range.specs.SetProof.{Due, due_below}

-- the children of a node stand in one place each
one_number : (a b : DueAt) → a.due ≡ b.due → a.number ≡ b.number → a.from ≡ b.from → a ≡ b
one_number a b d n f =
    ap (λ d. at d a.number a.from) d ∙ ap (λ n. at b.due n a.from) n ∙ ap (at b.due b.number) f
  where
    at : Due → ℕ → ℕ → DueAt
    at due number from = record { due = due; number = number; from = from }

one_children : (file : ChunkFile) (level from : ℕ) (numbers : List ℕ) (xs ys : List DueAt) →
    map (λ d. d.due) xs ≡ map (λ d. d.due) ys → AreChildren file level from numbers xs →
    AreChildren file level from numbers ys → xs ≡ ys
one_children file level from [] [] [] e h k = refl
one_children file level from [] (x ∷ xs) ys e h k = absurd h
one_children file level from [] [] (y ∷ ys) e h k = absurd k
one_children file level from (n ∷ ns) [] ys e h k = absurd h
one_children file level from (n ∷ ns) (x ∷ xs) [] e h k = absurd k
one_children file level from (n ∷ ns) (x ∷ xs) (y ∷ ys) e h k =
    ap (λ z. z ∷ xs) (one_number x y (head_is _ _ _ _ e) (nth_one file level n from x.number y.number h.0 k.0)
    (behind_one file level n from x.from y.from h.1 k.1)) ∙
    ap (λ zs. y ∷ zs) (one_children file level from ns xs ys (tail_is _ _ _ _ e) h.2 k.2)

none_lacks : (file : ChunkFile) (level from : ℕ) (numbers : List ℕ) (children : List DueAt) →
    AreChildren file level from numbers children → LacksOne file level from numbers → ⊥
none_lacks file level from [] children h lacks = lacks
none_lacks file level from (n ∷ ns) [] h lacks = h
none_lacks file level from (n ∷ ns) (c ∷ cs) h (inl none) = none c.number h.0
none_lacks file level from (n ∷ ns) (c ∷ cs) h (inr more) =
    none_lacks file level from ns cs h.2 more

-- ---- one step, and one fault

module _ (version : Version) (file : ChunkFile) where
  one_next : (old new other : List DueAt) → GoesOn version file old new →
      GoesOn version file old other → new ≡ other
  one_next old new other g h =
      let same = head_is _ _ _ _ (sym g.was ∙ h.was) in
      let level = level_of (chunk_at file g.first) - 1 in
      let back : AreChildren file level g.first.from
      (numbers_met g.first.due.set (kind_of version (chunk_at file g.first))) h.below =
      subst (λ f. AreChildren file (level_of (chunk_at file f) - 1) f.from
      (numbers_met f.due.set (kind_of version (chunk_at file f))) h.below) (sym same) h.stand in
      let dues : map (λ d. d.due) g.below ≡ map (λ d. d.due) h.below =
      g.dues ∙ ap (λ f. due_of_first f) same ∙ sym h.dues in
      let one = one_children file level g.first.from
      (numbers_met g.first.due.set (kind_of version (chunk_at file g.first))) g.below h.below dues
      g.stand back in
      g.is ∙ ap (λ b. b ++ g.others) one ∙ ap (λ o. h.below ++ o) (tail_is _ _ _ _ (sym g.was ∙ h.was)) ∙
      sym h.is
    where
      due_of_first : DueAt → List Due
      due_of_first f = due_below (level_of (chunk_at file f)) f.due.set
          (kind_of version (chunk_at file f))

  no_next : (at next : List DueAt) (fault : RootFault) → StopsWith version file at fault →
      GoesOn version file at next → ⊥
  no_next at next fault stops g = none (subst (λ f. IsFaultAt version file f fault)
      (head_is _ _ _ _ (sym stops.was ∙ g.was)) stops.why)
    where
      none : IsFaultAt version file g.first fault → ⊥
      none (inl flaw) = no_fault_of _ g.right.named g.right.falls flaw
      none (inr lacks) = none_lacks file (level_of (chunk_at file g.first) - 1) g.first.from
          (numbers_met g.first.due.set (kind_of version (chunk_at file g.first))) g.below g.stand
          lacks.1

  one_fault_at : (at : DueAt) (fault other : RootFault) → IsFaultAt version file at fault →
      IsFaultAt version file at other → fault ≡ other
  one_fault_at at fault other (inl f) (inl g) = one_fault_of _ f g
  one_fault_at at fault other (inl f) (inr g) = absurd (no_fault_of _ g.0.named g.0.falls f)
  one_fault_at at fault other (inr f) (inl g) = absurd (no_fault_of _ f.0.named f.0.falls g)
  one_fault_at at fault other (inr f) (inr g) = f.2 ∙ sym g.2

  one_stop : (at : List DueAt) (fault other : RootFault) → StopsWith version file at fault →
      StopsWith version file at other → fault ≡ other
  one_stop at fault other s t = one_fault_at t.first fault other
      (subst (λ f. IsFaultAt version file f fault)
      (head_is _ _ _ _ (sym s.was ∙ t.was)) s.why) t.why

  stops_once : (due : List DueAt) (fault other : RootFault) → StopsBehind version file due fault →
      StopsBehind version file due other → fault ≡ other
  stops_once due fault other s t = one_stop t.last fault other
      (subst (λ at. StopsWith version file at fault) (one_end (GoesOn version file) one_next
      (λ at. StopsWith version file at fault) (λ at. StopsWith version file at other)
      (λ at next. no_next at next fault) (λ at next. no_next at next other) due s.steps t.steps
      s.last t.last s.leads t.leads s.stops t.stops) s.stops) t.stops

  ended : (at next : List DueAt) → at ≡ [] → GoesOn version file at next → ⊥
  ended at next e g = no_cons _ _ (sym g.was ∙ e)

  no_stop : (root : DueAt) (fault : RootFault) → EndsBehind version file (root ∷ []) →
      StopsBehind version file (root ∷ []) fault → ⊥
  no_stop root fault ends s = no_cons _ _ (sym s.stops.was ∙ one_end (GoesOn version file) one_next
      (λ at. StopsWith version file at fault) (λ at. at ≡ []) (λ at next. no_next at next fault)
      ended (root ∷ []) s.steps ends.steps s.last [] s.leads ends.leads s.stops refl)

-- ---- the law

one_first : (version : Version) (file : ChunkFile) (root : List ℕ) (set : KeySet)
    (fault other : RootFault) → IsFirstSetFault version file root set fault →
    IsFirstSetFault version file root set other → fault ≡ other
one_first version file root set fault other (inl f) (inl g) = one_same fault other (sym f ∙ g)
one_first version file root set fault other (inl f) (inr g) = absurd (some_none fault (sym f ∙ g.0))
one_first version file root set fault other (inr f) (inl g) = absurd (some_none other (sym g ∙ f.0))
one_first version file root set fault other (inr f) (inr g) =
    stops_once version file _ fault other f.1 g.1

no_first : (version : Version) (file : ChunkFile) (root : List ℕ) (set : KeySet)
    (fault : RootFault) → HasAllChunks version file root set →
    IsFirstSetFault version file root set fault → ⊥
no_first version file root set fault has (inl f) = some_none fault (sym f ∙ has.0)
no_first version file root set fault has (inr f) = no_stop version file _ fault has.1 f.1

pub set_faults_are_one : SetFaultsAreOne
set_faults_are_one = record { one = one_first; none = no_first }
