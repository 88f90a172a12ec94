-- What mergers make of the files, where all ends are clean, and which faults their ends name.
use Rattle.std.proofs.Common.{◌≡◌, ℕ, zero, suc, Bool, true, false, cond, List, [], ◌∷◌, ◌++◌}
use Rattle.std.proofs.Common.{Option, Some, None, inl, inr, refl, ap, sym, subst, ◌∙◌}
use Rattle.std.specs.List.{filter, AllByRecursion}
use Rattle.prolly_entry.specs.Keys.{Rising, RisingFrom}
use Rattle.prolly_tree.specs.Merge.{Input, Stop, stop_at, earlier_stop, stop, stop_fault, is_within}
use Rattle.prolly_tree.specs.Merge.{raw_merged_part, merged_part, joined_input}
use Rattle.prolly_entry.specs.Overlay.{raw_overlay, overlay, pairs_put, AllRising}
use Rattle.prolly_entry.specs.Pair.{Pair}
use Rattle.prolly_entry.specs.Position.{Position, last_position, is_before}
use Rattle.prolly_entry.specs.Record.{Record, keys_of}
use Rattle.prolly_entry.specs.lemmas.Lists.{all_kept}
use Rattle.prolly_laws.specs.Merging.{merge_joined, merged_part_rises}
use Rattle.prolly_link.specs.declared.message.End.{End}
use Rattle.prolly_link.specs.declared.message.End.TheVariants.{Clean, Fault}
use Rattle.prolly_link.specs.declared.fault.RunFault.{RunFault}
use Rattle.prolly_link.specs.declared.fault.RunFault.TheVariants.{Memory}
use Rattle.prolly_merge.specs.Inputs.{fault_in, end_of, input_of, lists_of, stop_end}
use Rattle.prolly_merge.specs.Merged.{SendsAll}
use Rattle.prolly_build.specs.RecordLinks.{IsJoint, Joined}
use Rattle.prolly_build.specs.Mergers.{MergesTwo, MergesAll}

abbrev pub Inputs : Type 0
Inputs = List (Input RunFault)

fault_is_clean : (f : RunFault) → Fault f ≡ Clean → ⊥
fault_is_clean f e = cc

none_is_some : (f : RunFault) → None ≡ Some f → ⊥
none_is_some f e = cc

pub fault_of_end_of : (f : Option RunFault) → fault_in (end_of f) ≡ f
fault_of_end_of None = refl
fault_of_end_of (Some f) = refl

end_is_clean : (f : Option RunFault) → end_of f ≡ Clean → f ≡ None
end_is_clean None e = refl
end_is_clean (Some f) e = absurd (fault_is_clean f e)

-- ---- rising

from_front : (x : List ℕ) (xs ys : List Record) → RisingFrom x (keys_of (xs ++ ys)) →
    RisingFrom x (keys_of xs)
from_front x [] ys h = tt
from_front x (r ∷ rs) ys h = (h.0, from_front r.key rs ys h.1)

pub rising_front : (xs ys : List Record) → Rising (keys_of (xs ++ ys)) → Rising (keys_of xs)
rising_front [] ys h = tt
rising_front (r ∷ rs) ys h = from_front r.key rs ys h

-- what a merger of two sent rises
sent_rises : (left right : Input RunFault) (sent : List Record) (end : End) →
    MergesTwo left right sent end → AllRising (lists_of (left ∷ right ∷ [])) → Rising (keys_of sent)
sent_rises left right sent end merges rising = go (merges rising)
  where
    go : SendsAll [] (raw_merged_part (left ∷ right ∷ []))
        (end_of (stop_fault (stop (left ∷ right ∷ [])))) sent end → Rising (keys_of sent)
    go (inl h) = subst (λ (rs : List Record). Rising (keys_of rs)) (sym h.0)
        (merged_part_rises RunFault (left ∷ right ∷ []))
    go (inr h) = rising_front sent h.1.1.0
        (subst (λ (rs : List Record). Rising (keys_of rs))
        (h.1.1.1 ∙ ap (λ (rs : List Record). rs ++ h.1.1.0) (sym h.1.2))
        (merged_part_rises RunFault (left ∷ right ∷ [])))

-- ---- all inputs

pub all_front : (P : Input RunFault → Type 0) (xs ys : Inputs) → AllByRecursion P (xs ++ ys) →
    AllByRecursion P xs × AllByRecursion P ys
all_front P [] ys h = (tt, h)
all_front P (x ∷ xs) ys h = let k = all_front P xs ys h.1 in ((h.0, k.0), k.1)

pub all_both : (P : Input RunFault → Type 0) (xs ys : Inputs) → AllByRecursion P xs →
    AllByRecursion P ys → AllByRecursion P (xs ++ ys)
all_both P [] ys h k = k
all_both P (x ∷ xs) ys h k = (h.0, all_both P xs ys h.1 k)

-- what holds of all inputs holds of all after a merger of two, if it holds of what that made of its
-- two
all_joint : (P : Input RunFault → Type 0) (before after : Inputs) (j : IsJoint before after) →
    AllByRecursion P before →
    (P j.left → P j.right → P (input_of j.sent j.end)) → AllByRecursion P after
all_joint P before after j all made =
    let parts = all_front P j.forked.front (j.left ∷ j.right ∷ j.forked.back)
    (subst (λ (is : Inputs). AllByRecursion P is) j.forked.now all) in
    subst (λ (is : Inputs). AllByRecursion P is) (sym j.forked.was)
    (all_both P j.forked.front (input_of j.sent j.end ∷ j.forked.back) parts.0
    (made parts.1.0 parts.1.1.0, parts.1.1.1))

abbrev pub Rises : Input RunFault → Type 0
Rises i = Rising (keys_of i.records)

pub rises_all : (is : Inputs) → AllByRecursion Rises is → AllRising (lists_of is)
rises_all [] h = tt
rises_all (i ∷ is) h = (h.0, rises_all is h.1)

joint_rises : (before after : Inputs) → IsJoint before after → AllByRecursion Rises before →
    AllByRecursion Rises after
joint_rises before after j all = all_joint Rises before after j all
    (λ l r. sent_rises j.left j.right j.sent j.end j.merges (l, (r, tt)))

pub joined_rises : (n : ℕ) (files inputs : Inputs) → Joined n files inputs →
    AllByRecursion Rises files → AllByRecursion Rises inputs
joined_rises zero files inputs j all = subst (λ (is : Inputs). AllByRecursion Rises is) (sym j) all
joined_rises (suc n) files inputs j all = joint_rises j.0 inputs j.2
    (joined_rises n files j.0 j.1 all)

-- ---- which faults

abbrev pub IfFault : (RunFault → Type 0) → Option RunFault → Type 0
IfFault P None = Unit {0}
IfFault P (Some f) = P f

abbrev pub FaultsOnly : (RunFault → Type 0) → Input RunFault → Type 0
FaultsOnly P i = IfFault P i.fault

earlier_only : (P : RunFault → Type 0) (s t : Option (Stop RunFault)) → IfFault P (stop_fault s) →
    IfFault P (stop_fault t) → IfFault P (stop_fault (earlier_stop s t))
earlier_only P None t p q = q
earlier_only P (Some s) None p q = p
earlier_only P (Some s) (Some t) p q = go (is_before t.position s.position)
  where
    go : (b : Bool) → IfFault P (stop_fault (cond b (Some t) (Some s)))
    go true = q
    go false = p

stop_at_only : (P : RunFault → Type 0) (position : Position) (f : Option RunFault) → IfFault P f →
    IfFault P (stop_fault (stop_at position f))
stop_at_only P position None p = tt
stop_at_only P position (Some f) p = p

-- the fault that a stop names is that of one of the inputs
pub stop_only : (P : RunFault → Type 0) (is : Inputs) → AllByRecursion (FaultsOnly P) is →
    IfFault P (stop_fault (stop is))
stop_only P [] h = tt
stop_only P (i ∷ is) h = earlier_only P (stop_at (last_position i.records) i.fault) (stop is)
    (stop_at_only P (last_position i.records) i.fault h.0) (stop_only P is h.1)

end_only : (P : RunFault → Type 0) (f : Option RunFault) → IfFault P f →
    IfFault P (fault_in (end_of f))
end_only P None p = tt
end_only P (Some f) p = p

module _ (P : RunFault → Type 0) (of_memory : P Memory) where
  -- an end that was sent is the stop's, or tells that memory was refused
  pub sends_only : {T : Type 0} (inputs : Inputs) (items sent : List T) (end : End) →
      SendsAll [] items (stop_end inputs) sent end → AllByRecursion (FaultsOnly P) inputs →
      IfFault P (fault_in end)
  sends_only inputs items sent end (inl h) all =
      subst (λ e. IfFault P (fault_in e)) (sym h.1)
      (end_only P (stop_fault (stop inputs)) (stop_only P inputs all))
  sends_only inputs items sent end (inr h) all =
      subst (λ e. IfFault P (fault_in e)) (sym h.0) of_memory

  pub joined_only : (n : ℕ) (files inputs : Inputs) → Joined n files inputs →
      AllByRecursion Rises files → AllByRecursion (FaultsOnly P) files →
      AllByRecursion (FaultsOnly P) inputs
  joined_only zero files inputs j rising all =
      subst (λ (is : Inputs). AllByRecursion (FaultsOnly P) is) (sym j) all
  joined_only (suc n) files inputs j rising all =
      let below = joined_only n files j.0 j.1 rising all in
      let rises = joined_rises n files j.0 j.1 rising in
      let joint = j.2 in
      let two = all_front Rises joint.forked.front (joint.left ∷ joint.right ∷ joint.forked.back)
      (subst (λ (is : Inputs). AllByRecursion Rises is) joint.forked.now rises) in
      all_joint (FaultsOnly P) j.0 inputs joint below
      (λ l r. sends_only (joint.left ∷ joint.right ∷ [])
      (raw_merged_part (joint.left ∷ joint.right ∷ [])) joint.sent joint.end
      (joint.merges (two.1.0, (two.1.1.0, tt))) (l, (r, tt)))

-- ---- clean ends

earlier_none : (s t : Option (Stop RunFault)) → earlier_stop s t ≡ None → (s ≡ None) × (t ≡ None)
earlier_none None t e = (refl, e)
earlier_none (Some s) None e = absurd cc
earlier_none (Some s) (Some t) e = go (is_before t.position s.position) e
  where
    go : (b : Bool) → ◌≡◌ {A = Option (Stop RunFault)} (cond b (Some t) (Some s)) None →
        (◌≡◌ {A = Option (Stop RunFault)} (Some s) None) ×
        (◌≡◌ {A = Option (Stop RunFault)} (Some t) None)
    go true f = absurd cc
    go false f = absurd cc

stop_at_none : (position : Position) (f : Option RunFault) → stop_at position f ≡ None → f ≡ None
stop_at_none position None e = refl
stop_at_none position (Some f) e = absurd cc

abbrev pub EndsClean : Input RunFault → Type 0
EndsClean i = i.fault ≡ None

-- nothing stops inputs exactly where all of them end clean
pub all_clean : (is : Inputs) → stop is ≡ None → AllByRecursion EndsClean is
all_clean [] e = tt
all_clean (i ∷ is) e =
    let h = earlier_none (stop_at (last_position i.records) i.fault) (stop is) e in
    (stop_at_none (last_position i.records) i.fault h.0, all_clean is h.1)

stop_none : (s : Option (Stop RunFault)) → stop_fault s ≡ None → s ≡ None
stop_none None e = refl
stop_none (Some s) e = absurd cc

-- the inputs before a merger of two, where nothing stops those after it
joint_clean : (before after : Inputs) (j : IsJoint before after) → AllByRecursion Rises before →
    stop after ≡ None →
    (stop before ≡ stop after) × (raw_merged_part before ≡ raw_merged_part after)
joint_clean before after j rising none = go (j.merges two)
  where
    rises_before : AllByRecursion Rises (j.forked.front ++ j.left ∷ j.right ∷ j.forked.back)
    rises_before = subst (λ (is : Inputs). AllByRecursion Rises is) j.forked.now rising

    two : AllRising (lists_of (j.left ∷ j.right ∷ []))
    two = let h = all_front Rises j.forked.front (j.left ∷ j.right ∷ j.forked.back) rises_before in
        (h.1.0, (h.1.1.0, tt))

    ends_clean : EndsClean (input_of j.sent j.end)
    ends_clean = (all_front EndsClean j.forked.front (input_of j.sent j.end ∷ j.forked.back)
        (subst (λ (is : Inputs). AllByRecursion EndsClean is) j.forked.was
        (all_clean after none))).1.0

    go : SendsAll [] (raw_merged_part (j.left ∷ j.right ∷ [])) (stop_end (j.left ∷ j.right ∷ []))
        j.sent j.end →
        (stop before ≡ stop after) × (raw_merged_part before ≡ raw_merged_part after)
    go (inr h) = absurd (none_is_some Memory (sym ends_clean ∙ ap fault_in h.0))
    go (inl h) =
        let fault : fault_in j.end ≡ stop_fault (stop (j.left ∷ j.right ∷ [])) =
        ap fault_in h.1 ∙ fault_of_end_of (stop_fault (stop (j.left ∷ j.right ∷ []))) in
        let one : input_of j.sent j.end ≡ joined_input j.left j.right =
        joined_is j.left j.right j.sent j.end h.0 fault in
        let law = merge_joined j.forked.front j.forked.back j.left j.right
        (rises_all (j.forked.front ++ j.left ∷ j.right ∷ j.forked.back) rises_before) in
        let now : after ≡ j.forked.front ++ joined_input j.left j.right ∷ j.forked.back =
        j.forked.was ∙ ap (λ (i : Input RunFault). j.forked.front ++ i ∷ j.forked.back) one in (
          ap (λ (is : Inputs). stop is) j.forked.now ∙ law.0 ∙
              sym (ap (λ (is : Inputs). stop is) now),
          ap (λ (is : Inputs). raw_merged_part is) j.forked.now ∙ law.1 ∙
              sym (ap (λ (is : Inputs). raw_merged_part is) now),
        )
      where
        joined_is : (l r : Input RunFault) (sent : List Record) (end : End) →
            sent ≡ raw_merged_part (l ∷ r ∷ []) → fault_in end ≡ stop_fault (stop (l ∷ r ∷ [])) →
            input_of sent end ≡ joined_input l r
        joined_is l r sent end records fault =
            ap (λ (rs : List Record). record { records = rs; fault = fault_in end }) records
            ∙ ap (λ (f : Option RunFault). record {
              records = raw_merged_part (l ∷ r ∷ []);
              fault = f;
            }) fault

-- where nothing stops the last merger's inputs, nothing stops the files, and their merged parts are
-- the same
pub joined_clean : (n : ℕ) (files inputs : Inputs) → Joined n files inputs →
    AllByRecursion Rises files → stop inputs ≡ None →
    (stop files ≡ None) × (raw_merged_part files ≡ raw_merged_part inputs)
joined_clean zero files inputs j rising none =
    (ap (λ (is : Inputs). stop is) (sym j) ∙ none, ap (λ (is : Inputs). raw_merged_part is) (sym j))
joined_clean (suc n) files inputs j rising none =
    let h = joint_clean j.0 inputs j.2 (joined_rises n files j.0 j.1 rising) none in
    let k = joined_clean n files j.0 j.1 rising (h.0 ∙ none) in
    (k.0, k.1 ∙ h.1)

-- ---- the pairs of the last merger

-- where nothing stops them, the merged part of files is their overlay
pub merged_is_overlay : (files : Inputs) → stop files ≡ None →
    merged_part files ≡ overlay (lists_of files)
merged_is_overlay files none =
    ap (λ (s : Option (Stop RunFault)). pairs_put
    (filter (λ r. is_within s r.key) (raw_overlay (lists_of files)))) none
    ∙ ap pairs_put (all_kept (raw_overlay (lists_of files)))

-- at a clean end the last merger has sent the overlay of the files, which all end clean
pub clean_pairs : (n : ℕ) (files inputs : Inputs) (pairs : List Pair) → Joined n files inputs →
    AllByRecursion Rises files → MergesAll inputs pairs Clean →
    AllByRecursion EndsClean files × (pairs ≡ overlay (lists_of files))
clean_pairs n files inputs pairs j rising merges =
    go (merges (rises_all inputs (joined_rises n files inputs j rising)))
  where
    go : SendsAll [] (merged_part inputs) (stop_end inputs) pairs Clean →
        AllByRecursion EndsClean files × (pairs ≡ overlay (lists_of files))
    go (inr h) = absurd (fault_is_clean Memory (sym h.0))
    go (inl h) =
        let none = stop_none (stop inputs) (end_is_clean (stop_fault (stop inputs)) (sym h.1)) in
        let k = joined_clean n files inputs j rising none in (
          all_clean files k.0,
          h.0 ∙ (ap pairs_put (sym k.1) ∙ merged_is_overlay files k.0),
        )
