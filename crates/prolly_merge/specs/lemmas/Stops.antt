-- What the heads of inputs say where a merger stops.
use Rattle.std.proofs.Common.{◌≡◌, ℕ, false, cond, List, [], ◌∷◌, ◌++◌, Option}
use Rattle.std.proofs.Common.{Some, None, inl, inr, refl, sym, ap, ◌∙◌}
use Rattle.std.specs.List.{filter, flat_map, AllByRecursion}
use Rattle.prolly_entry.specs.Record.{Record}
use Rattle.prolly_entry.specs.Overlay.{raw_overlay, with_records}
use Rattle.prolly_entry.specs.Position.{Position, last_position, is_before}
use Rattle.prolly_tree.specs.Merge.{Input, Stop, stop_at, earlier_stop, stop, is_within}
use Rattle.prolly_tree.specs.Merge.{raw_merged_part, stop_fault}
use Rattle.prolly_link.specs.declared.message.End.{End}
use Rattle.prolly_link.specs.declared.message.End.TheVariants.{Clean, Fault}
use Rattle.prolly_link.specs.declared.fault.RunFault.{RunFault}
use Rattle.prolly_merge.specs.declared.heads.Head.{Head}
use Rattle.prolly_merge.specs.declared.heads.Head.TheVariants.{Ready, Ended}
use Rattle.prolly_merge.specs.Inputs.{end_of, input_of, lists_of, stop_end}
use Rattle.prolly_merge.specs.Head.{in_hand, Fits, IsFaultIn, Stops}
use Rattle.prolly_merge.specs.Places.{Place, heads_of, AllFit, after, lefts}

ready_ended : (r : Record) (e : End) → Ready r ≡ Ended e → ⊥
ready_ended r e h = cc

ended_same : (e f : End) → Ended e ≡ Ended f → e ≡ f
ended_same e f h = cc

record StopHere (o : Option (Stop RunFault)) (end : End) : Type 0 where
  fault : RunFault
  is : o ≡ Some (record { position = None; fault = fault })
  named : end ≡ Fault fault

last_some : (r : Record) (m : List Record) → (x : List ℕ) × (last_position (r ∷ m) ≡ Some x)
last_some r [] = (r.key, refl)
last_some r (s ∷ m) = last_some s m

stop_later : (p : Position) (x : List ℕ) (f : Option RunFault) (g : RunFault) → p ≡ Some x →
    earlier_stop (stop_at p f) (Some (record { position = None; fault = g })) ≡
    Some (record { position = None; fault = g })
stop_later p x None g e = refl
stop_later p x (Some f) g e = ap (λ q. cond (is_before None q)
    (Some (record { position = None; fault = g })) (Some (record { position = q; fault = f }))) e

stop_now : (f : RunFault) (t : Option (Stop RunFault)) →
    earlier_stop (Some (record { position = None; fault = f })) t ≡
    Some (record { position = None; fault = f })
stop_now f None = refl
stop_now f (Some t) = refl

stop_one : (h : Head) (hs : List Head) (end : End) (f : Input RunFault) (t : Option (Stop RunFault))
    → (IsFaultIn hs end → StopHere t end) → IsFaultIn (h ∷ hs) end → Fits h f →
    StopHere (earlier_stop (stop_at (last_position (in_hand h ++ f.records)) f.fault) t) end
stop_one (Ready r) hs end f t more at fit =
    let here = more at in
    let last = last_some r f.records in record {
      fault = here.fault;
      is = ap (earlier_stop (stop_at (last_position (r ∷ f.records)) f.fault)) here.is ∙
          stop_later (last_position (r ∷ f.records)) last.0 f.fault here.fault last.1;
      named = here.named;
    }
stop_one (Ended Clean) hs end f t more at fit =
    let here = more at in record {
      fault = here.fault;
      is = ap (λ i. earlier_stop (stop_at (last_position i.records) i.fault) t) fit ∙ here.is;
      named = here.named;
    }
stop_one (Ended (Fault g)) hs end f t more at fit = record {
  fault = g;
  is = ap (λ i. earlier_stop (stop_at (last_position i.records) i.fault) t) fit ∙ stop_now g t;
  named = at;
}

stop_all : (ps : List Place) (fs : List (Input RunFault)) (end : End) →
    IsFaultIn (heads_of ps) end → AllFit ps fs → StopHere (stop (lefts ps fs)) end
stop_all [] fs end at fit = absurd at
stop_all (p ∷ ps) [] end at fit = absurd fit
stop_all (p ∷ ps) (f ∷ fs) end at fit = stop_one p.head (heads_of ps) end f (stop (lefts ps fs))
    (λ more. stop_all ps fs end more fit.1) at fit.0

no_records : (m : List Record) → filter (λ r. false) m ≡ []
no_records [] = refl
no_records (r ∷ m) = no_records m

-- Nothing is left, and no fault is named.
pub record Nothing (is : List (Input RunFault)) : Type 0 where
  pub records : flat_map (λ records. records) (lists_of is) ≡ []
  pub stop : stop is ≡ None

done_one : (h : Head) (f : Input RunFault) → h ≡ Ended Clean → Fits h f →
    after (in_hand h) f ≡ input_of [] Clean
done_one (Ended e) f is fit = fit ∙ ap (input_of []) (ended_same e Clean is)
done_one (Ready r) f is fit = absurd (ready_ended r Clean is)

-- Where all heads are clean ends, nothing is left.
pub done_all : (ps : List Place) (fs : List (Input RunFault)) →
    AllByRecursion (λ h. h ≡ Ended Clean) (heads_of ps) → AllFit ps fs → Nothing (lefts ps fs)
done_all [] fs done fit = record { records = refl; stop = refl }
done_all (p ∷ ps) [] done fit = absurd fit
done_all (p ∷ ps) (f ∷ fs) done fit =
    let one : after (in_hand p.head) f ≡ input_of [] Clean = done_one p.head f done.0 fit.0 in
    let more = done_all ps fs done.1 fit.1 in
    record {
      records = ap (λ i. i.records ++ flat_map (λ records. records) (lists_of (lefts ps fs))) one ∙
          more.records;
      stop = ap (λ i. earlier_stop (stop_at (last_position i.records) i.fault) (stop (lefts ps fs)))
          one ∙ more.stop;
    }

no_overlay : (lists : List (List Record)) → flat_map (λ records. records) lists ≡ [] →
    raw_overlay lists ≡ []
unfolding raw_overlay
no_overlay lists h = ap (with_records []) h

-- Where a merger stops, nothing is left to be sent, and the fault that is named is that of its end.
pub left_is : (ps : List Place) (fs : List (Input RunFault)) (end : End) → Stops (heads_of ps) end →
    AllFit ps fs →
    (raw_merged_part (lefts ps fs) ≡ []) × (end ≡ stop_end (lefts ps fs))
left_is ps fs end (inl at) fit =
    let here = stop_all ps fs end at fit in (
      ap (λ s. filter (λ r. is_within s r.key) (raw_overlay (lists_of (lefts ps fs)))) here.is ∙
          no_records (raw_overlay (lists_of (lefts ps fs))),
      here.named ∙ sym (ap (λ s. end_of (stop_fault s)) here.is),
    )
left_is ps fs end (inr done) fit =
    let here = done_all ps fs done.1 fit in (
      ap (filter (λ r. is_within (stop (lefts ps fs)) r.key))
          (no_overlay (lists_of (lefts ps fs)) here.records),
      done.0 ∙ sym (ap (λ s. end_of (stop_fault s)) here.stop),
    )
