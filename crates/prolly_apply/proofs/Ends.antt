-- What the stage sent, once both inputs have come to their ends.
use Rattle.std.proofs.Common.{◌≡◌, Bool, true, false, List, [], ◌++◌}
use Rattle.std.proofs.Common.{inl, inr, refl, sym, ap, ◌∙◌, subst, append-nil}
use Rattle.std.proofs.lemmas.Bool.{false≢true}
use Rattle.std.proofs.lemmas.List.Concat.{flat_map-append}
use Rattle.std.specs.Prelude.{Result, Ok, Err, IfOk, IfErr}
use Rattle.prolly_entry.specs.declared.version.Version.{Version}
use Rattle.prolly_entry.specs.Cut.{Cut}
use Rattle.prolly_entry.specs.Overlay.{AllRising}
use Rattle.prolly_entry.specs.Pair.{Pair}
use Rattle.prolly_entry.specs.Record.{Record}
use Rattle.prolly_tree.specs.Chunk.{Chunk}
use Rattle.prolly_tree.specs.Events.{Closing, clean, faulty, leaf_events}
use Rattle.prolly_tree.specs.Merge.{Input, merged_part, stop}
use Rattle.prolly_link.specs.Identity.{LinkId}
use Rattle.prolly_link.specs.Progress.{HasEnded, end_given}
use Rattle.prolly_link.specs.declared.fault.RunFault.{RunFault}
use Rattle.prolly_link.specs.declared.fault.RunFault.TheVariants.{Memory}
use Rattle.prolly_link.specs.declared.message.End.{End}
use Rattle.prolly_link.specs.declared.message.End.TheVariants.{Clean, Fault}
use Rattle.prolly_link.specs.declared.message.Progress.{Progress}
use Rattle.prolly_merge.specs.Head.{Fits, in_hand}
use Rattle.prolly_merge.specs.Inputs.{Ends, end_of, fault_in, input_of, lists_of, stop_end}
use Rattle.prolly_merge.specs.Peeked.{Advances, Finishes, Opens}
use Rattle.prolly_merge.specs.Places.{Place}
use Rattle.prolly_merge.specs.declared.heads.Peeked.{Peeked}
use Rattle.prolly_stage.specs.Sends.{SendsPrefix, closing_of}
use Rattle.prolly_stage.specs.lemmas.Joins.{leaves_keep}
use Rattle.prolly_apply.specs.Applied.{EndsBy, EndsClean, IsCleanBehind, IsRefused, IsVerdict}
use Rattle.prolly_apply.specs.Applied.{MayBe, SeenAtEnd, SendsApplied, StopsAt, given}
use Rattle.prolly_apply.specs.Applied.{old_tree_fault, stop_ends}
use Rattle.prolly_apply.specs.Cutting.{AreCut, AreSeen, RestAreCut}
use Rattle.prolly_apply.specs.Taking.{SentFirst, both, pairs_of, whole}
use Rattle.prolly_apply.specs.declared.stage.Outcome.{Outcome}
use Rattle.prolly_apply.specs.declared.stage.Outcome.TheVariants as outcomes
use Rattle.prolly_apply.specs.declared.stop.Stop.{Stop}
use Rattle.prolly_apply.specs.declared.stop.Stop.TheVariants as stops
use Rattle.prolly_apply.proofs.Cuttings.{rest_front}

-- An input was opened, read on, and received to its end.
pub module_ends : {I : Type 0} (link : I → LinkId) (progress : I → Progress)
    (Follows : I → I → Type 0) (received : I → I → List Record)
    (goes_on : (a b c : I) → Follows a b → Follows b c → Follows a c) (first : I)
    (o m : Peeked I) (last : I) → Opens link progress Follows received first o →
    Advances link progress Follows o m → Finishes link progress Follows received m last →
    Ends link progress Follows first last
module_ends link progress Follows received goes_on first o m last b a f = record {
  link_is = f.ends.link_is ∙ a.link_is ∙ b.link_is;
  follows = goes_on first m.input last (goes_on first o.input m.input b.follows a.follows)
      f.ends.follows;
  ended = f.ends.ended;
}

pub all_received : {I : Type 0} (link : I → LinkId) (progress : I → Progress)
    (Follows : I → I → Type 0) (received : I → I → List Record)
    (goes_on : (a b c : I) → Follows a b → Follows b c → Follows a c)
    (received_both : (a b c : I) → Follows a b → Follows b c →
    received a c ≡ received a b ++ received b c) (first : I) (o m : Peeked I) (last : I) →
    Opens link progress Follows received first o → Advances link progress Follows o m →
    Finishes link progress Follows received m last →
    received first last ≡ (in_hand o.head ++ received o.input m.input) ++ received m.input last
all_received link progress Follows received goes_on received_both first o m last b a f =
    received_both first m.input last (goes_on first o.input m.input b.follows a.follows)
    f.ends.follows
    ∙ ap (λ rs. rs ++ received m.input last)
    (received_both first o.input m.input b.follows a.follows
    ∙ ap (λ rs. rs ++ received o.input m.input) b.received_is)

module _ (cut : Cut) (leaves rest all : List (List Pair)) (are : all ≡ leaves ++ rest)
    (progress last : Progress)
    (ends : HasEnded progress → (rest ≡ []) × (last ≡ progress)) (place : Place)
    (records more : List Record) (end : End) (read : records ≡ place.received ++ more)
    (fits : Fits place.head (input_of more end)) (before sent : List Chunk) where
  abbrev inputs : List (Input RunFault)
  inputs = given all (end_given last) records end

  abbrev left_old : List Pair
  left_old = pairs_of rest

  given_is : inputs ≡ whole (pairs_of leaves) place left_old (fault_in (end_given last))
      (input_of more end)
  given_is = ap (λ ps. both ps (fault_in (end_given last)) (input_of records end))
      (ap pairs_of are ∙ flat_map-append (λ l. l) leaves rest)
      ∙ ap (λ rs. both (pairs_of leaves ++ left_old) (fault_in (end_given last)) (input_of rs end))
      read

  may_be : MayBe progress left_old (fault_in (end_given last))
  may_be ended = let e = ends ended in (
    ap pairs_of e.0,
    ap (λ p. fault_in (end_given p)) e.1,
  )

  rising : AllRising (lists_of inputs) → AllRising (lists_of (whole (pairs_of leaves) place left_old
      (fault_in (end_given last)) (input_of more end)))
  rising h = subst (λ i. AllRising (lists_of i)) given_is h

  fewer : RestAreCut cut all → RestAreCut cut leaves
  fewer h = rest_front cut leaves rest (subst (RestAreCut cut) are h)

  prefix_sent : SentFirst cut before (pairs_of leaves) place (MayBe progress) sent →
      AllRising (lists_of inputs) → (version : Version) (closing : Closing) →
      SendsPrefix (leaf_events cut version closing (merged_part inputs)) before sent
  prefix_sent s rises version closing =
      let first = s.first left_old (fault_in (end_given last)) (input_of more end) may_be fits
      (rising rises) in
      let keeps = leaves_keep cut version closing s.pairs first.0 in (
        leaf_events cut version faulty s.pairs,
        (
          keeps.0,
          ap (leaf_events cut version closing) (ap merged_part given_is ∙ first.1) ∙ keeps.1,
        ),
        s.events version,
      )

  -- A run that came to a clean end.
  sends_clean : EndsClean cut leaves progress place before sent → (version : Version) →
      SendsApplied cut version all inputs before sent Clean
  sends_clean e version rises cutly =
      let s = e.sends (fewer cutly) in
      let law = s.all left_old (fault_in (end_given last)) (input_of more end) may_be fits
      (rising rises) in
      let end_is : stop_end inputs ≡ Clean = ap stop_end given_is ∙ law.1 in
      let merged : merged_part inputs ≡ s.pairs = ap merged_part given_is ∙ law.0 in
      inl (
        s.events version ∙ ap (λ ps. before ++ leaf_events cut version clean ps) (sym merged)
            ∙ ap (λ x. before ++ leaf_events cut version (closing_of x) (merged_part inputs))
            (sym end_is),
        sym end_is,
      )

  sends_stopped : (stop : Stop) → StopsAt cut leaves progress place before stop sent →
      (version : Version) → SendsApplied cut version all inputs before sent (stop_ends stop)
  sends_stopped stops.Memory s version rises cutly =
      inr (refl, prefix_sent (s (fewer cutly)) rises version (closing_of (stop_end inputs)))
  sends_stopped (stops.Fault fault) s version rises cutly =
      let all_sent = s (fewer cutly) in
      let law = all_sent.all left_old (fault_in (end_given last)) (input_of more end) may_be fits
      (rising rises) in
      let end_is : stop_end inputs ≡ Fault fault =
      ap stop_end given_is ∙ ap end_of law.fault_is in
      let merged : merged_part inputs ≡ all_sent.pairs = ap merged_part given_is ∙ law.merged in
      inl (
        all_sent.events version
            ∙ ap (λ ps. before ++ leaf_events cut version faulty ps) (sym merged)
            ∙ ap (λ x. before ++ leaf_events cut version (closing_of x) (merged_part inputs))
            (sym end_is),
        sym end_is,
      )

  clean_fault : {A : Type 0} (fault : RunFault) → Fault fault ≡ Clean → A
  clean_fault fault e = cc

  stop_not_clean : {A : Type 0} (stop : Stop) → stop_ends stop ≡ Clean → A
  stop_not_clean stops.Memory e = clean_fault Memory e
  stop_not_clean (stops.Fault fault) e = clean_fault fault e

  no_more : HasEnded progress → leaves ≡ all
  no_more ended = sym (are ∙ ap (λ ls. leaves ++ ls) (ends ended).0 ∙ append-nil leaves)

  -- What the clauses of the stage say.
  pub record Told (refused : Bool) (end_sent : End) (all_sent : List Chunk) : Type 0 where
    pub sends : refused ≡ false → (version : Version) →
        SendsApplied cut version all inputs before all_sent end_sent
    pub seen : refused ≡ false → SeenAtEnd cut all end_sent
    pub wrong : refused ≡ true → IsRefused cut all inputs before all_sent end_sent
    pub clean : IsCleanBehind (end_given last) end_sent

  pub tells : (outcome : Result Outcome Stop) (end_sent : End) (refused : Bool)
      (all_sent : List Chunk) → all_sent ≡ sent → IsVerdict outcome end_sent refused →
      IfOk outcome (λ o. EndsBy cut leaves progress place before o sent) →
      IfErr outcome (λ s. StopsAt cut leaves progress place before s sent) →
      Told refused end_sent all_sent
  tells outcome end_sent refused all_sent e v ok err =
      subst (Told refused end_sent) (sym e) (go outcome end_sent refused v ok err)
    where
      go : (outcome : Result Outcome Stop) (end_sent : End) (refused : Bool) →
          IsVerdict outcome end_sent refused →
          IfOk outcome (λ o. EndsBy cut leaves progress place before o sent) →
          IfErr outcome (λ s. StopsAt cut leaves progress place before s sent) →
          Told refused end_sent sent
      go (Ok outcomes.Clean) end_sent refused v ok err = record {
        sends = λ no version. subst (SendsApplied cut version all inputs before sent) (sym v.0)
            (sends_clean ok version);
        seen = λ no e. subst (AreSeen cut) (no_more ok.ended) ok.seen;
        wrong = λ yes. absurd (false≢true (sym v.1 ∙ yes));
        clean = λ e. ap end_given (ends ok.ended).1 ∙ ok.clean_end;
      }
      go (Ok outcomes.Refused) end_sent refused v ok err = record {
        sends = λ no. absurd (false≢true (sym no ∙ v.1));
        seen = λ no. absurd (false≢true (sym no ∙ v.1));
        wrong = λ yes. record {
          wrong = λ cutly. ok.wrong rest (subst (AreCut cut) are cutly);
          end = v.0;
          first = λ version rises cutly. prefix_sent (ok.first (fewer cutly)) rises version
              (closing_of (stop_end inputs));
        };
        clean = λ e. clean_fault old_tree_fault (sym v.0 ∙ e);
      }
      go (Err stop) end_sent refused v ok err = record {
        sends = λ no version. subst (SendsApplied cut version all inputs before sent) (sym v.0)
            (sends_stopped stop err version);
        seen = λ no e. stop_not_clean stop (sym v.0 ∙ e);
        wrong = λ yes. absurd (false≢true (sym v.1 ∙ yes));
        clean = λ e. stop_not_clean stop (sym v.0 ∙ e);
      }
