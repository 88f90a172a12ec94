-- Verifying the proof of a set of keys, chunk by chunk.
use Rattle.std.proofs.Common.{◌≡◌, ◌≢◌, inl, inr, ℕ, min, Bool, true, false, List, [], ◌∷◌, ◌++◌}
use Rattle.std.proofs.Common.{length, Option, Some, None, Result, Ok, Err, refl, sym, ap, ◌∙◌}
use Rattle.std.proofs.Common.{subst, arith, append_assoc, append-nil}
use Rattle.std.specs.Prelude.{◌↔◌, IsErrOf}
use Rattle.std.specs.List.{AllByRecursion, flat_map}
use Rattle.std.proofs.lemmas.Bool.{cases_eq}
use Rattle.std.proofs.lemmas.List.{length-append}
use Rattle.std.proofs.lemmas.List.Concat.{flat_map-append}
use Rattle.prolly_entry.specs.Pair.{Pair}
use Rattle.prolly_entry.specs.declared.version.Version.{Version}
use Rattle.prolly_entry.specs.lemmas.Lists.{all_append}
use Rattle.prolly_io.specs.Failures.{after_failure}
use Rattle.prolly_io.specs.Frame.{framed, IsSmall}
use Rattle.prolly_io.specs.Sink.{IsSettled, SinkView}
use Rattle.prolly_io.specs.Writer.{next_count}
use Rattle.prolly_range.specs.Found.{ShownInOrder}
use Rattle.prolly_range.specs.KeySet.{KeySet}
use Rattle.prolly_range.specs.SetProof.{AreTaken, Due, IsSetProof, root_due}
use Rattle.prolly_range.specs.SetProof.{set_file, set_start}
use Rattle.prolly_range.specs.Verifier.{ComesTo, IsAtEnd, IsNextFault, IsRestOf, IsStartFault}
use Rattle.prolly_range.specs.Verifier.{MayFail, TakesNext, VerifierView}
use Rattle.prolly_range.specs.declared.fault.SetFault.{SetFault}
use Rattle.prolly_range.specs.declared.fault.SetFault.TheVariants as sets
use Rattle.prolly_range.specs.lemmas.Taken.{taken_more}
use Rattle.prolly_text.specs.declared.notation.Notation.{Notation}
use Rattle.prolly_tree.specs.Events.{greatest_count}
use Rattle.prolly_fault.specs.OutputFault.{told}
use Rattle.prolly_answer.specs.Outputs.{IsSettledAs, TookAll, TookPart, WroteOwn}
use Rattle.prolly_answer.specs.SetLines.{FitsLeft, RisesIn, alone_lines, left_at_first, left_behind}
use Rattle.prolly_answer.specs.SetLines.{lines_at_end, lines_so_far, more_lines}
use Rattle.prolly_answer.specs.SetProofs.{BeginsWithChunks, IsEndedSet, IsNoSetProof, IsStoppedSet}
use Rattle.prolly_answer.specs.SetProofs.{IsVerifiedSet, StoppedSet, TellsProofReads}
use Rattle.prolly_fault.specs.SetFaults.{told_set}
use Rattle.prolly_fault.specs.declared.fault.Fault.{Fault}
use Rattle.prolly_fault.specs.declared.fault.Fault.TheVariants.{Memory, Read, Write}
use Rattle.prolly_fault.specs.declared.output_fault.OutputFault.{OutputFault}
use Rattle.prolly_fault.specs.declared.output_fault.OutputFault.TheVariants as outputs
use Rattle.prolly_range.specs.lemmas.Rests.{not_begun, rest_behind, rest_begins}
use Rattle.prolly_answer.proofs.ShownKeys.{IsLeft, SomeOfSet, left_begins, left_fits, left_goes_on}
use Rattle.prolly_answer.proofs.ShownKeys.{lines_ended, lines_more, lines_of_none, some_of_set}
use Rattle.prolly_answer.proofs.Writing.{TookSoFar, flushed, took_more, took_none, took_until}
use Rattle.prolly_answer.proofs.Writing.{unflushed}

-- ---- what a call came to

-- A source that is honest now was honest at first: what is said of it where it is now, is said where
-- it was at first.
module _ (version : Version) (due next : List Due) (left after : List ℕ) (first now : Bool)
    (honest : first ≡ true → now ≡ true) where
  pub chunk_came : (shown : List Pair) (chunk : Option (List Pair)) → chunk ≡ Some shown →
      (v : Version) → v ≡ version → ComesTo v due chunk next now left after →
      TakesNext version due shown next first left after
  chunk_came shown chunk is v same comes =
      let t : TakesNext version due shown next now left after =
      subst (λ o. ComesTo version due o next now left after) is
      (subst (λ v. ComesTo v due chunk next now left after) same comes) in
      record {
        chunk = t.chunk;
        takes = t.takes;
        small = t.small;
        read = λ h. t.read (honest h);
      }

  pub end_came : (chunk : Option (List Pair)) → chunk ≡ None → (v : Version) →
      ComesTo v due chunk next now left after → IsAtEnd due next first left
  end_came chunk is v comes =
      let end : IsAtEnd due next now left =
      subst (λ o. ComesTo v due o next now left after) is comes in
      record {
        none = end.none;
        still = end.still;
        over = λ h. end.over (honest h);
      }

-- What a verifier keeps that was opened.
pub record IsOpened (verifier : VerifierView) (version : Version) (due : List Due) : Type 0 where
  pub version_is : verifier.version ≡ version
  pub due_is : verifier.due ≡ due
  pub count_is : verifier.count ≡ 0
  pub going : verifier.stopped ≡ false

pub is_opened : (verifier : VerifierView) (version : Version) (due : List Due) →
    verifier ≡ record { version = version; due = due; count = 0; stopped = false } →
    IsOpened verifier version due
is_opened verifier version due e = record {
  version_is = ap (λ v. v.version) e;
  due_is = ap (λ v. v.due) e;
  count_is = ap (λ v. v.count) e;
  going = ap (λ v. v.stopped) e;
}

-- ---- on its way

module _ {W : Type 0} (seen : W → SinkView) (notation : Notation) (version : Version)
    (root : List ℕ) (set : KeySet) (honest : Bool) (bytes : List ℕ) where
  -- So much is due behind the chunks that were taken, these keys of a list are left, and the lines that
  -- are told were written.
  pub record IsReading (due : List Due) (count : ℕ) (left : List ℕ) (keys : List (List ℕ)) (old new : W)
      : Type 0 where
    pub order : ShownInOrder
    pub rises : RisesIn set
    pub chunks : List (List ℕ)
    pub pairs : List Pair
    pub small : AllByRecursion IsSmall chunks
    pub taken : AreTaken version (root_due root set ∷ []) chunks pairs due
    pub keys_are : IsLeft set pairs keys
    pub count_is : count ≡ min greatest_count (length chunks)
    pub read : honest ≡ true → bytes ≡ set_file version chunks ++ left
    pub rest : honest ≡ true → (ps : List Pair) → IsSetProof version root set bytes ps →
        IsRestOf version due left
    pub took : TookSoFar seen (lines_so_far notation set pairs) old new

  abbrev Verified : W → W → Type 0
  Verified old new = IsVerifiedSet notation version root set honest bytes
      (λ lines. TookSoFar seen lines old new)

  abbrev Stopped : W → W → Fault → Type 0
  Stopped old new = IsStoppedSet notation version root set honest bytes
      (λ lines. TookSoFar seen lines old new) (λ lines. TookPart seen lines old new)

  abbrev Refused : List (List ℕ) → List Due → SetFault → Type 0
  Refused chunks due fault = honest ≡ true →
      IsNoSetProof version root set bytes chunks due fault

  told_none : (old : W) → TookSoFar seen (lines_so_far notation set []) old old
  told_none old = subst (λ lines. TookSoFar seen lines old old) (sym (lines_of_none notation set))
      (took_none seen old)

  pub range_begins : (due : List Due) (count : ℕ) (left : List ℕ) (keys : List (List ℕ)) (old : W) →
      ShownInOrder → RisesIn set → keys ≡ left_at_first set → due ≡ root_due root set ∷ [] →
      count ≡ 0 → (honest ≡ true → bytes ≡ set_start version ++ left) →
      IsReading due count left keys old old
  range_begins due count left keys old order rises all is none start = record {
    order = order;
    rises = rises;
    chunks = [];
    pairs = [];
    small = tt;
    taken = (sym is, refl);
    keys_are = subst (IsLeft set []) (sym all) (left_begins set);
    count_is = none;
    read = start;
    rest = λ h ps p. subst (λ d. IsRestOf version d left) (sym is)
        (rest_begins version root set bytes left ps (start h) p);
    took = told_none old;
  }

  -- The bytes do not begin as a proof.
  pub range_refused : (fault : SetFault) (old : W) →
      (honest ≡ true → IsStartFault version bytes fault) → Stopped old old (told_set fault)
  range_refused fault old start = record {
    chunks = [];
    pairs = [];
    due = root_due root set ∷ [];
    lines = lines_so_far notation set [];
    taken = (refl, refl);
    read = λ h. inl refl;
    told_are = inl refl;
    stopped = inl (fault, refl, λ h. refused fault (start h), told_none old);
  }
    where
      refused : (fault : SetFault) → IsStartFault version bytes fault →
          IsNoSetProof version root set bytes [] (root_due root set ∷ []) fault
      refused sets.Memory s = tt
      refused sets.Read s = tt
      refused (sets.Proof fault) s =
          (inl (refl, s), λ ps p. not_begun version root set bytes fault ps s p)
      refused sets.Stopped s = absurd s

  module _ (due : List Due) (count : ℕ) (left : List ℕ) (keys : List (List ℕ)) (old mid : W)
      (r : IsReading due count left keys old mid) where
    abbrev front : honest ≡ true → BeginsWithChunks version bytes r.chunks
    front h = record { left = left; is = r.read h }

    stopped_by : (fault : SetFault) → Refused r.chunks due fault → (last : W) → last ≡ mid →
        Stopped old last (told_set fault)
    stopped_by fault refused last same = record {
      chunks = r.chunks;
      pairs = r.pairs;
      due = due;
      lines = lines_so_far notation set r.pairs;
      taken = r.taken;
      read = λ h. inr (front h);
      told_are = inl refl;
      stopped = inl (
        fault,
        refl,
        refused,
        subst (λ w. TookSoFar seen
            (lines_so_far notation set r.pairs) old w) (sym same) r.took,
      );
    }

    wants : (last : W) → last ≡ mid → Stopped old last Memory
    wants = stopped_by sets.Memory (λ h. tt)

    -- Nothing is due any more, and the lines of the keys that are left are told.
    module _ (next : List Due) (end : IsAtEnd due next honest left) (last : W) where
      all : lines_at_end notation set r.pairs ≡
          lines_so_far notation set r.pairs ++ alone_lines notation keys
      all = lines_ended notation set r.pairs keys r.rises
          (some_of_set r.order version root set r.chunks r.pairs due r.rises r.taken) r.keys_are

      pub range_unwritten : (fault : OutputFault) →
          WroteOwn {T = Unit {0}} seen (alone_lines notation keys) mid last (Err fault) →
          Stopped old last (told fault)
      range_unwritten outputs.Memory same = wants last same
      range_unwritten outputs.Write w = record {
        chunks = r.chunks;
        pairs = r.pairs;
        due = due;
        lines = lines_at_end notation set r.pairs;
        taken = r.taken;
        read = λ h. inr (front h);
        told_are = inr (end.none, refl);
        stopped = inr (
          refl,
          took_until seen (lines_so_far notation set r.pairs) old mid r.took
              outputs.Write (lines_at_end notation set r.pairs) (alone_lines notation keys) [] last
              (all ∙ ap (λ own. lines_so_far notation set r.pairs ++ own)
              (sym (append-nil (alone_lines notation keys)))) w,
        );
      }

      pub range_ends : (x : Unit {0}) →
          WroteOwn seen (alone_lines notation keys) mid last (Ok x) → Verified old last
      range_ends x w = record {
        proof = set_file version r.chunks;
        pairs = r.pairs;
        proves = record {
          chunks = r.chunks;
          small = r.small;
          is = refl;
          taken = subst (AreTaken version (root_due root set ∷ []) r.chunks r.pairs) end.none
              r.taken;
        };
        read = λ h. r.read h ∙ ap (λ x. set_file version r.chunks ++ x) (end.over h) ∙
            append-nil (set_file version r.chunks);
        took = subst (λ lines. TookSoFar seen lines old last) (sym all)
            (took_more seen (lines_so_far notation set r.pairs) old mid r.took x
            (alone_lines notation keys) last w);
      }

    -- What is next is at fault.
    pub range_fails : (fault : SetFault) →
        (honest ≡ true → IsNextFault version due count left fault) →
        (honest ≡ true → IsRestOf version due left → MayFail fault) →
        Stopped old mid (told_set fault)
    range_fails fault next accepts = stopped_by fault (refused fault next accepts) mid refl
      where
        other : (fault : SetFault) → MayFail fault → fault ≢ sets.Memory → fault ≢ sets.Read → ⊥
        other fault (inl e) m n = m e
        other fault (inr e) m n = n e

        refused : (fault : SetFault) → (honest ≡ true → IsNextFault version due count left fault) →
            (honest ≡ true → IsRestOf version due left → MayFail fault) →
            Refused r.chunks due fault
        refused sets.Memory next accepts h = tt
        refused sets.Read next accepts h = tt
        refused (sets.Proof fault) next accepts h = (
          inr (record {
            small = r.small;
            front = front h;
            so = subst (λ n. IsNextFault version due n left (sets.Proof fault)) r.count_is (next h);
          }),
          λ ps p. other (sets.Proof fault) (accepts h (r.rest h ps p)) (λ e. cc) (λ e. cc),
        )
        refused sets.Stopped next accepts h = absurd (next h)

    module _ (shown : List Pair) (next : List Due) (after : List ℕ)
        (t : TakesNext version due shown next honest left after) where
      abbrev own : List ℕ
      own = more_lines notation set keys shown

      taken : AreTaken version (root_due root set ∷ []) (r.chunks ++ t.chunk ∷ []) (r.pairs ++ shown)
          next
      taken = taken_more version (root_due root set ∷ []) r.chunks r.pairs due t.chunk shown next
          r.taken t.takes

      some : SomeOfSet set (r.pairs ++ shown)
      some = some_of_set r.order version root set (r.chunks ++ t.chunk ∷ []) (r.pairs ++ shown) next
          r.rises taken

      -- Behind the frames that were read stands that of the chunk.
      frames : honest ≡ true → bytes ≡ set_file version (r.chunks ++ t.chunk ∷ []) ++ after
      frames h = r.read h ∙ ap (λ x. set_file version r.chunks ++ x) (t.read h) ∙
          sym (append_assoc (set_file version r.chunks) (framed t.chunk) after) ∙
          ap (λ x. x ++ after)
          (append_assoc (set_start version) (flat_map framed r.chunks) (framed t.chunk) ∙
          ap (λ x. set_start version ++ x)
          (ap (λ x. flat_map framed r.chunks ++ x) (sym (append-nil (framed t.chunk))) ∙
          sym (flat_map-append framed r.chunks (t.chunk ∷ []))))

      text : lines_so_far notation set (r.pairs ++ shown) ≡ lines_so_far notation set r.pairs ++ own
      text = lines_more notation set r.pairs shown keys r.rises some r.keys_are

      -- The pairs that it shows are of the keys that are left.
      pub chunk_fits : FitsLeft set keys shown
      chunk_fits = left_fits set r.pairs shown keys r.rises some r.keys_are

      module _ (new : W) where
        -- The lines of one more chunk are not all written.
        pub chunk_unwritten : (T : Type 0) (fault : OutputFault) →
            WroteOwn {T = T} seen (more_lines notation set keys shown) mid new (Err fault) →
            Stopped old new (told fault)
        chunk_unwritten T outputs.Memory same = wants new same
        chunk_unwritten T outputs.Write w = record {
          chunks = r.chunks ++ t.chunk ∷ [];
          pairs = r.pairs ++ shown;
          due = next;
          lines = lines_so_far notation set (r.pairs ++ shown);
          taken = taken;
          read = λ h. inr (record { left = after; is = frames h });
          told_are = inl refl;
          stopped = inr (
            refl,
            took_until seen (lines_so_far notation set r.pairs) old mid r.took
                outputs.Write (lines_so_far notation set (r.pairs ++ shown)) own [] new
                (text ∙ ap (λ own. lines_so_far notation set r.pairs ++ own)
                (sym (append-nil own))) w,
          );
        }

        -- They are written.
        pub range_goes_on : {T : Type 0} (x : T) (more : ℕ) (rest : List (List ℕ)) →
            more ≡ next_count count → rest ≡ left_behind set keys shown →
            WroteOwn seen (more_lines notation set keys shown) mid new (Ok x) →
            IsReading next more after rest old new
        range_goes_on x more rest one behind w = record {
          order = r.order;
          rises = r.rises;
          chunks = r.chunks ++ t.chunk ∷ [];
          pairs = r.pairs ++ shown;
          small = all_append IsSmall r.chunks (t.chunk ∷ []) r.small (t.small, tt);
          taken = taken;
          keys_are = subst (IsLeft set (r.pairs ++ shown)) (sym behind)
              (left_goes_on set r.pairs shown keys r.keys_are);
          count_is = omega (arith, one, r.count_is, length-append r.chunks (t.chunk ∷ []));
          read = frames;
          rest = λ h ps p. rest_behind version due t.chunk shown next left after t.takes t.small
              (t.read h) (r.rest h ps p);
          took = subst (λ lines. TookSoFar seen lines old new) (sym text)
              (took_more seen (lines_so_far notation set r.pairs) old mid r.took x own new w);
        }

-- ---- the end

module _ {W : Type 0} (seen : W → SinkView) (notation : Notation) (version : Version)
    (root : List ℕ) (set : KeySet) (honest : Bool) (bytes : List ℕ) (old mid new : W) where
  abbrev Before : Result (Unit {0}) Fault → Type 0
  Before = IsEndedSet notation version root set honest bytes (λ lines. TookSoFar seen lines old mid)
      (λ lines. TookPart seen lines old mid)

  abbrev After : Result (Unit {0}) Fault → Type 0
  After = IsEndedSet notation version root set honest bytes (λ lines. TookAll seen lines old new)
      (λ lines. TookPart seen lines old new)

  ended_by : (fault shown : Fault) (s : Before (Err fault)) → StoppedSet
      (λ of_proof. honest ≡ true → IsNoSetProof version root set bytes s.chunks s.due of_proof)
      (λ lines. TookAll seen lines old new) (λ lines. TookPart seen lines old new) s.lines shown →
      After (Err shown)
  ended_by fault shown s stopped = record {
    chunks = s.chunks;
    pairs = s.pairs;
    due = s.due;
    lines = s.lines;
    taken = s.taken;
    read = s.read;
    told_are = s.told_are;
    stopped = stopped;
  }

  -- a write failed
  cut_off : new ≡ mid → Before (Err Write) → After (Err Write)
  cut_off is s = ended_by Write Write s (elim s.stopped [
    | inl d ↦ absurd (other d.0 d.1)
    | inr d ↦ inr (refl, subst (λ last. TookPart seen s.lines old last) (sym is) d.1)
  ])
    where
      other : (of_proof : SetFault) → Write ≡ told_set of_proof → ⊥
      other sets.Memory e = cc
      other sets.Read e = cc
      other (sets.Proof f) e = cc
      other sets.Stopped e = cc

  module _ (same : (seen mid).is_keeping ≡ true → (seen new).taken ≡ (seen mid).taken) where
    -- the sink is flushed
    ended_flushed : (seen new).failures ≡ (seen mid).failures → IsSettled (seen new) →
        ((seen mid).is_keeping ≡ true → (seen new).is_keeping ≡ true) →
        (outcome : Result (Unit {0}) Fault) → outcome ≢ Err Write → Before outcome → After outcome
    ended_flushed counted settled still (Ok done) other d = record {
      proof = d.proof;
      pairs = d.pairs;
      proves = d.proves;
      read = d.read;
      took = flushed seen (lines_at_end notation set d.pairs) old mid d.took new same counted settled
          still;
    }
    ended_flushed counted settled still (Err fault) other s = ended_by fault fault s (elim s.stopped [
      | inl d ↦ inl (d.0, d.1, d.2, flushed seen s.lines old mid d.3 new same counted settled still)
      | inr d ↦ absurd (other (ap Err d.0))
    ])

    -- that fails
    ended_unflushed : (seen new).failures ≡ after_failure (seen mid).failures →
        (outcome : Result (Unit {0}) Fault) → outcome ≢ Err Write → Before outcome →
        After (Err Write)
    ended_unflushed counted (Ok done) other d = record {
      chunks = d.proves.chunks;
      pairs = d.pairs;
      due = [];
      lines = lines_at_end notation set d.pairs;
      taken = d.proves.taken;
      read = λ h. inr (record {
        left = [];
        is = d.read h ∙ d.proves.is ∙ sym (append-nil (set_file version d.proves.chunks));
      });
      told_are = inr (refl, refl);
      stopped = inr (
        refl,
        unflushed seen (lines_at_end notation set d.pairs) old mid d.took new same counted,
      );
    }
    ended_unflushed counted (Err fault) other s = ended_by fault Write s (elim s.stopped [
      | inl d ↦ inr (refl, unflushed seen s.lines old mid d.3 new same counted)
      | inr d ↦ absurd (other (ap Err d.0))
    ])

  pub set_told : (outcome shown : Result (Unit {0}) Fault) → Before outcome →
      IsSettledAs seen Write mid new outcome shown → After shown
  set_told outcome shown d (inl is) =
      subst After (sym (is.1 ∙ is.0)) (cut_off is.2 (subst Before is.0 d))
  set_told outcome shown d (inr is) = elim is.1.tells [
    | inl s ↦ subst After (sym s.0) (ended_flushed is.1.same s.1 s.2 is.1.keeping outcome is.0 d)
    | inr s ↦ subst After (sym s.0) (ended_unflushed is.1.same s.1 outcome is.0 d)
  ]

-- ---- what is told of the reads

-- None failed in a call that went well.
pub none_failed : (old new : ℕ) → ((new ≢ old) → ⊥) → new ≡ old
none_failed old new none = elim (cases_eq new old) [
  | inl e ↦ e
  | inr other ↦ absurd (none other)
]

pub unfailed : {T : Type 0} (x : T) (old new : ℕ) →
    (IsErrOf {T = T} (Ok x) sets.Read ↔ (new ≢ old)) → new ≡ old
unfailed x old new read = none_failed old new (λ other. not_err x (read.1 other))
  where
    not_err : {T : Type 0} (x : T) → ◌≡◌ {A = Result T SetFault} (Ok x) (Err sets.Read) → ⊥
    not_err x e = cc

pub lines_tell : (before after : ℕ) (fault : OutputFault) → after ≡ before →
    TellsProofReads (after ≢ before) (Err (told fault))
lines_tell before after fault same = (
  λ e. absurd (not_read fault e),
  λ failed. absurd (failed same),
)
  where
    not_read : (fault : OutputFault) → told fault ≡ Read → ⊥
    not_read outputs.Memory e = cc
    not_read outputs.Write e = cc
