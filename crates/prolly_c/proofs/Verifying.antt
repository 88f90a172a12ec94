-- Verifying a proof, chunk by chunk.
use Rattle.std.proofs.Common.{◌≡◌, ◌≢◌, inl, inr, ℕ, min, Bool, true, List, [], ◌∷◌, ◌++◌}
use Rattle.std.proofs.Common.{length, Option, Some, None, Err, refl, sym, ap, ◌∙◌}
use Rattle.std.proofs.Common.{subst, arith, append_assoc, append-nil}
use Rattle.std.specs.Prelude.{◌↔◌, IsErrOf}
use Rattle.std.specs.List.{AllByRecursion, flat_map}
use Rattle.std.proofs.lemmas.List.{length-append}
use Rattle.std.proofs.lemmas.List.Concat.{flat_map-append}
use Rattle.prolly_entry.specs.Pair.{Pair}
use Rattle.prolly_entry.specs.declared.version.Version.{Version}
use Rattle.prolly_entry.specs.lemmas.Lists.{all_append}
use Rattle.prolly_io.specs.Frame.{framed, IsSmall}
use Rattle.prolly_io.specs.Writer.{next_count}
use Rattle.prolly_range.specs.KeySet.{KeySet}
use Rattle.prolly_range.specs.SetProof.{AreTaken, Due, IsSetProof, root_due}
use Rattle.prolly_range.specs.SetProof.{set_file, set_start}
use Rattle.prolly_range.specs.Verifier.{ComesTo, IsAtEnd, IsNextFault, IsRestOf, IsStartFault}
use Rattle.prolly_range.specs.Verifier.{MayFail, TakesNext}
use Rattle.prolly_range.specs.declared.fault.SetFault.{SetFault}
use Rattle.prolly_range.specs.declared.fault.SetFault.TheVariants as sets
use Rattle.prolly_range.specs.lemmas.Taken.{taken_more}
use Rattle.prolly_tree.specs.Events.{greatest_count}
use Rattle.prolly_range.specs.lemmas.Rests.{not_begun, rest_behind, rest_begins}
use Rattle.prolly_c.specs.RangeProofs.{IsNoRangeProof, IsSomeRangeProof}

-- What a call came to, over a source that is honest.
pub chunk_came : (version v : Version) (due next : List Due) (left after : List ℕ) (honest : Bool)
    (shown : List Pair) (chunk : Option (List Pair)) → chunk ≡ Some shown → v ≡ version →
    ComesTo v due chunk next honest left after → TakesNext version due shown next honest left after
chunk_came version v due next left after honest shown chunk is same comes =
    subst (λ o. ComesTo version due o next honest left after) is
    (subst (λ v. ComesTo v due chunk next honest left after) same comes)

pub end_came : (version : Version) (due next : List Due) (left after : List ℕ) (honest : Bool)
    (chunk : Option (List Pair)) → chunk ≡ None → ComesTo version due chunk next honest left after →
    IsAtEnd due next honest left
end_came version due next left after honest chunk is comes =
    subst (λ o. ComesTo version due o next honest left after) is comes

-- A read that fails nowhere is not told as failed.
pub not_read : {T : Type 0} (fault : SetFault) (failures : ℕ) →
    (IsErrOf {T = T} (Err fault) sets.Read ↔ (failures ≢ failures)) → fault ≢ sets.Read
not_read fault failures read is = read.0 (ap Err is) refl

module _ (version : Version) (root : List ℕ) (set : KeySet) (bytes : List ℕ) where
  -- So much is due behind the chunks that were taken.
  pub record IsReading (due : List Due) (count : ℕ) (left : List ℕ) : Type 0 where
    pub chunks : List (List ℕ)
    pub pairs : List Pair
    pub small : AllByRecursion IsSmall chunks
    pub taken : AreTaken version (root_due root set ∷ []) chunks pairs due
    pub count_is : count ≡ min greatest_count (length chunks)
    pub read : bytes ≡ set_file version chunks ++ left
    pub rest : (ps : List Pair) → IsSetProof version root set bytes ps → IsRestOf version due left

  pub reading_begins : (due : List Due) (count : ℕ) (left : List ℕ) → due ≡ root_due root set ∷ [] →
      count ≡ 0 → bytes ≡ set_start version ++ left → IsReading due count left
  reading_begins due count left is none start = record {
    chunks = [];
    pairs = [];
    small = tt;
    taken = (sym is, refl);
    count_is = none;
    read = start;
    rest = λ ps p. subst (λ d. IsRestOf version d left) (sym is)
        (rest_begins version root set bytes left ps start p);
  }

  -- The bytes do not begin as a proof.
  pub start_refused : (fault : SetFault) → fault ≢ sets.Read → IsStartFault version bytes fault →
      IsNoRangeProof version root set bytes fault
  start_refused sets.Memory other s = tt
  start_refused sets.Read other s = absurd (other refl)
  start_refused (sets.Proof fault) other s =
      (inl s, λ p. not_begun version root set bytes fault p.pairs s p.proof)
  start_refused sets.Stopped other s = absurd s

  module _ (due : List Due) (count : ℕ) (left : List ℕ) (r : IsReading due count left) where
    -- Nothing is due any more.
    pub reading_ends : (new : List Due) → IsAtEnd due new true left →
        IsSomeRangeProof version root set bytes
    reading_ends new end = record {
      pairs = r.pairs;
      proof = record {
        chunks = r.chunks;
        small = r.small;
        is = r.read ∙ ap (λ x. set_file version r.chunks ++ x) (end.over refl) ∙
            append-nil (set_file version r.chunks);
        taken = subst (AreTaken version (root_due root set ∷ []) r.chunks r.pairs) end.none r.taken;
      };
    }

    -- What is next is at fault.
    pub next_refused : (fault : SetFault) → fault ≢ sets.Read →
        IsNextFault version due count left fault →
        (IsRestOf version due left → MayFail fault) → IsNoRangeProof version root set bytes fault
    next_refused sets.Memory other next accepts = tt
    next_refused sets.Read other next accepts = absurd (other refl)
    next_refused (sets.Proof fault) other next accepts = (
      inr (record {
        chunks = r.chunks;
        pairs = r.pairs;
        due = due;
        left = left;
        small = r.small;
        taken = r.taken;
        is = r.read;
        so = subst (λ n. IsNextFault version due n left (sets.Proof fault)) r.count_is next;
      }),
      λ p. none (accepts (r.rest p.pairs p.proof)),
    )
      where
        none : MayFail (sets.Proof fault) → ⊥
        none (inl e) = cc
        none (inr e) = cc
    next_refused sets.Stopped other next accepts = absurd next

    -- One more chunk is taken.
    pub reading_goes_on : (shown : List Pair) (next : List Due) (after : List ℕ) (more : ℕ) →
        TakesNext version due shown next true left after → more ≡ next_count count →
        IsReading next more after
    reading_goes_on shown next after more t one = record {
      chunks = r.chunks ++ t.chunk ∷ [];
      pairs = r.pairs ++ shown;
      small = all_append IsSmall r.chunks (t.chunk ∷ []) r.small (t.small, tt);
      taken = taken_more version (root_due root set ∷ []) r.chunks r.pairs due t.chunk shown next
          r.taken t.takes;
      count_is = omega (arith, one, r.count_is, length-append r.chunks (t.chunk ∷ []));
      read = r.read ∙ ap (λ x. set_file version r.chunks ++ x) (t.read refl) ∙
          sym (append_assoc (set_file version r.chunks) (framed t.chunk) after) ∙ file_more;
      rest = λ ps p. rest_behind version due t.chunk shown next left after t.takes t.small
          (t.read refl) (r.rest ps p);
    }
      where
        file_more : (set_file version r.chunks ++ framed t.chunk) ++ after ≡
            set_file version (r.chunks ++ t.chunk ∷ []) ++ after
        file_more = ap (λ x. x ++ after)
            (append_assoc (set_start version) (flat_map framed r.chunks) (framed t.chunk) ∙
            ap (λ x. set_start version ++ x)
            (ap (λ x. flat_map framed r.chunks ++ x) (sym (append-nil (framed t.chunk))) ∙
            sym (flat_map-append framed r.chunks (t.chunk ∷ []))))
