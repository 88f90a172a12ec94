-- Look-ups by a root one after another, and the sink that what they find is written to.
use Rattle.std.proofs.Common.{◌≡◌, ◌≢◌, ℕ, inl, inr, ◌⊎◌, true, List, [], ◌∷◌}
use Rattle.std.proofs.Common.{◌++◌, refl, sym, ap, ◌∙◌, subst}
use Rattle.std.proofs.Common.{append_assoc, Err, Result, append-nil}
use Rattle.std.proofs.lemmas.List.Concat.{flat_map-append}
use Rattle.prolly_look_up.specs.ScanWay.{AreScanned, EndsEmpty, IsScanWay, from_behind, joined}
use Rattle.prolly_entry.specs.Pair.{Pair}
use Rattle.prolly_entry.specs.declared.version.Version.{Version}
use Rattle.prolly_io.specs.Failures.{after_failure}
use Rattle.prolly_io.specs.Sink.{IsSettled, SinkView}
use Rattle.prolly_range.specs.lemmas.Unfailed.{other_failures}
use Rattle.prolly_answer.specs.Outputs.{IsSettledAs, TookAll, TookBytes, TookPart, TookPrefix}
use Rattle.prolly_answer.specs.Outputs.{TookUntil}
use Rattle.prolly_answer.specs.RootOutcomes.{behind}
use Rattle.prolly_fault.specs.declared.output_fault.OutputFault.{OutputFault}
use Rattle.prolly_fault.specs.declared.output_fault.OutputFault.TheVariants as outputs
use Rattle.prolly_answer.proofs.Writing.{TookSoFar, flushed, unflushed}

-- ---- look-ups one after another

pub behind_more : (from : List ℕ) (lists : List (List Pair)) (found : List Pair) →
    behind from (lists ++ found ∷ []) ≡ from_behind (behind from lists) found
behind_more from [] found = refl
behind_more from (one ∷ lists) found = behind_more (from_behind from one) lists found

pub scanned_more : (version : Version) (root from : List ℕ) (lists : List (List Pair))
    (ways : List (List (List ℕ))) (found : List Pair) (way : List (List ℕ)) →
    AreScanned version root from lists ways →
    IsScanWay version root (behind from lists) way found →
    AreScanned version root from (lists ++ found ∷ []) (ways ++ way ∷ [])
scanned_more version root from [] [] found way are more = (more, tt)
scanned_more version root from [] (one ∷ ways) found way are more = absurd are
scanned_more version root from (one ∷ lists) [] found way are more = absurd are
scanned_more version root from (one ∷ lists) (other ∷ ways) found way are more =
    (are.0, scanned_more version root (from_behind from one) lists ways found way are.1 more)

pub joined_more : {A : Type 0} (lists : List (List A)) (found : List A) →
    joined (lists ++ found ∷ []) ≡ joined lists ++ found
joined_more lists found = flat_map-append (λ list. list) lists (found ∷ []) ∙
    ap (λ xs. joined lists ++ xs) (append-nil found)

pub ends_empty : (lists : List (List Pair)) → EndsEmpty (lists ++ [] ∷ [])
ends_empty [] = refl
ends_empty (one ∷ []) = refl
ends_empty (one ∷ two ∷ lists) = ends_empty (two ∷ lists)

pub ends_full : (lists : List (List Pair)) (found : List Pair) → found ≢ [] →
    ¬ (EndsEmpty (lists ++ found ∷ []))
ends_full [] found some ends = some ends
ends_full (one ∷ []) found some ends = some ends
ends_full (one ∷ two ∷ lists) found some ends = ends_full (two ∷ lists) found some ends

-- ---- the sink

module _ {W : Type 0} (seen : W → SinkView) where
  until_cases : (fault : OutputFault) (bytes : List ℕ) (old new : W) →
      TookUntil seen fault bytes old new →
      ((fault ≡ outputs.Memory) × TookPrefix seen bytes old new)
      ⊎ ((fault ≡ outputs.Write) × TookPart seen bytes old new)
  until_cases outputs.Memory bytes old new t = inl (refl, t)
  until_cases outputs.Write bytes old new t = inr (refl, t)

  -- More bytes are written behind those that the sink took.
  module _ (done own : List ℕ) (old mid new : W) (so_far : TookSoFar seen done old mid) where
    pub took_also : TookBytes seen own mid new →
        ((seen mid).is_keeping ≡ true → (seen new).is_keeping ≡ true) →
        TookSoFar seen (done ++ own) old new
    took_also t keeping = record {
      all = record {
        unfailed = t.unfailed ∙ so_far.all.unfailed;
        took = λ k. t.took (so_far.keeping k) ∙
            ap (λ bytes. bytes ++ own) (so_far.all.took k) ∙
            append_assoc (seen old).taken done own;
      };
      keeping = λ k. keeping (so_far.keeping k);
    }

    part_also : TookPart seen own mid new → TookPart seen (done ++ own) old new
    part_also t = record {
      failed = λ e. t.failed (e ∙ sym so_far.all.unfailed);
      took = λ k. let q = t.took (so_far.keeping k) in record {
        part = done ++ q.part;
        grown = q.grown ∙ ap (λ bytes. bytes ++ q.part) (so_far.all.took k) ∙
            append_assoc (seen old).taken done q.part;
        is_prefix = (
          q.is_prefix.0,
          ap (λ bytes. done ++ bytes) q.is_prefix.1 ∙ sym (append_assoc done q.part q.is_prefix.0),
        );
      };
    }

    prefix_also : TookPrefix seen own mid new → TookPrefix seen (done ++ own) old new
    prefix_also t = record {
      unfailed = t.unfailed ∙ so_far.all.unfailed;
      took = λ k. let q = t.took (so_far.keeping k) in record {
        part = done ++ q.part;
        grown = q.grown ∙ ap (λ bytes. bytes ++ q.part) (so_far.all.took k) ∙
            append_assoc (seen old).taken done q.part;
        is_prefix = (
          q.is_prefix.0,
          ap (λ bytes. done ++ bytes) q.is_prefix.1 ∙ sym (append_assoc done q.part q.is_prefix.0),
        );
      };
    }

    pub until_also : (fault : OutputFault) → TookUntil seen fault own mid new →
        TookUntil seen fault (done ++ own) old new
    until_also fault t = until_also_in fault (until_cases fault own mid new t)
      where
        until_also_in : (fault : OutputFault) →
            ((fault ≡ outputs.Memory) × TookPrefix seen own mid new)
            ⊎ ((fault ≡ outputs.Write) × TookPart seen own mid new) →
            TookUntil seen fault (done ++ own) old new
        until_also_in fault (inl m) =
            subst (λ f. TookUntil seen f (done ++ own) old new) (sym m.0) (prefix_also m.1)
        until_also_in fault (inr w) =
            subst (λ f. TookUntil seen f (done ++ own) old new) (sym w.0) (part_also w.1)

-- ---- the flush, which takes no more bytes

-- What holds of the outcome, and of a failed write, holds of what is told.
pub so_told : {W T F : Type 0} (seen : W → SinkView) (write : F) (mid new : W)
    (outcome shown : Result T F) → IsSettledAs seen write mid new outcome shown →
    (holds : Result T F → Type 0) → holds outcome → holds (Err write) → holds shown
so_told seen write mid new outcome shown (inl is) holds of other = subst holds (sym is.1) of
so_told seen write mid new outcome shown (inr is) holds of other = elim is.1.tells [
  | inl s ↦ subst holds (sym s.0) of
  | inr s ↦ subst holds (sym s.0) other
]

module _ {W : Type 0} (seen : W → SinkView) (old mid new : W)
    (keeping : (seen old).is_keeping ≡ true → (seen mid).is_keeping ≡ true)
    (same : (seen mid).is_keeping ≡ true → (seen new).taken ≡ (seen mid).taken) where
  so_far_all : (bytes : List ℕ) → TookBytes seen bytes old mid → TookSoFar seen bytes old mid
  so_far_all bytes t = record { all = t; keeping = keeping }

  module _ (counted : (seen new).failures ≡ (seen mid).failures) where
    pub all_flushed : IsSettled (seen new) →
        ((seen mid).is_keeping ≡ true → (seen new).is_keeping ≡ true) → (bytes : List ℕ) →
        TookBytes seen bytes old mid → TookAll seen bytes old new
    all_flushed settled still bytes t =
        flushed seen bytes old mid (so_far_all bytes t) new same counted settled still

    pub prefix_flushed : (bytes : List ℕ) → TookPrefix seen bytes old mid →
        TookPrefix seen bytes old new
    prefix_flushed bytes t = record {
      unfailed = counted ∙ t.unfailed;
      took = λ k. let q = t.took k in record {
        part = q.part;
        grown = same (keeping k) ∙ q.grown;
        is_prefix = q.is_prefix;
      };
    }

  module _ (counted : (seen new).failures ≡ after_failure (seen mid).failures) where
    pub all_unflushed : (bytes : List ℕ) → TookBytes seen bytes old mid → TookPart seen bytes old new
    all_unflushed bytes t = unflushed seen bytes old mid (so_far_all bytes t) new same counted

    pub prefix_unflushed : (bytes : List ℕ) → TookPrefix seen bytes old mid →
        TookPart seen bytes old new
    prefix_unflushed bytes t = record {
      failed = λ e. other_failures (seen old).failures
          (ap after_failure (sym t.unfailed) ∙ (sym counted ∙ e));
      took = λ k. let q = t.took k in record {
        part = q.part;
        grown = same (keeping k) ∙ q.grown;
        is_prefix = q.is_prefix;
      };
    }
