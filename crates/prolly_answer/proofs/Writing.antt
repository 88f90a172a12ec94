-- Bytes that a sink is to take, part by part.
use Rattle.std.proofs.Common.{◌≡◌, ℕ, true, List, [], ◌++◌, Result, Ok, Err, refl, sym, ap}
use Rattle.std.proofs.Common.{◌∙◌, subst, append_assoc, append-nil}
use Rattle.prolly_io.specs.Failures.{after_failure}
use Rattle.prolly_io.specs.Sink.{IsSettled, SinkView}
use Rattle.prolly_io.specs.Writes.{Writes}
use Rattle.prolly_range.specs.lemmas.Unfailed.{other_failures}
use Rattle.prolly_answer.specs.Outputs.{TookAll, TookPart, TookPrefix}
pub use Rattle.prolly_answer.specs.Outputs.{TookSoFar}

-- What is written of a buffer that was cleared is what was appended to it.
pub own_writes : {T E : Type 0} (bytes items cleared own : List ℕ) (old new : SinkView)
    (result : Result T E) → bytes ≡ items → items ≡ cleared ++ own → cleared ≡ [] →
    Writes bytes old new result → Writes own old new result
own_writes bytes items cleared own old new result e f g w =
    subst (λ b. Writes b old new result) (e ∙ (f ∙ ap (λ c. c ++ own) g)) w

-- So nothing is written where nothing was appended.
pub own_nothing : (bytes items cleared own : List ℕ) → bytes ≡ items → items ≡ cleared ++ own →
    cleared ≡ [] → own ≡ [] → bytes ≡ []
own_nothing bytes items cleared own e f g none =
    e ∙ (f ∙ (ap (λ c. c ++ own) g ∙ none))

module _ {W : Type 0} (seen : W → SinkView) where
  -- ---- all at once

  pub wrote_all : {T E : Type 0} (x : T) (bytes : List ℕ) (old new : W) →
      Writes {T = T} {E = E} bytes (seen old) (seen new) (Ok x) → IsSettled (seen new) →
      TookAll seen bytes old new
  wrote_all x bytes old new w settled = record {
    unfailed = w.failures;
    took = w.written;
    keeping = w.keeping;
    settled = λ before. settled;
  }

  pub wrote_part : {T E : Type 0} (x : E) (bytes : List ℕ) (old new : W) →
      Writes {T = T} {E = E} bytes (seen old) (seen new) (Err x) → TookPart seen bytes old new
  wrote_part x bytes old new w = record {
    failed = λ e. other_failures (seen old).failures (sym w.failures ∙ e);
    took = w.part;
  }

  -- ---- part by part

  pub took_none : (old : W) → TookSoFar seen [] old old
  took_none old = record {
    all = record { unfailed = refl; took = λ k. sym (append-nil (seen old).taken) };
    keeping = λ k. k;
  }

  module _ (done : List ℕ) (old mid : W) (so_far : TookSoFar seen done old mid) where
    pub took_more : {T E : Type 0} (x : T) (own : List ℕ) (new : W) →
        Writes {T = T} {E = E} own (seen mid) (seen new) (Ok x) →
        TookSoFar seen (done ++ own) old new
    took_more x own new w = record {
      all = record {
        unfailed = w.failures ∙ so_far.all.unfailed;
        took = λ k. w.written (so_far.keeping k) ∙
            ap (λ bytes. bytes ++ own) (so_far.all.took k) ∙
            append_assoc (seen old).taken done own;
      };
      keeping = λ k. w.keeping (so_far.keeping k);
    }

    -- Those that are left are not written.
    pub took_front : (all rest : List ℕ) → all ≡ done ++ rest → TookPrefix seen all old mid
    took_front all rest parts = record {
      unfailed = so_far.all.unfailed;
      took = λ k. record {
        part = done;
        grown = so_far.all.took k;
        is_prefix = (rest, parts);
      };
    }

    -- The write of a part fails: a prefix of it is one of all, behind those that were written.
    pub took_until : {T E : Type 0} (x : E) (all own rest : List ℕ) (new : W) →
        all ≡ done ++ (own ++ rest) →
        Writes {T = T} {E = E} own (seen mid) (seen new) (Err x) → TookPart seen all old new
    took_until x all own rest new parts w = record {
      failed = λ e. other_failures (seen old).failures
          (ap after_failure (sym so_far.all.unfailed) ∙ (sym w.failures ∙ e));
      took = λ k. let t = w.part (so_far.keeping k) in record {
        part = done ++ t.part;
        grown = t.grown ∙ ap (λ bytes. bytes ++ t.part) (so_far.all.took k) ∙
            append_assoc (seen old).taken done t.part;
        is_prefix = (
          t.is_prefix.0 ++ rest,
          parts ∙ ap (λ bytes. done ++ (bytes ++ rest)) t.is_prefix.1 ∙ simp append_assoc,
        );
      };
    }

    -- All are written, and the sink is flushed.
    module _ (new : W) (same : (seen mid).is_keeping ≡ true →
        (seen new).taken ≡ (seen mid).taken) where
      pub flushed : (seen new).failures ≡ (seen mid).failures → IsSettled (seen new) →
          ((seen mid).is_keeping ≡ true → (seen new).is_keeping ≡ true) →
          TookAll seen done old new
      flushed counted settled keeping = record {
        unfailed = counted ∙ so_far.all.unfailed;
        took = λ k. same (so_far.keeping k) ∙ so_far.all.took k;
        keeping = λ k. keeping (so_far.keeping k);
        settled = λ before. settled;
      }

      pub unflushed : (seen new).failures ≡ after_failure (seen mid).failures →
          TookPart seen done old new
      unflushed counted = record {
        failed = λ e. other_failures (seen old).failures
            (ap after_failure (sym so_far.all.unfailed) ∙ (sym counted ∙ e));
        took = λ k. record {
          part = done;
          grown = same (so_far.keeping k) ∙ so_far.all.took k;
          is_prefix = ([], sym (append-nil done));
        };
      }
