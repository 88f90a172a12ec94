-- A writer to which one record more is sent, and one that is closed.
use Rattle.std.proofs.Common.{◌≡◌, ℕ, Bool, true, false, List, [], ◌∷◌, ◌++◌, Result, Ok, Err}
use Rattle.std.proofs.Common.{refl, sym, ap, ◌∙◌, subst, arith, append_assoc, append-nil}
use Rattle.std.proofs.lemmas.List.Concat.{flat_map-append}
use Rattle.prolly_entry.specs.Prefix.{IsPrefix}
use Rattle.prolly_entry.specs.Record.{Record}
use Rattle.prolly_entry.specs.Spelling.{record_spelling}
use Rattle.prolly_io.specs.Failures.{after_failure}
use Rattle.prolly_io.specs.Sink.{SinkView, IsSettled, TakesPrefix}
use Rattle.prolly_io.specs.Writes.{Writes}
use Rattle.prolly_load.specs.Writer.{AreWritten, IsWritten, Writing, outcome, spellings}

-- ---- one write behind another

module _ (a b : List ℕ) (old mid new : SinkView)
    (first : Writes {T = Unit {0}} {E = Unit {0}} a old mid (Ok tt)) where
  pub both_written : {T E : Type 0} (x : T) → Writes {T = T} {E = E} b mid new (Ok x) →
      Writes {T = Unit {0}} {E = Unit {0}} (a ++ b) old new (Ok tt)
  both_written x second = record {
    written = λ k. second.written (first.keeping k) ∙
        (ap (λ xs. xs ++ b) (first.written k) ∙ append_assoc old.taken a b);
    part = λ k. tt;
    failures = second.failures ∙ first.failures;
    keeping = λ k. second.keeping (first.keeping k);
  }

  part_of_both : old.is_keeping ≡ true → TakesPrefix mid.taken new.taken b →
      TakesPrefix old.taken new.taken (a ++ b)
  part_of_both k t = record {
    part = a ++ t.part;
    grown = t.grown ∙ (ap (λ xs. xs ++ t.part) (first.written k) ∙
        append_assoc old.taken a t.part);
    is_prefix = (
      t.is_prefix.0,
      ap (λ xs. a ++ xs) t.is_prefix.1 ∙ sym (append_assoc a t.part t.is_prefix.0),
    );
  }

  pub second_failed : {T E : Type 0} (x : E) → Writes {T = T} {E = E} b mid new (Err x) →
      Writes {T = Unit {0}} {E = Unit {0}} (a ++ b) old new (Err tt)
  second_failed x second = record {
    written = λ k. tt;
    part = λ k. part_of_both k (second.part (first.keeping k));
    failures = second.failures ∙ ap after_failure first.failures;
    keeping = λ k. second.keeping (first.keeping k);
  }

-- What was written is in the sink.
whole_taken : (a : List ℕ) (old new : SinkView) →
    Writes {T = Unit {0}} {E = Unit {0}} a old new (Ok tt) → old.is_keeping ≡ true →
    IsPrefix (old.taken ++ a) new.taken
whole_taken a old new w k = ([], w.written k ∙ sym (append-nil (old.taken ++ a)))

-- What was written first is in the sink, whatever comes of what is written then.
module _ (a b : List ℕ) (old mid new : SinkView)
    (first : Writes {T = Unit {0}} {E = Unit {0}} a old mid (Ok tt)) where
  first_taken : old.is_keeping ≡ true → {T E : Type 0} (result : Result T E) →
      Writes {T = T} {E = E} b mid new result → IsPrefix (old.taken ++ a) new.taken
  first_taken k (Ok x) second = (
    b,
    second.written (first.keeping k) ∙ ap (λ xs. xs ++ b) (first.written k),
  )
  first_taken k (Err x) second =
      let t = second.part (first.keeping k) in (
        t.part,
        t.grown ∙ ap (λ xs. xs ++ t.part) (first.written k),
      )

-- ---- one record more

abbrev pub writing_of : SinkView → SinkView → List Record → Bool → Writing
writing_of begun sink records has_failed = record {
  begun = begun;
  sink = sink;
  records = records;
  has_failed = has_failed;
}

-- No record is written in part.
all_written : (begun sink : SinkView) (records : List Record) →
    AreWritten (writing_of begun sink records false) →
    Writes {T = Unit {0}} {E = Unit {0}} (spellings records) begun sink (Ok tt)
all_written begun sink records h =
    subst (λ xs. Writes {T = Unit {0}} {E = Unit {0}} xs begun sink (Ok tt))
    (ap (λ more. spellings (records ++ more)) (h.no_more refl) ∙
    ap spellings (append-nil records)) h.writes

module _ (begun sink new : SinkView) (records : List Record) (r : Record)
    (h : AreWritten (writing_of begun sink records false)) where
  one_more : spellings (records ++ r ∷ []) ≡ spellings records ++ record_spelling r
  one_more = flat_map-append record_spelling records (r ∷ []) ∙
      ap (λ xs. spellings records ++ xs) (append-nil (record_spelling r))

  pub one_sent : {T E : Type 0} (x : T) →
      Writes {T = T} {E = E} (record_spelling r) sink new (Ok x) →
      AreWritten (writing_of begun new (records ++ r ∷ []) false)
  one_sent x w = record {
    more = [];
    one_at_most = omega arith;
    writes = subst (λ xs. Writes {T = Unit {0}} {E = Unit {0}} xs begun new (Ok tt))
        (sym (ap spellings (append-nil (records ++ r ∷ [])) ∙ one_more))
        (both_written (spellings records) (record_spelling r) begun sink new (all_written begun sink records h) x w);
    no_more = λ _. refl;
    sent = λ k. subst (λ xs. IsPrefix (begun.taken ++ xs) new.taken) (sym one_more)
        (whole_taken (spellings records ++ record_spelling r) begun new
        (both_written (spellings records) (record_spelling r) begun sink new
        (all_written begun sink records h) x w) k);
  }

  pub one_failed : {T E : Type 0} (x : E) →
      Writes {T = T} {E = E} (record_spelling r) sink new (Err x) →
      AreWritten (writing_of begun new records true)
  one_failed x w = record {
    more = r ∷ [];
    one_at_most = omega arith;
    writes = subst (λ xs. Writes {T = Unit {0}} {E = Unit {0}} xs begun new (Err tt)) (sym one_more)
        (second_failed (spellings records) (record_spelling r) begun sink new (all_written begun sink records h) x w);
    no_more = λ e. cc;
    sent = λ k. first_taken (spellings records) (record_spelling r) begun sink new
        (all_written begun sink records h) k (Err x) w;
  }

-- ---- the end

module _ (begun sink new : SinkView) (records : List Record) where
  closed_whole : AreWritten (writing_of begun sink records false) → (result : Bool) →
      Writes {T = Unit {0}} {E = Unit {0}} [] sink new (outcome result) →
      AreWritten (writing_of begun new records result)
  closed_whole h false w = record {
    more = [];
    one_at_most = omega arith;
    writes = subst (λ xs. Writes {T = Unit {0}} {E = Unit {0}} xs begun new (Ok tt))
        (append-nil (spellings records) ∙ sym (ap spellings (append-nil records)))
        (both_written (spellings records) [] begun sink new
        (all_written begun sink records h) tt w);
    no_more = λ _. refl;
    sent = λ k. first_taken (spellings records) [] begun sink new
        (all_written begun sink records h) k (Ok tt) w;
  }
  closed_whole h true w = record {
    more = [];
    one_at_most = omega arith;
    writes = subst (λ xs. Writes {T = Unit {0}} {E = Unit {0}} xs begun new (Err tt))
        (append-nil (spellings records) ∙ sym (ap spellings (append-nil records)))
        (second_failed (spellings records) [] begun sink new
        (all_written begun sink records h) tt w);
    no_more = λ e. cc;
    sent = λ k. first_taken (spellings records) [] begun sink new
        (all_written begun sink records h) k (Err tt) w;
  }

  -- A writer that is closed: flushed, where no call had failed before.
  pub closed : (has_failed result : Bool) → AreWritten (writing_of begun sink records has_failed) →
      (has_failed ≡ true → (result ≡ true) × (new ≡ sink)) →
      (has_failed ≡ false → Writes {T = Unit {0}} {E = Unit {0}} [] sink new (outcome result)) →
      (result ≡ false → IsSettled new) → IsWritten (writing_of begun new records result)
  closed false result h alone flushed settled = record {
    written = closed_whole h result (flushed refl);
    settled = settled;
  }
  closed true result h alone flushed settled = record {
    written = subst (λ s. AreWritten (writing_of begun s records result)) (sym (alone refl).1)
        (subst (λ b. AreWritten (writing_of begun sink records b)) (sym (alone refl).0) h);
    settled = settled;
  }
