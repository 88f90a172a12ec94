-- A record file that is written record by record.
use Rattle.std.proofs.Common.{◌≡◌, ℕ, true, List, [], ◌∷◌, ◌++◌, Ok, Err, append_assoc, append-nil}
use Rattle.std.proofs.Common.{ap, sym, ◌∙◌, refl, arith, zero, suc, ◌+◌, ◌<◌, drop, get_or, length}
use Rattle.std.proofs.lemmas.List.Concat.{flat_map-append}
use Rattle.prolly_entry.specs.Record.{Record}
use Rattle.prolly_entry.specs.Spelling.{record_spelling}
use Rattle.prolly_io.specs.Failures.{after_failure}
use Rattle.prolly_io.specs.Sink.{SinkView, TakesPrefix}
use Rattle.prolly_io.specs.Writes.{Writes}
use Rattle.prolly_sort.specs.declared.place.Place.{Place}
use Rattle.prolly_sort.specs.Overlaid.{written}
use Rattle.prolly_sort.specs.Place.{record_in, records_in}

-- Of the records the first ones are written, and the others are left.
pub record IsUnderWay (records left : List Record) (old new : SinkView) : Type 0 where
  pub done : List Record
  pub all : records ≡ done ++ left
  pub taken : old.is_keeping ≡ true → new.taken ≡ old.taken ++ written done
  pub keeping : old.is_keeping ≡ true → new.is_keeping ≡ true
  pub failures : new.failures ≡ old.failures

-- The first one of those that are left.
pub left_at : (bytes : List ℕ) (places : List Place) (i : ℕ) (d : Place) → i < length places →
    records_in bytes (drop i places) ≡
    record_in bytes (get_or places i d) ∷ records_in bytes (drop (i + 1) places)
left_at bytes [] i d l = absurd (omega arith)
left_at bytes (p ∷ places) zero d l = refl
left_at bytes (p ∷ places) (suc i) d l =
    let n : suc (i + 1) ≡ suc i + 1 = omega arith in
    left_at bytes places i d (omega arith) ∙
    ap (λ k. record_in bytes (get_or places i d) ∷ records_in bytes (drop k (p ∷ places))) n

-- ---- one record more

module _ (records rest : List Record) (r : Record) (old mid new : SinkView)
    (d : IsUnderWay records (r ∷ rest) old mid) where
  one_more : written (d.done ++ r ∷ []) ≡ written d.done ++ record_spelling r
  one_more = flat_map-append record_spelling d.done (r ∷ []) ∙
      ap (λ xs. written d.done ++ xs) (append-nil (record_spelling r))

  all_parts : written records ≡ written d.done ++ (record_spelling r ++ written rest)
  all_parts = ap written d.all ∙ flat_map-append record_spelling d.done (r ∷ rest)

  pub one_written : {T E : Type 0} (x : T) → Writes {T = T} {E = E} (record_spelling r) mid new (Ok x)
      → IsUnderWay records rest old new
  one_written x w = record {
    done = d.done ++ r ∷ [];
    all = d.all ∙ sym (append_assoc d.done (r ∷ []) rest);
    taken = λ k. w.written (d.keeping k) ∙ ap (λ xs. xs ++ record_spelling r) (d.taken k) ∙
        append_assoc old.taken (written d.done) (record_spelling r) ∙
        ap (λ xs. old.taken ++ xs) (sym one_more);
    keeping = λ k. w.keeping (d.keeping k);
    failures = w.failures ∙ d.failures;
  }

  -- a prefix of its spelling is one of all records, behind those that were written
  part_of_all : old.is_keeping ≡ true → TakesPrefix mid.taken new.taken (record_spelling r) →
      TakesPrefix old.taken new.taken (written records)
  part_of_all k t = record {
    part = written d.done ++ t.part;
    grown = t.grown ∙ ap (λ xs. xs ++ t.part) (d.taken k) ∙
        append_assoc old.taken (written d.done) t.part;
    is_prefix = (
      t.is_prefix.0 ++ written rest,
      all_parts ∙ ap (λ xs. written d.done ++ (xs ++ written rest)) t.is_prefix.1 ∙
          ap (λ xs. written d.done ++ xs) (append_assoc t.part t.is_prefix.0 (written rest)) ∙
          sym (append_assoc (written d.done) t.part (t.is_prefix.0 ++ written rest)),
    );
  }

  pub write_failed : {T E : Type 0} (x y : E) →
      Writes {T = T} {E = E} (record_spelling r) mid new (Err x) →
      Writes {T = T} {E = E} (written records) old new (Err y)
  write_failed x y w = record {
    written = λ k. tt;
    part = λ k. part_of_all k (w.part (d.keeping k));
    failures = w.failures ∙ ap after_failure d.failures;
    keeping = λ k. w.keeping (d.keeping k);
  }
