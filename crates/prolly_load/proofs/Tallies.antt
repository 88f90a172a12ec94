-- What was counted of the records that were passed.
use Rattle.std.proofs.Common.{◌≡◌, ℕ, ◌+◌, ◌*◌, ◌≤◌, Bool, true, false, cond, List, [], ◌∷◌}
use Rattle.std.proofs.Common.{◌++◌, length, Option, Some, None, refl, sym, ap, ◌∙◌, arith}
use Rattle.std.proofs.Common.{length-append, not}
use Rattle.std.proofs.lemmas.List.{append-nil}
use Rattle.std.proofs.lemmas.List.Concat.{flat_map-append}
use Rattle.std.proofs.lemmas.List.Elements.{filter-append}
use Rattle.std.proofs.lemmas.List.Filters.{length-filter_both}
use Rattle.std.specs.List.{filter, flat_map, AllByRecursion}
use Rattle.std.specs.Option.{option_or}
use Rattle.prolly_entry.specs.Position.{Position}
use Rattle.prolly_entry.specs.Record.{Record, IsRecord, IsChange}
use Rattle.prolly_entry.specs.Spelling.{record_spelling}
use Rattle.prolly_entry.specs.lemmas.Spellings.{record_size, value_size}
use Rattle.prolly_load.specs.declared.tally.Tally.{Tally}
use Rattle.prolly_load.specs.Survey.{key_bytes, first_position, is_removal}

-- The tally is that of these records.
pub record IsTallyOf (good : List Record) (tally : Tally) : Type 0 where
  pub records_are : tally.records ≡ length good
  pub removals_are : tally.removals ≡ length (filter is_removal good)
  pub bytes_are : tally.bytes ≡ length (flat_map record_spelling good)
  pub first_is : key_bytes tally.first_key ≡ first_position good

-- One record more is counted.
pub record Counts (removes : Bool) (len : ℕ) (key : Position) (old new : Tally) : Type 0 where
  pub records : new.records ≡ old.records + 1
  pub removals : new.removals ≡ old.removals + cond removes 1 0
  pub bytes : new.bytes ≡ old.bytes + len
  pub first_key : key_bytes new.first_key ≡ option_or (key_bytes old.first_key) key

one_kept : (b : Bool) (r : Record) → length (cond b (r ∷ []) []) ≡ cond b 1 0
one_kept true r = refl
one_kept false r = refl

first_more : (good : List Record) (r : Record) →
    first_position (good ++ r ∷ []) ≡ option_or (first_position good) (Some r.key)
first_more [] r = refl
first_more (s ∷ good) r = refl

pub one_counted : (good : List Record) (r : Record) (removes : Bool) (len : ℕ) (key : Position)
    (old new : Tally) →
    IsTallyOf good old → Counts removes len key old new → removes ≡ is_removal r →
    len ≡ length (record_spelling r) → key ≡ Some r.key → IsTallyOf (good ++ r ∷ []) new
one_counted good r removes len key old new h k e f g = record {
  records_are = omega (arith, h.records_are, k.records, length-append good (r ∷ []));
  removals_are = k.removals ∙ (ap (λ n. n + cond removes 1 0) h.removals_are
      ∙ (ap (λ n. length (filter is_removal good) + n) (ap (λ b. cond b 1 0) e ∙
      sym (one_kept (is_removal r) r))
      ∙ (sym (length-append (filter is_removal good) (filter is_removal (r ∷ [])))
      ∙ ap length (sym (filter-append is_removal good (r ∷ []))))));
  bytes_are = k.bytes ∙ (ap (λ n. n + len) h.bytes_are
      ∙ (ap (λ n. length (flat_map record_spelling good) + n) (f ∙
      ap length (sym (append-nil (record_spelling r))))
      ∙ (sym (length-append (flat_map record_spelling good) (flat_map record_spelling (r ∷ [])))
      ∙ ap length (sym (flat_map-append record_spelling good (r ∷ []))))));
  first_is = k.first_key ∙ (ap (λ p. option_or p key) h.first_is
      ∙ (ap (option_or (first_position good)) g ∙ sym (first_more good r)));
}

-- ---- no count is too great

value_bound : (value : Option (List ℕ)) → IsChange value → value_size value ≤ 65536
value_bound None h = omega arith
value_bound (Some value) h = h

-- A lawful record takes at most 66,566 bytes.
pub record_bound : (r : Record) → IsRecord r → length (record_spelling r) ≤ 66566
record_bound r h = let key = h.key in
    omega (arith, record_size r, value_bound r.value h.value)

-- Lawful records take at most 66,566 bytes each.
pub bytes_bound : (good : List Record) → AllByRecursion IsRecord good →
    length (flat_map record_spelling good) ≤ length good * 66566
bytes_bound [] h = omega arith
bytes_bound (r ∷ good) h =
    omega (
      arith,
      length-append (record_spelling r) (flat_map record_spelling good),
      record_bound r h.0,
      bytes_bound good h.1,
    )

-- No more records remove a key than there are.
pub removals_bound : (good : List Record) → length (filter is_removal good) ≤ length good
removals_bound good =
    omega (arith, length-filter_both is_removal (λ r. not (is_removal r)) (λ r. refl) good)
