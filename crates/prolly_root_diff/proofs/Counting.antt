-- Counting the notes whose references are unknown.
use Rattle.std.proofs.Common.{◌≡◌, ℕ, ◌+◌, ◌<◌, ◌≤◌, ◌^◌, Bool, true, false, cond, not, List, []}
use Rattle.std.proofs.Common.{length, take, get_or, refl, sym, ap, ◌∙◌, arith, inl, inr}
use Rattle.std.proofs.Common.{Result, Ok, Err}
use Rattle.std.proofs.lemmas.Bool.{cases_lt, false_from_ne_true}
use Rattle.std.proofs.lemmas.Cmp.{nat_list_cmp_total}
use Rattle.std.proofs.lemmas.List.{get_or_default, length-take-le, take_all}
use Rattle.std.proofs.lemmas.List.Folds.{Any-from_list_any, list_any_at}
use Rattle.std.proofs.lemmas.List.Sorted.{list_any-IsPermutation, searchable_from_sorted}
use Rattle.std.proofs.lemmas.List.Sums.{count_by-le-length, length-filter, sum_by_more}
use Rattle.std.proofs.lemmas.List.Sums.{sum_by_more_le_part}
use Rattle.std.proofs.lemmas.Slice.Eq.{bytes_eq-Decides}
use Rattle.std.specs.Cmp.Lexicographic.{slice_cmp}
use Rattle.std.specs.List.{HoldsAt, list_any, sum_by}
use Rattle.std.specs.List.Sorted.{IsBinarySearchResult, IsPermutation, IsSearchInRange}
use Rattle.std.specs.List.Sorted.{IsSortedByKey}
use Rattle.std.specs.Ordering.{nat_cmp}
use Rattle.std.specs.Prelude.{IfOk}
use Rattle.std.specs.Result.{is_ok}
use Rattle.std.specs.Str.{bytes_eq}
use Rattle.std.specs.declared.cmp.Ordering.TheVariants.{Equal, Greater, Less}
use Rattle.prolly_chunk.specs.declared.missing.Missing.{Missing}
use Rattle.prolly_entry.specs.declared.reference.Ref.{Ref}
use Rattle.prolly_entry.specs.lemmas.Orders.{order_same, order_self}
use Rattle.prolly_root_diff.specs.Notes.{AreOf, is_unknown, unknown_of}
use Rattle.prolly_root_diff.specs.declared.notes.Note.{Note}
use Rattle.prolly_root_diff.specs.declared.notes.Notes.{Notes}
use Rattle.prolly_root_diff.proofs.Lacking.{sum_filter}

-- ---- a reference among others

-- whether it is there, as a search says that does not miss it
pub search_tells : (sorted : List Ref) (r : List ℕ) (found : Result ℕ ℕ) →
    IsSortedByKey (λ x. x.0) (slice_cmp nat_cmp) sorted →
    IsSearchInRange found (length sorted) →
    IfOk found (HoldsAt (λ x. slice_cmp nat_cmp x.0 r ≡ Equal) sorted) →
    IsBinarySearchResult (λ x. slice_cmp nat_cmp x.0 r) sorted found →
    is_ok found ≡ list_any (λ x. bytes_eq x.0 r) sorted
search_tells sorted r (Ok place) up within at ends =
    let d : Ref = record { 0 = [] } in
    sym (list_any_at (λ x. bytes_eq x.0 r) sorted place d within
    ((bytes_eq-Decides (get_or sorted place d).0 r).1
    (order_same (get_or sorted place d).0 r (at d))))
search_tells sorted r (Err place) up within at ends =
    sym (false_from_ne_true (list_any (λ x. bytes_eq x.0 r) sorted) (λ h.
    let any = Any-from_list_any (λ x. bytes_eq x.0 r) sorted h in
    missed any.0 any.1 any.2 (get_or_default sorted any.0 any.1 any.1 any.2 ∙ any.3)
    ((bytes_eq-Decides any.1.0 r).0 any.4)))
  where
    missed : (k : ℕ) (x : Ref) → k < length sorted → get_or sorted k x ≡ x → x.0 ≡ r → ⊥
    missed k x within is same =
        let points = ends (searchable_from_sorted nat_list_cmp_total (λ x. x.0) sorted r up) in
        let equal : slice_cmp nat_cmp (get_or sorted k x).0 r ≡ Equal =
        ap (λ y. slice_cmp nat_cmp y.0 r) is ∙ ap (λ y. slice_cmp nat_cmp y r) same ∙
        order_self r in
        elim (cases_lt k place) [
          | inl lt ↦
              let e : Less ≡ Equal = sym (points.0 k x (omega arith) lt) ∙ equal in cc
          | inr le ↦
              let e : Greater ≡ Equal = sym (points.1 k x le within) ∙ equal in cc
        ]

-- it is unknown where it is not among those that are sorted
pub unknown_is : (known sorted : List Ref) (note : Note) (found : Bool) →
    IsPermutation known sorted →
    found ≡ list_any (λ x. bytes_eq x.0 note.reference.0) sorted →
    is_unknown known note ≡ not found
unknown_is known sorted note found moved is =
    ap not (list_any-IsPermutation (λ x. bytes_eq x.0 note.reference.0) known sorted moved ∙ sym is)

-- ---- step by step

abbrev pub some_note : Note
some_note = record { reference = record { 0 = [] }; length = 0 }

-- of the first notes, those that are unknown were counted
pub record CountedTo (known : List Ref) (notes : List Note) (n : ℕ) (missing : Missing) : Type 0
  where
    pub chunks : missing.chunks ≡ sum_by (λ x. cond (is_unknown known x) 1 0) (take n notes)
    pub bytes : missing.bytes ≡ sum_by (λ x. cond (is_unknown known x) x.length 0) (take n notes)

module _ (known : List Ref) (notes : List Note) (n : ℕ) (missing : Missing)
    (counted : CountedTo known notes n missing) where
  pub few : n ≤ length notes → missing.chunks ≤ n
  few some =
      let all = counted.chunks in
      let most = count_by-le-length (is_unknown known) (take n notes) in
      let first = length-take-le n notes in
      omega (arith, first some)

  module _ (d : Note) (within : n < length notes) where
    pub one_counted : is_unknown known (get_or notes n d) ≡ true → (later : Missing) →
        later.chunks ≡ missing.chunks + 1 →
        later.bytes ≡ missing.bytes + (get_or notes n d).length →
        CountedTo known notes (n + 1) later
    one_counted unknown later chunks bytes = record {
      chunks =
          let more = sum_by_more (λ x. cond (is_unknown known x) 1 0) notes n d within in
          let one : cond {A = ℕ} (is_unknown known (get_or notes n d)) 1 0 ≡ 1 =
          ap (λ b. cond {A = ℕ} b 1 0) unknown in
          let had = counted.chunks in
          omega arith;
      bytes =
          let more = sum_by_more (λ x. cond (is_unknown known x) x.length 0) notes n d within in
          let one : cond (is_unknown known (get_or notes n d)) (get_or notes n d).length 0 ≡
          (get_or notes n d).length = ap (λ b. cond b (get_or notes n d).length 0) unknown in
          let had = counted.bytes in
          omega arith;
    }

    pub one_passed : is_unknown known (get_or notes n d) ≡ false →
        CountedTo known notes (n + 1) missing
    one_passed unknown = record {
      chunks =
          let more = sum_by_more (λ x. cond (is_unknown known x) 1 0) notes n d within in
          let none : cond {A = ℕ} (is_unknown known (get_or notes n d)) 1 0 ≡ 0 =
          ap (λ b. cond {A = ℕ} b 1 0) unknown in
          let had = counted.chunks in
          omega arith;
      bytes =
          let more = sum_by_more (λ x. cond (is_unknown known x) x.length 0) notes n d within in
          let none : cond (is_unknown known (get_or notes n d)) (get_or notes n d).length 0 ≡ 0 =
          ap (λ b. cond b (get_or notes n d).length 0) unknown in
          let had = counted.bytes in
          omega arith;
    }

    -- their bytes are no more than all
    pub many_bytes : (missing.bytes + (get_or notes n d).length < 2 ^ 64 → ⊥) →
        2 ^ 64 ≤ sum_by (λ x. x.length) notes
    many_bytes many =
        let all = sum_by_more_le_part (λ x. cond (is_unknown known x) x.length 0) (λ x. x.length)
        notes n d within (λ x. at_most (is_unknown known x) x.length) in
        let had = counted.bytes in
        elim (cases_lt (sum_by (λ x. x.length) notes) (2 ^ 64)) [
          | inl small ↦ absurd (many (omega arith))
          | inr large ↦ large
        ]
      where
        at_most : (b : Bool) (n : ℕ) → cond b n 0 ≤ n
        at_most true n = omega arith
        at_most false n = omega arith

pub none_counted : (known : List Ref) (notes : List Note) →
    CountedTo known notes 0 (record { chunks = 0; bytes = 0 })
none_counted known notes = record { chunks = refl; bytes = refl }

pub all_counted : (notes : Notes) (n : ℕ) (missing : Missing) → length notes.new.items ≤ n →
    CountedTo notes.old.items notes.new.items n missing → AreOf (unknown_of notes) missing
all_counted notes n missing all counted =
    let whole = take_all n notes.new.items all in
    record {
      chunks_are = counted.chunks ∙
          ap (sum_by (λ x. cond (is_unknown notes.old.items x) 1 0)) whole ∙
          sym (length-filter (is_unknown notes.old.items) notes.new.items);
      bytes_are = counted.bytes ∙
          ap (sum_by (λ x. cond (is_unknown notes.old.items x) x.length 0)) whole ∙
          sym (sum_filter (is_unknown notes.old.items) (λ x. x.length) notes.new.items);
    }
