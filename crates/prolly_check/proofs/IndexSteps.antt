-- The references of the chunks of a file, and an index of them.
use Rattle.std.proofs.Common.{rules, ◌≡◌, ℕ, suc, ◌+◌, ◌<◌, Bool, true, false, ◌||◌, List, []}
use Rattle.std.proofs.Common.{◌∷◌, ◌++◌, length, take, drop, get_or, Some, None, inl, inr, sym, ap}
use Rattle.std.proofs.Common.{◌∙◌, subst, arith}
use Rattle.std.specs.Cmp.Lexicographic.{slice_cmp}
use Rattle.std.specs.List.{All, list_any}
use Rattle.std.specs.List.Sorted.{IsNonDecreasingBy, IsPartitionPoint}
use Rattle.std.specs.Ordering.{nat_cmp, is_lt, ordering_index}
use Rattle.std.specs.Str.{bytes_eq}
use Rattle.std.specs.declared.cmp.Ordering.TheVariants.{Less, Equal, Greater}
use Rattle.std.proofs.Math.Bool.{or_comm}
use Rattle.std.proofs.Math.Seq.{drop-cons}
use Rattle.std.proofs.lemmas.Bool.{cond-false, cases_lt, false≢true}
use Rattle.std.proofs.lemmas.Cmp.{nat_list_cmp_total}
use Rattle.std.proofs.lemmas.List.{length-append, length-map, get_or-map, get_or_default}
use Rattle.std.proofs.lemmas.List.{get_or_append_left, get_or_push}
use Rattle.std.proofs.lemmas.List.Elements.{recursion_from_All}
use Rattle.std.proofs.lemmas.List.Folds.{list_any_more}
use Rattle.std.proofs.lemmas.List.Sorted.{All-permutation, Contains-permutation, ranks_by}
use Rattle.std.proofs.lemmas.List.Sorted.{searchable_from_sorted, sorted_far}
use Rattle.prolly_entry.specs.Reference.{reference_of}
use Rattle.prolly_entry.specs.declared.reference.Ref.{Ref}
use Rattle.prolly_entry.specs.lemmas.Orders.{order_self}
use Rattle.prolly_check.specs.Chunks.{AreReferences, HasAt, IsIndex}
use Rattle.prolly_check.specs.FirstFault.{reuse}
use Rattle.prolly_look_up.specs.Content.{AllApart}
use Rattle.prolly_check.specs.declared.chunks.Index.{Index}
use Rattle.prolly_check.specs.declared.verdict.fault.CheckFault.TheVariants.{Collision}
use Rattle.prolly_check.proofs.Verdicts.{reuse_is}

-- ---- references

-- there are as many as chunks
pub as_many : (chunks : List (List ℕ)) (references : List Ref) → AreReferences chunks references →
    length references ≡ length chunks
as_many chunks references are = search (rules, length-map)

-- each is that of the chunk at its place
pub reference_at : (chunks : List (List ℕ)) (references : List Ref) (n : ℕ) (other : Ref) →
    AreReferences chunks references → n < length references →
    (get_or references n other).0 ≡ reference_of (get_or chunks n [])
reference_at chunks references n other are h =
    let count = as_many chunks references are in
    sym (get_or-map (λ r. r.0) references n other [] h) ∙ ap (λ rs. get_or rs n []) are ∙
    get_or-map reference_of chunks n [] [] (omega (arith, count))

-- where no two have one reference, each is apart from those behind it
apart : (cs : List (List ℕ)) → ((i j : ℕ) → i < j → j < length cs →
    reference_of (get_or cs i []) ≡ reference_of (get_or cs j []) → ⊥) → AllApart cs
apart [] h = tt
apart (c ∷ cs) h = (
  recursion_from_All (λ d. reference_of c ≡ reference_of d → ⊥) cs
      (λ k d within e. h 0 (suc k) (omega arith) (omega arith)
      (e ∙ ap reference_of (get_or_default cs k d [] within))),
  apart cs (λ i j lt within. h (suc i) (suc j) (omega arith) (omega arith)),
)

-- one more is numbered
pub one_numbered : (references : List Ref) (entries new : List (Ref × ℕ)) (n : ℕ) (d : Ref) →
    n < length references → length entries ≡ n →
    ((k : ℕ) (other : Ref × ℕ) → k < n →
    get_or entries k other ≡ (get_or references k other.0, k)) →
    new ≡ entries ++ (get_or references n d, n) ∷ [] →
    (length new ≡ n + 1) × ((k : ℕ) (other : Ref × ℕ) → k < n + 1 →
    get_or new k other ≡ (get_or references k other.0, k))
one_numbered references entries new n d within count each e =
    let one : Ref × ℕ = (get_or references n d, n) in (
      omega (arith, ap length e, length-append entries (one ∷ [])),
      λ k other behind. ap (λ xs. get_or xs k other) e ∙ elim (cases_lt k n) [
        | inl before ↦
            get_or_append_left entries (one ∷ []) other k (omega arith) ∙ each k other before
        | inr past ↦
            let here : n ≡ k = omega arith in
            get_or_push entries one other k (omega arith) ∙
            ap (λ r. (r, n)) (get_or_default references n d other.0 within) ∙
            ap (λ n. (get_or references n other.0, n)) here
      ],
    )

-- ---- the entries in their order

some_entry : Ref × ℕ
some_entry = (record { 0 = [] }, 0)

module _ (index : Index) (chunks : List (List ℕ)) (i : IsIndex index chunks) where
  abbrev entries : List (Ref × ℕ)
  entries = index.entries.items

  -- each entry tells of a chunk
  pub each_right : All (λ e. HasAt chunks e.1 e.0.0) entries
  each_right = All-permutation (λ e. HasAt chunks e.1 e.0.0) i.numbered entries i.moved
      (λ k d h.
      let within : k < length i.references = omega (arith, i.in_turn.many) in
      subst (λ e. HasAt chunks e.1 e.0.0) (sym (i.in_turn.each k d within))
      (record {
        within = omega (arith, as_many chunks i.references i.are);
        is = sym (reference_at chunks i.references k d.0 i.are within);
      }))

  -- each chunk has an entry
  entry_of : (k : ℕ) → k < length chunks → (offset : ℕ) × (offset < length entries) ×
      ((d : Ref × ℕ) → ((get_or entries offset d).1 ≡ k) ×
      ((get_or entries offset d).0.0 ≡ reference_of (get_or chunks k [])))
  entry_of k h =
      let within : k < length i.references = omega (arith, as_many chunks i.references i.are) in
      let inside : k < length i.numbered = omega (arith, i.in_turn.many) in
      let x = get_or i.numbered k some_entry in
      let at = Contains-permutation i.numbered entries x i.moved
      (k, inside, get_or_default i.numbered k x some_entry inside) in (
        at.0,
        at.1,
        λ d.
            let e = get_or_default entries at.0 d x at.1 ∙ at.2 ∙
            i.in_turn.each k some_entry within in (
              ap (λ e. e.1) e,
              ap (λ e. e.0.0) e ∙
                  reference_at chunks i.references k some_entry.0 i.are within,
            ),
      )

  -- a search does not miss what is there
  pub search_ends : (reference : List ℕ) (offset number : ℕ) →
      (IsNonDecreasingBy (λ e. ordering_index (slice_cmp nat_cmp e.0.0 reference)) entries →
      IsPartitionPoint (λ e. slice_cmp nat_cmp e.0.0 reference ≡ Less)
      (λ e. slice_cmp nat_cmp e.0.0 reference ≡ Greater) entries offset) →
      HasAt chunks number reference → ⊥
  search_ends reference offset number parted has =
      let at = entry_of number has.within in
      let points = parted (searchable_from_sorted nat_list_cmp_total (λ e. e.0.0) entries
      reference i.sorted) in
      let same : slice_cmp nat_cmp (get_or entries at.0 some_entry).0.0 reference ≡ Equal =
      ap (λ r. slice_cmp nat_cmp r reference) ((at.2 some_entry).1 ∙ has.is) ∙
      order_self reference in
      elim (cases_lt at.0 offset) [
        | inl lt ↦
            let e : Less ≡ Equal = sym (points.0 at.0 some_entry (omega arith) lt) ∙ same in cc
        | inr le ↦
            let e : Greater ≡ Equal = sym (points.1 at.0 some_entry le at.1) ∙ same in cc
      ]

  -- where each reference is above the one before it, no two chunks have one
  module _ (rises : (k : ℕ) (d : Ref × ℕ) → k + 1 < length entries →
      true ≡ is_lt (slice_cmp nat_cmp (get_or entries k d).0.0 (get_or entries (k + 1) d).0.0))
    where
      far : (p q : ℕ) → p < q → q < length entries →
          (get_or entries p some_entry).0.0 ≡ (get_or entries q some_entry).0.0 → ⊥
      far p q h within e = false≢true
          (sym (sorted_far (λ x y. is_lt (slice_cmp nat_cmp x.0.0 y.0.0))
          (ranks_by nat_list_cmp_total (λ e. e.0.0)) entries i.sorted (p + 1) q some_entry
          (omega arith) within) ∙
          ap (λ r. is_lt (slice_cmp nat_cmp r (get_or entries (p + 1) some_entry).0.0)) (sym e) ∙
          sym (rises p some_entry (omega arith)))

      chunks_differ : (j k : ℕ) → j < k → k < length chunks →
          reference_of (get_or chunks j []) ≡ reference_of (get_or chunks k []) → ⊥
      chunks_differ j k h within e =
          let a = entry_of j (omega arith) in
          let b = entry_of k within in
          let same = (a.2 some_entry).1 ∙ e ∙ sym (b.2 some_entry).1 in
          elim (cases_lt a.0 b.0) [
            | inl lt ↦ far a.0 b.0 lt b.1 same
            | inr le ↦ elim (cases_lt b.0 a.0) [
              | inl lt ↦ far b.0 a.0 lt a.1 (sym same)
              | inr ge ↦
                  let one : a.0 ≡ b.0 = omega arith in
                  let number : j ≡ k = sym (a.2 some_entry).0 ∙
                  ap (λ p. (get_or entries p some_entry).1) one ∙ (b.2 some_entry).0 in
                  omega arith
            ]
          ]

      pub none_reused : reuse [] 0 chunks ≡ None
      none_reused = search (rules, reuse_is, recursion_from_All, apart, chunks_differ)

-- ---- the first chunk whose reference an earlier one has

-- none of the first n chunks is it
pub record Passed (chunks : List (List ℕ)) (references : List Ref) (n : ℕ) : Type 0 where
  pub before : List (List ℕ)
  pub same : reuse [] 0 chunks ≡ reuse before n (drop n chunks)
  pub known : (reference : List ℕ) → list_any (λ d. bytes_eq (reference_of d) reference) before ≡
      list_any (λ r. bytes_eq r.0 reference) (take n references)

module _ (chunks : List (List ℕ)) (references : List Ref) (are : AreReferences chunks references)
    (n : ℕ) (p : Passed chunks references n) where
  module _ (other : Ref) (within : n < length references) where
    abbrev chunk : List ℕ
    chunk = get_or chunks n []

    abbrev known : Bool
    known = list_any (λ d. bytes_eq (reference_of d) (reference_of chunk)) p.before

    reuse_here : reuse [] 0 chunks ≡ reuse p.before n (chunk ∷ drop (suc n) chunks)
    reuse_here = search (rules, drop-cons, as_many)

    known_is : known ≡ list_any (λ r. bytes_eq r.0 (get_or references n other).0)
        (take n references)
    known_is = p.known (reference_of chunk) ∙
        ap (λ x. list_any (λ r. bytes_eq r.0 x) (take n references))
        (sym (reference_at chunks references n other are within))

    pub is_reused : list_any (λ r. bytes_eq r.0 (get_or references n other).0)
        (take n references) ≡ true → reuse [] 0 chunks ≡ Some (Collision n)
    is_reused e = search (rules, reuse_here, known_is)

    pub is_passed : list_any (λ r. bytes_eq r.0 (get_or references n other).0)
        (take n references) ≡ false → Passed chunks references (n + 1)
    is_passed e =
        let next : suc n ≡ n + 1 = omega arith in
        record {
          before = chunk ∷ p.before;
          same = reuse_here ∙ cond-false known (Some (Collision n))
              (reuse (chunk ∷ p.before) (suc n) (drop (suc n) chunks)) (known_is ∙ e) ∙
              ap (λ m. reuse (chunk ∷ p.before) m (drop m chunks)) next;
          known = λ reference.
              let here = ap (λ x. bytes_eq x reference)
              (reference_at chunks references n other are within) in
              ap (λ b. bytes_eq (reference_of chunk) reference || b) (p.known reference) ∙
              or_comm (bytes_eq (reference_of chunk) reference)
              (list_any (λ r. bytes_eq r.0 reference) (take n references)) ∙
              ap (λ b. list_any (λ r. bytes_eq r.0 reference) (take n references) || b) (sym here) ∙
              sym (list_any_more (λ r. bytes_eq r.0 reference) references n other within);
        }
