-- Groups with one entry more, and a split as its closed groups and the open one.
use Rattle.std.proofs.Common.{◌≡◌, ℕ, Bool, true, ◌&&◌, nat_le, List, [], ◌∷◌, ◌++◌, length, Option}
use Rattle.std.proofs.Common.{Some, None, if◌then◌else◌, refl, sym, ap, ◌∙◌, arith, length-append}
use Rattle.std.proofs.lemmas.Bool.{le-leb}
use Rattle.prolly_tree.specs.Split.{last_passes, is_closed, split, closed_groups, open_groups}
use Rattle.prolly_tree.specs.Split.{open_entries}
use Rattle.prolly_tree.specs.lemmas.Splits.{flat, as_group}
use Rattle.prolly_laws.specs.Splits.{parts, open_rest_of, split_parts, closed_parts, open_parts}
use Rattle.prolly_laws.specs.Splits.{flat_parts}
use Rattle.prolly_chunk.specs.Chunk.{has_entries}

-- The value, if the test holds.
abbrev pub some_if : {A : Type 0} → Bool → A → Option A
some_if test x = if test then Some x else None

pub has_entries-snoc : {A : Type 0} (xs : List A) (x : A) → has_entries (xs ++ x ∷ []) ≡ true
has_entries-snoc [] x = refl
has_entries-snoc (y ∷ ys) x = refl

last_passes-snoc : {A : Type 0} (test : A → Bool) (xs : List A) (x : A) →
    last_passes test (xs ++ x ∷ []) ≡ test x
last_passes-snoc test [] x = refl
last_passes-snoc test (y ∷ []) x = refl
last_passes-snoc test (y ∷ z ∷ ys) x = last_passes-snoc test (z ∷ ys) x

-- With least 1 a group is closed where its last entry is a boundary.
pub closed_by_any : {A : Type 0} (test : A → Bool) (xs : List A) (x : A) →
    is_closed test 1 (xs ++ x ∷ []) ≡ test x
closed_by_any test [] x = refl
closed_by_any test (y ∷ ys) x =
    let long : nat_le 1 (length (y ∷ (ys ++ x ∷ []))) ≡ true =
    le-leb 1 (length (y ∷ (ys ++ x ∷ []))) (omega arith) in
    rw long (last_passes-snoc test (y ∷ ys) x)

-- With least 2 it is closed where its last entry is a boundary, and not its first.
pub closed_by_second : {A : Type 0} (test : A → Bool) (xs : List A) (x : A) →
    is_closed test 2 (xs ++ x ∷ []) ≡ (has_entries xs && test x)
closed_by_second test [] x = refl
closed_by_second test (y ∷ ys) x =
    let long : nat_le 2 (length (y ∷ (ys ++ x ∷ []))) ≡ true =
    le-leb 2 (length (y ∷ (ys ++ x ∷ []))) (omega (arith, length-append ys (x ∷ []))) in
    rw long (last_passes-snoc test (y ∷ ys) x)

module _ {A : Type 0} (test : A → Bool) (least : ℕ) where
  -- A split is its closed groups, and then the open one, if there is one.
  pub record InParts (list : List A) : Type 0 where
    pub whole : split test least list ≡ closed_groups test least list ++
        as_group (open_entries test least list)
    pub rest : open_groups test least list ≡ as_group (open_entries test least list)

  pub in_parts : (list : List A) → InParts list
  in_parts list =
      let p = parts test least list in
      let opens = open_rest_of test least list p in
      let closed : closed_groups test least list ≡ p.groups =
      ap (closed_groups test least) (sym p.whole) ∙
      closed_parts test least p.groups p.rest p.ends opens in
      let groups : open_groups test least list ≡ as_group p.rest =
      ap (open_groups test least) (sym p.whole) ∙ open_parts test least p.groups p.rest p.ends
      opens in
      let entries : open_entries test least list ≡ p.rest = ap flat groups ∙ flat_parts [] p.rest in
      record {
        whole = ap (split test least) (sym p.whole) ∙ split_parts test least p.groups p.rest p.ends
            opens
            ∙ ap (λ gs. gs ++ as_group p.rest) (sym closed) ∙
            ap (λ es. closed_groups test least list ++ as_group es) (sym entries);
        rest = groups ∙ ap as_group (sym entries);
      }
