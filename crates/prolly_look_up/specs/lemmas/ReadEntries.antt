-- The entries that bytes spell are read one after another.
use Rattle.std.proofs.Common.{rules, ◌≡◌, ℕ, zero, suc, ◌<◌, ◌≤◌, List, [], ◌∷◌, ◌++◌, length, drop}
use Rattle.std.proofs.Common.{map, refl, sym, ap, ◌∙◌, arith, append_assoc, ◌+◌, Some}
use Rattle.std.specs.Int.{w32, to_be_bytes}
use Rattle.std.specs.List.{flat_map, AllByRecursion}
use Rattle.std.proofs.lemmas.Grind.{common_steps}
use Rattle.std.proofs.lemmas.List.{length-append, length-drop, take_at, drop-drop, map-id}
use Rattle.prolly_entry.specs.Pair.{Pair, IsPair}
use Rattle.prolly_entry.specs.Spelling.{key_spelling, pair_spelling, value_spelling}
use Rattle.prolly_entry.specs.lemmas.Spellings.{numbers, key_size}
use Rattle.prolly_look_up.specs.Entries.{IsLeaf, behind_pair, entries_in, entries_up_to, first_pair}
use Rattle.prolly_look_up.specs.Entries.{pairs_in}

-- What stands behind the first of two lists.
pub drop_front : (xs ys : List ℕ) (n : ℕ) → n ≡ length xs → drop n (xs ++ ys) ≡ ys
drop_front [] ys n e = ap (λ m. drop m ys) e
drop_front (x ∷ xs) ys n e = ap (λ m. drop m (x ∷ xs ++ ys)) e ∙ drop_front xs ys (length xs) refl

-- ---- what functions read of them

-- Behind the first entry less is left.
abbrev pub Shrinks : (List ℕ → List ℕ) → Type 0
Shrinks behind = (b : ℕ) (bytes : List ℕ) → length (behind (b ∷ bytes)) ≤ length bytes

module _ {B : Type 0} (first : List ℕ → B) (behind : List ℕ → List ℕ) (shrinks : Shrinks behind)
  where
    enough : (n m : ℕ) (bytes : List ℕ) → length bytes ≤ n → length bytes ≤ m →
        entries_up_to first behind n bytes ≡ entries_up_to first behind m bytes
    enough zero zero [] h k = refl
    enough zero (suc m) [] h k = refl
    enough (suc n) zero [] h k = refl
    enough (suc n) (suc m) [] h k = refl
    enough zero m (b ∷ bytes) h k = absurd (let h' : suc (length bytes) ≤ 0 = h in omega arith)
    enough (suc n) zero (b ∷ bytes) h k = search rules
    enough (suc n) (suc m) (b ∷ bytes) h k = simp (
      common_steps,
      enough n m (behind (b ∷ bytes)) (omega arith) (omega arith),
    )

    pub first_in : (bytes : List ℕ) → 0 < length bytes →
        entries_in first behind bytes ≡ first bytes ∷ entries_in first behind (behind bytes)
    first_in [] h = absurd (omega arith)
    first_in (b ∷ bytes) h = grind (arith, enough)

-- The functions read an entry from its spelling, and leave what is behind it.
pub record Reads {B : Type 0} (first : List ℕ → B) (behind : List ℕ → List ℕ) (spelled : List ℕ)
    (entry : B) : Type 0 where
  pub some : 0 < length spelled
  pub read : (more : List ℕ) → first (spelled ++ more) ≡ entry
  pub left : (more : List ℕ) → behind (spelled ++ more) ≡ more

module _ {B : Type 0} (first : List ℕ → B) (behind : List ℕ → List ℕ) (shrinks : Shrinks behind)
  where
    pub reads_on : (bytes spelled more : List ℕ) (entry : B) → Reads first behind spelled entry →
        bytes ≡ spelled ++ more → entries_in first behind bytes ≡ entry ∷ entries_in first behind
        more
    reads_on bytes spelled more entry r e = grind (arith, first_in, length-append)

    pub reads_all : {A : Type 0} (spelling : A → List ℕ) (read : A → B) (Lawful : A → Type 0) →
        ((a : A) → Lawful a → Reads first behind (spelling a) (read a)) →
        (entries : List A) → AllByRecursion Lawful entries →
        entries_in first behind (flat_map spelling entries) ≡ map read entries
    reads_all spelling read Lawful reads [] h = refl
    reads_all spelling read Lawful reads (a ∷ entries) h =
        reads_on (flat_map spelling (a ∷ entries)) (spelling a) (flat_map spelling entries) (read a)
        (reads a h.0) refl
        ∙ ap (λ bs. read a ∷ bs) (reads_all spelling read Lawful reads entries h.1)

-- ---- the pairs of a leaf

pub pair_shrinks : Shrinks behind_pair
pair_shrinks b bytes = grind (arith, length-drop)

pub pair_reads : (p : Pair) → IsPair p → Reads first_pair behind_pair (pair_spelling p) p
pair_reads p h = record {
  some = omega (arith, key_size p.key, length-append (key_spelling p.key) (value_spelling p.value));
  read = λ more. (both more).0;
  left = λ more. (both more).1;
}
  where
    both : (more : List ℕ) → (first_pair (pair_spelling p ++ more) ≡ p) ×
        (behind_pair (pair_spelling p ++ more) ≡ more)
    both more =
        let entries = pair_spelling p ++ more in
        let n = numbers (record { key = p.key; value = Some p.value }) more entries
        (record { key = h.key; value = h.value }) refl in
        let front = key_spelling p.key ++ to_be_bytes w32 (length p.value) in
        let parts : entries ≡ front ++ (p.value ++ more) = simp append_assoc in
        let size : 6 + length p.key ≡ length front =
        omega (
          arith,
          length-append (key_spelling p.key) (to_be_bytes w32 (length p.value)),
          key_size p.key,
        ) in
        let left : drop (6 + length p.key) entries ≡ p.value ++ more =
        ap (drop (6 + length p.key)) parts ∙
        drop_front front (p.value ++ more) (6 + length p.key) size in (
          rw (n.there, n.value, n.key, left, take_at p.value more (length p.value) refl) refl,
          rw (n.value, n.key) (sym (drop-drop (length p.value) (6 + length p.key) entries) ∙
              ap (drop (length p.value)) left ∙ drop_front p.value more (length p.value) refl),
        )

-- The pairs that are read of a leaf's entries are those that they spell.
pub leaf_pairs : (entries : List ℕ) (pairs : List Pair) → IsLeaf entries pairs →
    pairs_in entries ≡ pairs
unfolding pairs_in
leaf_pairs entries pairs h =
    ap (entries_in first_pair behind_pair) h.is ∙ reads_all first_pair behind_pair pair_shrinks
    pair_spelling (λ p. p) IsPair pair_reads pairs h.lawful ∙ map-id pairs
