-- The rows of a tree, one by one, and the last first.
use Rattle.std.proofs.Common.{◌≡◌, ℕ, zero, suc, ◌+◌, ◌<◌, List, [], ◌∷◌, length, Some, slice_get}
use Rattle.std.proofs.Common.{slice_index_or, drop, reverse, ◌++◌, refl, sym, ap, ◌∙◌, arith}
use Rattle.std.proofs.lemmas.List.{flat_map_more, reverse-append}
use Rattle.std.specs.List.{flat_map}
use Rattle.prolly_text.specs.Rows.{rows_from}
use Rattle.prolly_chunk.specs.declared.level_stats.LevelStats.{LevelStats}

-- The first row.
pub first_row : (levels : List LevelStats) (number entries : ℕ) (d : LevelStats) → 0 < length levels →
    slice_get (rows_from number entries levels) 0 ≡
    Some (record { number = number; entries = entries; level = slice_index_or levels 0 d })
first_row [] number entries d h = absurd (omega arith)
first_row (level ∷ above) number entries d h = refl

-- Each other one.
pub higher_row : (levels : List LevelStats) (number entries below : ℕ) (d : LevelStats) →
    suc below < length levels → slice_get (rows_from number entries levels) (suc below) ≡
    Some (record {
      number = number + suc below;
      entries = (slice_index_or levels below d).chunks;
      level = slice_index_or levels (suc below) d;
    })
higher_row [] number entries below d h = absurd (omega arith)
higher_row (level ∷ []) number entries below d h = absurd (omega arith)
higher_row (level ∷ next ∷ above) number entries zero d h =
    let same : suc number ≡ number + 1 = omega arith in
    ap (λ n. Some (record { number = n; entries = level.chunks; level = next })) same
higher_row (level ∷ next ∷ above) number entries (suc below) d h =
    let more = higher_row (next ∷ above) (suc number) level.chunks below d (omega arith) in
    let same : suc number + suc below ≡ number + suc (suc below) = omega arith in
    rw (← same) more

pub length-rows_from : (levels : List LevelStats) (number entries : ℕ) →
    length (rows_from number entries levels) ≡ length levels
length-rows_from [] number entries = refl
length-rows_from (level ∷ above) number entries =
    ap suc (length-rows_from above (suc number) level.chunks)

-- A row by its number, where it is not the first.
pub upper_row : (levels : List LevelStats) (entries at below chunks : ℕ) (d : LevelStats) → at ≡ suc below →
    at < length levels → chunks ≡ (slice_index_or levels below d).chunks →
    slice_get (rows_from 0 entries levels) at ≡
    Some (record { number = at; entries = chunks; level = slice_index_or levels at d })
upper_row levels entries at below chunks d e h f =
    let more = higher_row levels 0 entries below d (omega arith) in
    let same : 0 + suc below ≡ suc below = omega arith in
    rw (e, f) (rw same at more)

-- ---- lists, from an element on

drop_at : {A : Type 0} (xs : List A) (place : ℕ) (x : A) → slice_get xs place ≡ Some x →
    drop place xs ≡ x ∷ drop (suc place) xs
drop_at [] place x e = cc
drop_at (y ∷ ys) zero x e = cc
drop_at (y ∷ ys) (suc place) x e = drop_at ys place x e

-- What is written for the elements from one on, the last first, is what is written for those behind
-- it, and then for it.
pub last_first : {A : Type 0} (text : A → List ℕ) (front : List ℕ) (xs : List A) (place next : ℕ)
    (x : A) → next ≡ suc place → slice_get xs place ≡ Some x →
    front ++ flat_map text (reverse (drop next xs)) ++ text x ≡
    front ++ flat_map text (reverse (drop place xs))
last_first text front xs place next x e f =
    let rest = drop (suc place) xs in
    let turned : reverse (drop place xs) ≡ reverse rest ++ x ∷ [] =
    ap reverse (drop_at xs place x f) ∙ reverse-append (x ∷ []) rest in
    ap (λ n. front ++ flat_map text (reverse (drop n xs)) ++ text x) e ∙
    flat_map_more text front (reverse rest) x ∙
    ap (λ t. front ++ flat_map text t) (sym turned)
