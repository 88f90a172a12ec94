-- The count of what was sent.
use Rattle.std.proofs.Common.{◌≡◌, ℕ, ◌+◌, min, List, [], ◌++◌, length, refl, ap, ◌∙◌, sym}
use Rattle.std.proofs.Common.{append_assoc, length-append, arith}
use Rattle.std.proofs.lemmas.List.{append-nil}
use Rattle.prolly_merge.specs.Merged.{Counts}

pub count_none : {T : Type 0} (before : List T) → Counts before before 0
count_none before = ([], sym (append-nil before), refl)

next_count : (n m k l j : ℕ) → m ≡ min n 0xFFFF_FFFF_FFFF_FFFF →
    k ≡ min (m + j) 0xFFFF_FFFF_FFFF_FFFF → l ≡ n + j → k ≡ min l 0xFFFF_FFFF_FFFF_FFFF
next_count n m k l j h h' h'' = omega arith

pub count_more : {T : Type 0} (before sent after ys : List T) (n m : ℕ) → Counts before sent n →
    after ≡ sent ++ ys → m ≡ min (n + length ys) 0xFFFF_FFFF_FFFF_FFFF → Counts before after m
count_more before sent after ys n m c is h = (
  c.0 ++ ys,
  is ∙ ap (λ s. s ++ ys) c.1 ∙ append_assoc before c.0 ys,
  next_count (length c.0) n m (length (c.0 ++ ys)) (length ys) c.2 h (length-append c.0 ys),
)
