-- What stood in front of bytes that were appended still does.
use Rattle.std.proofs.Common.{◌≡◌, ◌++◌, List, ℕ, length, take, drop, refl, ap, sym, ◌∙◌}
use Rattle.std.proofs.Common.{append_assoc, subst}
use Rattle.std.proofs.lemmas.List.{take-append-drop}
use Rattle.std.proofs.Math.Seq.{take-append_seam}
use Rattle.std.specs.Io.{StartsWith}

-- The front of a front is one. (The first part shows `grind` the call to look for.)
pub front_kept : (xs ys ts : List ℕ) → take (length (xs ++ ys)) ts ≡ xs ++ ys →
    (take (length (xs ++ ys)) ts ≡ take (length (xs ++ ys)) ts) × (take (length xs) ts ≡ xs)
front_kept xs ys ts h =
    let behind = drop (length (xs ++ ys)) ts in
    let whole : ts ≡ xs ++ (ys ++ behind) =
    sym (take-append-drop (length (xs ++ ys)) ts) ∙ ap (λ t. t ++ behind) h ∙
    append_assoc xs ys behind in
    (refl, ap (take (length xs)) whole ∙ take-append_seam xs (ys ++ behind))

pub still_front : (old out out' : List ℕ) → StartsWith out old → StartsWith out' out →
    StartsWith out' old
still_front old out out' h k =
    let behind = drop (length old) out in
    let whole : out ≡ old ++ behind =
    sym (take-append-drop (length old) out) ∙ ap (λ t. t ++ behind) h in
    (front_kept old behind out' (subst (λ (t : List ℕ). take (length t) out' ≡ t) whole k)).1
