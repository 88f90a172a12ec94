-- The items of batches, and room for them.
use Rattle.std.proofs.Common.{◌≡◌, ℕ, List, [], ◌∷◌, ◌++◌, refl, ap, sym, ◌∙◌, append_assoc, arith}
use Rattle.std.proofs.lemmas.List.{append-nil}
use Rattle.std.proofs.lemmas.Bool.Decides.{nat_tests}
use Rattle.prolly_link.specs.Batch.{items_of}
use Rattle.prolly_link.specs.BatchSender.{room_taken}

module _ {T : Type 0} where
  pub items_of-append : (bs cs : List (List T)) → items_of (bs ++ cs) ≡ items_of bs ++ items_of cs
  items_of-append [] cs = refl
  items_of-append (b ∷ bs) cs = ap (λ r. b ++ r) (items_of-append bs cs) ∙
      sym (append_assoc b (items_of bs) (items_of cs))

  pub items_of_push : (bs : List (List T)) (b : List T) → items_of (bs ++ b ∷ []) ≡ items_of bs ++ b
  items_of_push bs b = items_of-append bs (b ∷ []) ∙ ap (λ r. items_of bs ++ r) (append-nil b)

-- a batch that has not begun, and has its room
pub room_fresh : (size capacity count : ℕ) → capacity ≡ size → count ≡ 0 →
    room_taken size capacity count ≡ size
room_fresh size capacity count c n = grind (arith, nat_tests)
