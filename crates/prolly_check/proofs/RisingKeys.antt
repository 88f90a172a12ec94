-- Reading the keys of a file, one after another.
use Rattle.std.proofs.Common.{◌≡◌, ℕ, Bool, true, false, ◌&&◌, List, [], ◌∷◌, ◌++◌, drop, map}
use Rattle.std.proofs.Common.{Option, Some, None, refl, sym, ap, ◌∙◌, arith, ◌↔◌}
use Rattle.std.proofs.lemmas.Grind.{common_steps}
use Rattle.prolly_entry.specs.Keys.{Rising, RisingFrom}
use Rattle.prolly_entry.specs.Pair.{Pair}
use Rattle.prolly_entry.specs.Position.{Position, is_before}
use Rattle.prolly_look_up.specs.HeldPairs.{pairs_held}
use Rattle.prolly_check.specs.FirstFault.{RisesTo, order_fault, rises_behind, last_behind}

-- ---- pairs behind pairs

and_assoc : (a b c : Bool) → (a && (b && c)) ≡ ((a && b) && c)
and_assoc true b c = refl
and_assoc false b c = refl

pub rises_append : (last : Option (List ℕ)) (xs ys : List Pair) →
    rises_behind last (xs ++ ys) ≡ (rises_behind last xs && rises_behind (last_behind last xs) ys)
rises_append last [] ys = refl
rises_append last (x ∷ xs) ys = simp (common_steps, and_assoc, rises_append (Some x.key) xs ys)

pub last_append : (last : Position) (xs ys : List Pair) →
    last_behind last (xs ++ ys) ≡ last_behind (last_behind last xs) ys
last_append last [] ys = refl
last_append last (x ∷ xs) ys = last_append (Some x.key) xs ys

rises_is : (key : List ℕ) (ps : List Pair) → (rises_behind (Some key) ps ≡ true) ↔ RisingFrom key
    (map (λ p. p.key) ps)
rises_is key [] = (λ h. tt, λ h. refl)
rises_is key (p ∷ ps) = grind (arith, rises_is p.key ps)

pub rising_is : (ps : List Pair) → (rises_behind None ps ≡ true) ↔ Rising (map (λ p. p.key) ps)
rising_is [] = (λ h. tt, λ h. refl)
rising_is (p ∷ ps) = rises_is p.key ps

-- ---- behind a key

-- keys that rise do so behind a key that is less than the first one
pub rises_all : (last new : Position) (ps : List Pair) (p : Pair) (rest : List Pair) →
    ps ≡ p ∷ rest → rises_behind None ps ≡ true → is_before last (Some p.key) ≡ true →
    new ≡ last_behind None ps → RisesTo last ps new
rises_all last new ps p rest are inside first is = record {
  rises = ap (rises_behind last) are ∙ ap (λ b. b && rises_behind (Some p.key) rest) first ∙
      sym (ap (rises_behind None) are) ∙ inside;
  last_is = is ∙ ap (last_behind None) are ∙ sym (ap (last_behind last) are);
}

-- ---- over chunks

-- the keys of the chunks before the number rise up to this one
pub record ChunksRise (chunks : List (List ℕ)) (last : Option (List ℕ)) (number : ℕ) : Type 0 where
  pub same : order_fault None 0 (map pairs_held chunks) ≡ order_fault last number
      (map pairs_held (drop number chunks))
