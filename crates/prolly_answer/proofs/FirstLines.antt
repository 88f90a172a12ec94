-- Lines that are made of the first pairs of leaves.
use Rattle.std.proofs.Common.{◌≡◌, ℕ, zero, suc, ◌-◌, ◌<◌, List, [], ◌∷◌, ◌++◌, length, take, refl}
use Rattle.std.proofs.Common.{sym, ap, ◌∙◌, arith, append_assoc, append-nil}
use Rattle.prolly_entry.specs.Pair.{Pair}
use Rattle.prolly_text.specs.declared.notation.Notation.{Notation}
use Rattle.prolly_text.specs.RecordForms.{record_line}
use Rattle.prolly_text.specs.declared.lines.form.RecordForm.TheVariants.{Lines}
use Rattle.prolly_answer.specs.LookUps.{pair_lines}
use Rattle.prolly_answer.proofs.DumpSteps.{put_of, written_append}

-- ---- the first of some pairs

pub none_of : (n : ℕ) → take {A = Pair} n [] ≡ []
none_of zero = refl
none_of (suc n) = refl

one_of : (n : ℕ) (p : Pair) (ps : List Pair) → 0 < n → take n (p ∷ ps) ≡ p ∷ take (n - 1) ps
one_of zero p ps some = absurd (omega arith)
one_of (suc n) p ps some = let e : n ≡ suc n - 1 = omega arith in ap (λ m. p ∷ take m ps) e

pub parts_of : (n : ℕ) (ps qs : List Pair) →
    take n (ps ++ qs) ≡ take n ps ++ take (n - length ps) qs
parts_of n [] qs =
    let e : n ≡ n - 0 = omega arith in
    ap (λ m. take m qs) e ∙ ap (λ rs. rs ++ take (n - 0) qs) (sym (none_of n))
parts_of zero (p ∷ ps) qs =
    let e : 0 ≡ 0 - suc (length ps) = omega arith in ap (λ m. take m qs) e
parts_of (suc n) (p ∷ ps) qs =
    let e : n - length ps ≡ suc n - suc (length ps) = omega arith in
    ap (λ rs. p ∷ rs) (parts_of n ps qs) ∙ ap (λ m. p ∷ (take n ps ++ take m qs)) e

module _ (notation : Notation) where
  abbrev text : List Pair → List ℕ
  text pairs = pair_lines notation pairs

  -- ---- pair by pair

  -- the line of the next pair is there
  pub one_line : (p : Pair) (pairs rest : List Pair) (left : ℕ) (old new : List ℕ) → 0 < left →
      pairs ≡ p ∷ rest → new ≡ old ++ record_line notation (put_of p) →
      new ++ text (take (left - 1) rest) ≡ old ++ text (take left pairs)
  one_line p pairs rest left old new some is told =
      ap (λ l. l ++ text (take (left - 1) rest)) told
      ∙ append_assoc old (record_line notation (put_of p)) (text (take (left - 1) rest))
      ∙ ap (λ ps. old ++ text ps) (sym (ap (take left) is ∙ one_of left p rest some))

  -- no pair is left
  pub no_more : (pairs : List Pair) (left : ℕ) (lines : List ℕ) → pairs ≡ [] →
      lines ++ text (take left pairs) ≡ lines
  no_more pairs left lines none =
      ap (λ ps. lines ++ text ps) (ap (take left) none ∙ none_of left) ∙ append-nil lines

  -- no pair more is within the limit
  pub none_within : (pairs : List Pair) (left : ℕ) (lines : List ℕ) → left ≡ 0 →
      lines ++ text (take left pairs) ≡ lines
  none_within pairs left lines none =
      ap (λ n. lines ++ text (take n pairs)) none ∙ append-nil lines

  -- ---- leaf by leaf

  -- the lines of the next leaf are there
  pub leaf_lines : (pairs leaf rest : List Pair) (left behind : ℕ) (old new : List ℕ) →
      pairs ≡ leaf ++ rest → new ≡ old ++ text (take left leaf) →
      behind ≡ left - length leaf → new ++ text (take behind rest) ≡ old ++ text (take left pairs)
  leaf_lines pairs leaf rest left behind old new is told count =
      ap (λ l. l ++ text (take behind rest)) told
      ∙ append_assoc old (text (take left leaf)) (text (take behind rest))
      ∙ ap (λ l. old ++ l) (sym (written_append (Lines notation) (take left leaf)
      (take behind rest)))
      ∙ ap (λ ps. old ++ text ps) (ap (λ n. take left leaf ++ take n rest) count ∙
      sym (parts_of left leaf rest) ∙ ap (take left) (sym is))
