-- Passing a line that is too long.
use Rattle.std.proofs.Common.{◌≡◌, ◌≢◌, ℕ, ◌+◌, ◌<◌, ◌≤◌, List, [], ◌∷◌, ◌++◌, All, Some, ap}
use Rattle.std.proofs.Common.{◌∙◌, append_assoc, arith, drop, inl, inr, length, length-append}
use Rattle.std.proofs.Common.{length-drop, subst, sym, take}
use Rattle.std.specs.Prelude.{Err, IfOk, Ok, Result, slice_get}
use Rattle.std.proofs.lemmas.List.{append-nil, length-take-le, nil_from_length}
use Rattle.std.proofs.lemmas.List.{take_all}
use Rattle.std.proofs.lemmas.Option.{slice_get_within}
use Rattle.prolly_entry.specs.lemmas.Lists.{all_append}
use Rattle.prolly_text.specs.Ahead.{PassesLine}
use Rattle.prolly_text.specs.Lines.{lines_of}
use Rattle.prolly_text.proofs.LineLemmas.{Lacks, cut_there, lacks, line_alone, line_first}

-- So many bytes of the first line of a text are passed, and none of them is its newline.
pub record HasSkipped (text rest : List ℕ) (passed : ℕ) : Type 0 where
  pub front : List ℕ
  pub whole : text ≡ front ++ rest
  pub none : Lacks 0x0A front
  pub size : passed ≡ length front

-- The line ends among the unparsed bytes.
pub end_skipped : (text unparsed left : List ℕ) (passed n : ℕ) →
    HasSkipped text (unparsed ++ left) passed → All (λ b. b ≢ 0x0A) (take n unparsed) →
    slice_get unparsed n ≡ Some 0x0A → n ≤ length unparsed →
    PassesLine text (drop (n + 1) unparsed ++ left) (passed + (n + 1))
end_skipped text unparsed left passed n h none there within =
    let line = h.front ++ take n unparsed in
    let rest = drop (n + 1) unparsed ++ left in record {
      line = line;
      whole = ap lines_of (h.whole
          ∙ (ap (λ (t : List ℕ). h.front ++ (t ++ left)) (cut_there unparsed n 0x0A there)
          ∙ (ap (λ (t : List ℕ). h.front ++ t)
          (append_assoc (take n unparsed) (0x0A ∷ drop (n + 1) unparsed) left)
          ∙ sym (append_assoc h.front (take n unparsed) (0x0A ∷ rest)))))
          ∙ line_first line rest (all_append (λ b. b ≢ 0x0A) h.front (take n unparsed) h.none
          (lacks 0x0A (take n unparsed) none));
      bytes_are = let s = h.size in omega (
        arith,
        ap length h.whole,
        length-append h.front (unparsed ++ left),
        length-append unparsed left,
        length-append (drop (n + 1) unparsed) left,
        length-drop (n + 1) unparsed,
        slice_get_within unparsed n 0x0A there,
      );
      ends = inl (let s = h.size in omega (
        arith,
        length-append h.front (take n unparsed),
        length-take-le n unparsed within,
      ));
    }

-- All unparsed bytes are passed, which have no newline, and more came behind them.
pub more_skipped : (text unparsed left left' given unparsed' : List ℕ) (passed n sum : ℕ) →
    HasSkipped text (unparsed ++ left) passed → All (λ b. b ≢ 0x0A) (take n unparsed) →
    n ≡ length unparsed → left ≡ given ++ left' → unparsed' ≡ given → sum ≡ passed + n →
    HasSkipped text (unparsed' ++ left') sum
more_skipped text unparsed left left' given unparsed' passed n sum h none all e f is = record {
  front = h.front ++ unparsed;
  whole = h.whole ∙ (sym (append_assoc h.front unparsed left) ∙
      ap (λ (t : List ℕ). (h.front ++ unparsed) ++ t)
      (e ∙ ap (λ (t : List ℕ). t ++ left') (sym f)));
  none = all_append (λ b. b ≢ 0x0A) h.front unparsed h.none (lacks 0x0A unparsed
      (subst (All (λ b. b ≢ 0x0A)) (take_all n unparsed (omega arith)) none));
  size = let s = h.size in omega (arith, length-append h.front unparsed);
}

-- The text ends with the line.
pub all_skipped : (text rest : List ℕ) (passed : ℕ) → HasSkipped text rest passed → rest ≡ [] →
    0 < passed → PassesLine text rest passed
all_skipped text rest passed h over some = record {
  line = h.front;
  whole = ap lines_of (h.whole ∙ (ap (λ (t : List ℕ). h.front ++ t) over ∙ append-nil h.front))
      ∙ (alone h.front h.none (let s = h.size in omega arith)
      ∙ ap (λ (t : List ℕ). h.front ∷ lines_of t) (sym over));
  bytes_are = let s = h.size in
      omega (arith, ap length h.whole, length-append h.front rest);
  ends = inr (h.size, over);
}
  where
    alone : (front : List ℕ) → Lacks 0x0A front → 0 < length front →
        lines_of front ≡ front ∷ []
    alone [] none some = absurd (omega arith)
    alone (x ∷ front) none some = line_alone x front none

-- What holds of a sum holds of what is told as it.
pub sum_told : {E : Type 0} (result : Result ℕ E) (P : ℕ → Type 0) (n : ℕ) →
    IfOk result (λ s. s ≡ n) → P n → IfOk result P
sum_told (Ok s) P n is h = subst P (sym is) h
sum_told (Err e) P n is h = tt

-- Nothing is left behind all bytes, and a read brings what it gives.
pub brought : (unparsed passed given unparsed' : List ℕ) (n : ℕ) → n ≡ length unparsed →
    passed ≡ drop n unparsed → unparsed' ≡ passed ++ given → unparsed' ≡ given
brought unparsed passed given unparsed' n all e f =
    let nil : passed ≡ [] = nil_from_length passed
    (omega (arith, ap length e, length-drop n unparsed)) in
    f ∙ ap (λ (t : List ℕ). t ++ given) nil
