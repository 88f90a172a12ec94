-- The lines of the keys up to those of pairs, key by key and pair by pair.
use Rattle.std.proofs.Common.{◌≡◌, ℕ, List, [], ◌∷◌, ◌++◌, true, false, refl, sym, ap, ◌∙◌, subst}
use Rattle.std.proofs.Common.{append_assoc, append-nil, Some, None}
use Rattle.std.proofs.lemmas.List.Concat.{flat_map-append}
use Rattle.std.specs.Ordering.{is_eq}
use Rattle.prolly_entry.specs.Keys.{KeyBelow, Rising, key_order}
use Rattle.prolly_entry.specs.Pair.{Pair}
use Rattle.prolly_entry.specs.lemmas.Orders.{below_greater, eq_true, order_same, order_self}
use Rattle.prolly_range.specs.Found.{AreSomeOf}
use Rattle.prolly_range.specs.SortedKeys.{is_one_of, keys_above, keys_up_to}
use Rattle.prolly_range.specs.lemmas.Splits.{above_one_of, all_behind, none_behind}
use Rattle.prolly_text.specs.declared.notation.Notation.{Notation}
use Rattle.prolly_tree.specs.LookUp.{find}
use Rattle.prolly_answer.specs.KeyLookUps.{found_at, found_line, found_lines}
use Rattle.prolly_answer.specs.SetLines.{keys_past}
use Rattle.prolly_answer.proofs.ShownKeys.{found_past, some_rise}

-- ---- key by key

-- the lines of the keys up to that of the pair
abbrev pub lines_up_to : Notation → Pair → List (List ℕ) → List ℕ
lines_up_to notation p keys = found_lines notation (found_at (p ∷ []) (keys_up_to p.key keys))

module _ (p : Pair) (k : List ℕ) (ks : List (List ℕ)) (h : Rising (k ∷ ks))
    (one : is_one_of (k ∷ ks) p.key ≡ true) where
  module _ (other : is_eq (key_order k p.key) ≡ false) where
    pub other_one : is_one_of ks p.key ≡ true
    other_one = rw other at one

    below : KeyBelow k p.key
    below = above_one_of k p.key ks h other_one

    pub other_above : keys_above p.key (k ∷ ks) ≡ keys_above p.key ks
    other_above = rw (below_greater k p.key below) refl

    up_to_other : keys_up_to p.key (k ∷ ks) ≡ k ∷ keys_up_to p.key ks
    up_to_other = rw (below_greater k p.key below) refl

    found_other : find (p ∷ []) k ≡ None
    found_other = rw (below_greater k p.key below) refl

    pub other_lines : (notation : Notation) (lines more : List ℕ) →
        more ≡ lines ++ found_line notation (record { key = k; value = None }) →
        more ++ lines_up_to notation p ks ≡ lines ++ lines_up_to notation p (k ∷ ks)
    other_lines notation lines more is =
        let rest = lines_up_to notation p ks in
        ap (λ x. x ++ rest) is ∙
        append_assoc lines (found_line notation (record { key = k; value = None })) rest ∙
        ap (λ v. lines ++ (found_line notation (record { key = k; value = v }) ++ rest))
        (sym found_other) ∙
        ap (λ keys. lines ++ found_lines notation (found_at (p ∷ []) keys)) (sym up_to_other)

  module _ (same : is_eq (key_order k p.key) ≡ true) where
    this : k ≡ p.key
    this = order_same k p.key (eq_true (key_order k p.key) same)

    pub same_above : ks ≡ keys_above p.key (k ∷ ks)
    same_above = subst (λ x. ks ≡ keys_above x (k ∷ ks)) this
        (rw (order_self k) (sym (all_behind k ks h)))

    up_to_this : keys_up_to p.key (k ∷ ks) ≡ k ∷ []
    up_to_this = subst (λ x. keys_up_to x (k ∷ ks) ≡ k ∷ []) this
        (rw (order_self k) (ap (λ l. k ∷ l) (none_behind k ks h)))

    found_this : found_at (p ∷ []) (k ∷ []) ≡ record { key = k; value = Some p.value } ∷ []
    found_this = subst (λ x. found_at (p ∷ []) (x ∷ []) ≡ record { key = x; value = Some p.value } ∷ [])
        (sym this) (rw (order_self p.key) refl)

    pub same_lines : (notation : Notation) (lines more : List ℕ) →
        more ≡ lines ++ found_line notation (record { key = k; value = Some p.value }) →
        more ≡ lines ++ lines_up_to notation p (k ∷ ks)
    same_lines notation lines more is = is ∙ ap (λ x. lines ++ x)
        (sym (append-nil (found_line notation (record { key = k; value = Some p.value }))) ∙
        ap (found_lines notation) (sym found_this) ∙
        ap (λ keys. found_lines notation (found_at (p ∷ []) keys)) (sym up_to_this))

-- ---- pair by pair

-- the lines of the keys that are past by these pairs
abbrev pub past_lines : Notation → List Pair → List (List ℕ) → List ℕ
past_lines notation pairs keys = found_lines notation (found_at pairs (keys_past pairs keys))

pub past_more : (notation : Notation) (p : Pair) (ps : List Pair) (keys rest : List (List ℕ))
    (lines more : List ℕ) → Rising keys → AreSomeOf (p ∷ ps) keys →
    more ≡ lines ++ lines_up_to notation p keys → rest ≡ keys_above p.key keys →
    more ++ past_lines notation ps rest ≡ lines ++ past_lines notation (p ∷ ps) keys
past_more notation p ps keys rest lines more h some is behind =
    let own = found_at (p ∷ []) (keys_up_to p.key keys) in
    let others = found_at ps (keys_past ps (keys_above p.key keys)) in
    ap (λ x. x ++ past_lines notation ps rest) is ∙
    ap (λ ks. (lines ++ lines_up_to notation p keys) ++ past_lines notation ps ks) behind ∙
    append_assoc lines (found_lines notation own) (found_lines notation others) ∙
    ap (λ x. lines ++ x) (sym (flat_map-append (found_line notation) own others)) ∙
    ap (λ rs. lines ++ found_lines notation rs)
    (sym (found_past p ps keys (some_rise p ps keys h some) h))
