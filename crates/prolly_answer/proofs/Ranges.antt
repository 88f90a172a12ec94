-- The pairs of a range are those that a scan has there.
use Rattle.std.proofs.Common.{◌≡◌, inl, inr, ℕ, Bool, true, false, not, ◌&&◌, List, [], ◌∷◌, length}
use Rattle.std.proofs.Common.{◌≤◌, Option, refl, sym, ap, ◌∙◌, cond, arith}
use Rattle.std.specs.List.{filter}
use Rattle.std.specs.Ordering.{is_lt}
use Rattle.std.proofs.lemmas.List.{take_all}
use Rattle.prolly_entry.specs.Keys.{key_order}
use Rattle.prolly_entry.specs.Pair.{Pair}
use Rattle.prolly_range.specs.KeySet.{is_before, pairs_wanted}
use Rattle.prolly_range.specs.KeySet.KeySet.{Range}
use Rattle.prolly_range.specs.SetProof.{TakenAreRight}
use Rattle.prolly_answer.specs.SetProofs.{RangesAreRight, scanned_range}

abbrev is_from : List ℕ → Pair → Bool
is_from from p = not (is_lt (key_order p.key from))

kept_twice : (from : List ℕ) (to : Option (List ℕ)) (m : List Pair) →
    pairs_wanted (Range from to) m ≡ filter (λ p. is_before to p.key) (filter (is_from from) m)
kept_twice from to [] = refl
kept_twice from to (p ∷ m) = go (is_from from p) (is_before to p.key) refl (kept_twice from to m)
  where
    go : (over under : Bool) → under ≡ is_before to p.key →
        pairs_wanted (Range from to) m ≡
        filter (λ p. is_before to p.key) (filter (is_from from) m) →
        cond (over && under) (p ∷ pairs_wanted (Range from to) m) (pairs_wanted (Range from to) m) ≡
        filter (λ p. is_before to p.key)
        (cond over (p ∷ filter (is_from from) m) (filter (is_from from) m))
    go true true e below = rw (sym e) (ap (λ ps. p ∷ ps) below)
    go true false e below = rw (sym e) below
    go false under e below = below

few_kept : {A : Type 0} (test : A → Bool) (xs : List A) → length (filter test xs) ≤ length xs
few_kept test [] = omega arith
few_kept test (x ∷ xs) = go (test x) (few_kept test xs)
  where
    go : (b : Bool) → length (filter test xs) ≤ length xs →
        length (cond b (x ∷ filter test xs) (filter test xs)) ≤ length (x ∷ xs)
    go true few = omega (arith, few)
    go false few = omega (arith, few)

pub range_is_scanned : (m : List Pair) (from : List ℕ) (to : Option (List ℕ)) →
    pairs_wanted (Range from to) m ≡ scanned_range m from to
range_is_scanned m from to = kept_twice from to m ∙
    ap (filter (λ p. is_before to p.key))
    (sym (take_all (length m) (filter (is_from from) m) (few_kept (is_from from) m)))

pub ranges_are_right : TakenAreRight → RangesAreRight
ranges_are_right right version bits m from to chunks pairs due rising lawful taken =
    elim (right version bits m (Range from to) chunks pairs due rising lawful taken) [
      | inl first ↦ inl (record {
        others = first.more_pairs;
        are = sym (range_is_scanned m from to) ∙ first.pairs_are;
        all = λ e. (first.all e).0;
      })
      | inr clash ↦ inr clash
    ]
