-- How far a walk has to go yet.
use Rattle.std.proofs.Common.{◌≡◌, ℕ, zero, suc, ◌+◌, ◌-◌, ◌*◌, ◌^◌, ◌<◌, ◌≤◌, List, [], ◌∷◌, ◌++◌}
use Rattle.std.proofs.Common.{length, sym, ap, subst, arith, map, inl, inr, Option, Some, None}
use Rattle.std.specs.Prelude.{All}
use Rattle.std.proofs.Math.Nat.{suc-mul}
use Rattle.std.proofs.lemmas.Bool.{cases_lt}
use Rattle.prolly_entry.specs.Byte.{IsByte}
use Rattle.prolly_entry.specs.Pair.{Pair}
use Rattle.prolly_entry.specs.declared.version.Version.{Version}
use Rattle.prolly_look_up.specs.Entries.{Child, behind_child, children_in, entries_up_to}
use Rattle.prolly_look_up.specs.Entries.{first_child}
use Rattle.prolly_look_up.specs.Kinds.{Entries, kind_of}
use Rattle.prolly_look_up.specs.Kinds.Entries.{Leaf, Node}
use Rattle.prolly_look_up.specs.Way.{FallsTo, level_of}
use Rattle.prolly_io.specs.Frame.{IsSmall}
use Rattle.prolly_range.specs.KeySet.{KeySet, Met, met_first, met_in, part_behind, part_below}
use Rattle.prolly_range.specs.SetProof.{Due, Takes, child_due, due_below}
use Rattle.prolly_range.specs.ToGo.{bound_of, to_go, weight}

weighs : (n : ℕ) → 0 < weight n
unfolding weight
weighs zero = omega arith
weighs (suc n) = let h = weighs n in omega arith

heavier : (m n : ℕ) → m < n → 2 ^ 64 * weight m ≤ weight n
unfolding weight
heavier m zero h = absurd (omega arith)
heavier m (suc n) h = elim (cases_lt m n) [
  | inl k ↦ let r = heavier m n k in omega arith
  | inr k ↦ let same : m ≡ n = omega arith in let e = ap weight same in omega arith
]

append_go : (ds es : List Due) → to_go (ds ++ es) ≡ to_go ds + to_go es
append_go [] es = omega arith
append_go (d ∷ ds) es = let h = append_go ds es in omega arith

-- ---- a chunk has no more children than bytes, and no more of them are met

few_up_to : {A : Type 0} (first : List ℕ → A) (behind : List ℕ → List ℕ) (n : ℕ) (bytes : List ℕ) →
    length (entries_up_to first behind n bytes) ≤ n
few_up_to first behind zero bytes = omega arith
few_up_to first behind (suc n) [] = omega arith
few_up_to first behind (suc n) (b ∷ bytes) =
    let rest = few_up_to first behind n (behind (b ∷ bytes)) in omega arith

few_children : (version : Version) (bytes : List ℕ) →
    length (children_in version bytes) ≤ length bytes
unfolding children_in
few_children version bytes =
    few_up_to (first_child version) (behind_child version) (length bytes) bytes

few_first : {A : Type 0} (number : ℕ) (x : A) (part : Option KeySet) (ms : List (Met A)) →
    length (met_first number x part ms) ≤ suc (length ms)
few_first number x None ms = omega arith
few_first number x (Some part) ms = omega arith

few_met : {A : Type 0} (key : A → List ℕ) (number : ℕ) (part : Option KeySet) (xs : List A) →
    length (met_in key number part xs) ≤ length xs
few_met key number None xs = omega arith
few_met key number (Some set) [] = omega arith
few_met key number (Some set) (x ∷ xs) =
    let rest = few_met key (suc number) (part_behind set (key x)) xs in
    let first = few_first number x (part_below set (key x))
    (met_in key (suc number) (part_behind set (key x)) xs) in
    omega arith

-- ---- so they weigh less than the chunk

few_weigh : (k level : ℕ) (ms : List (Met Child)) → length ms ≤ k →
    to_go (map (child_due level) ms) ≤ k * weight level
few_weigh k level [] h = omega arith
few_weigh zero level (m ∷ ms) h = absurd (omega arith)
few_weigh (suc k) level (m ∷ ms) h =
    let rest = few_weigh k level ms (omega arith) in
    let e = suc-mul k (weight level) in
    omega arith

-- the children of a node are few
abbrev Few : Entries → Type 0
Few (Leaf pairs) = Unit {0}
Few (Node children) = length children < 2 ^ 64

few : (version : Version) (chunk : List ℕ) → length chunk < 2 ^ 64 → Few (kind_of version chunk)
few version [] h = tt
few version (zero ∷ bytes) h = tt
few version (suc level ∷ bytes) h = let e = few_children version bytes in omega arith

lighter : (entries : Entries) (set : KeySet) (level bound : ℕ) (due : List Due) → Few entries →
    level < bound → to_go (due_below level set entries ++ due) < weight bound + to_go due
lighter (Leaf pairs) set level bound due h k = let a = weighs bound in omega arith
lighter (Node children) set level bound due h k =
    let ms = met_in (λ c. c.key) 0 (Some set) children in
    let a = heavier level bound k in
    let b = weighs level in
    let c = few_met (λ c. c.key) 0 (Some set) children in
    let d = few_weigh (2 ^ 64 - 1) level ms (omega arith) in
    let e = append_go (map (child_due level) ms) due in
    omega arith

-- a level is a byte, and that of the chunk above is more
below_bound : (above : Option ℕ) (chunk : List ℕ) → All IsByte chunk → FallsTo above chunk →
    level_of chunk < bound_of above
below_bound None [] bytes falls = omega arith
below_bound None (level ∷ chunk) bytes falls = bytes 0 0 (omega arith)
below_bound (Some above) chunk bytes falls = omega (arith, falls)

pub comes_nearer : (version : Version) (old new : List Due) (chunk : List ℕ) (pairs : List Pair) →
    Takes version old chunk pairs new → IsSmall chunk → to_go new < to_go old
comes_nearer version old new chunk pairs t small =
    let light : to_go new < weight (bound_of t.first.above) + to_go t.others =
    subst (λ due. to_go due < weight (bound_of t.first.above) + to_go t.others) (sym t.is)
    (lighter (kind_of version chunk) t.first.set (level_of chunk) (bound_of t.first.above) t.others
    (few version chunk small) (below_bound t.first.above chunk t.named.bytes t.falls)) in
    subst (λ due. to_go new < to_go due) (sym t.was) light
