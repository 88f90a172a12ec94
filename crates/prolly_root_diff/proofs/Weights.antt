-- How far a walk has to go yet: a subtree weighs more than all that is due in its place once its
-- chunk was read.
use Rattle.std.proofs.Common.{◌≡◌, ℕ, zero, suc, ◌+◌, ◌-◌, ◌*◌, ◌^◌, ◌<◌, ◌≤◌, List, [], ◌∷◌, ◌++◌}
use Rattle.std.proofs.Common.{length, sym, ap, subst, arith, inl, inr}
use Rattle.std.proofs.Math.Nat.{suc-mul}
use Rattle.std.proofs.lemmas.Bool.{cases_lt}
use Rattle.prolly_entry.specs.declared.version.Version.{Version}
use Rattle.prolly_look_up.specs.Entries.{Child, behind_child, behind_pair, children_in}
use Rattle.prolly_look_up.specs.Entries.{entries_up_to, first_child, first_pair, pairs_in}
use Rattle.prolly_look_up.specs.Kinds.{Entries, kind_of}
use Rattle.prolly_look_up.specs.Way.{level_of}
use Rattle.prolly_look_up.specs.Kinds.Entries.{Leaf, Node}
use Rattle.prolly_root_diff.specs.Left.{Due, Left, Opens, due_of, opened}
use Rattle.prolly_root_diff.specs.ToGo.{to_go, weight, weights}

pub weighs : (n : ℕ) → 0 < weight n
unfolding weight
weighs zero = omega arith
weighs (suc n) = let h = weighs n in omega arith

pub heavier : (m n : ℕ) → m < n → 2 ^ 64 * weight m ≤ weight n
unfolding weight
heavier m zero h = absurd (omega arith)
heavier m (suc n) h = elim (cases_lt m n) [
  | inl k ↦ let r = heavier m n k in omega arith
  | inr k ↦ let same : m ≡ n = omega arith in let e = ap weight same in omega arith
]

pub weights_append : (ds es : List Due) → weights (ds ++ es) ≡ weights ds + weights es
weights_append [] es = omega arith
weights_append (d ∷ ds) es = let h = weights_append ds es in omega arith

-- few children of one level weigh less than a subtree above them
pub few_weigh : (k level : ℕ) (cs : List Child) → length cs ≤ k →
    weights (due_of level cs) ≤ k * weight level
few_weigh k level [] h = omega arith
few_weigh zero level (c ∷ cs) h = absurd (omega arith)
few_weigh (suc k) level (c ∷ cs) h =
    let rest = few_weigh k level cs (omega arith) in
    let e = suc-mul k (weight level) in
    omega arith

-- a chunk has no more entries than bytes
few_up_to : {A : Type 0} (first : List ℕ → A) (behind : List ℕ → List ℕ) (n : ℕ) (bytes : List ℕ) →
    length (entries_up_to first behind n bytes) ≤ n
few_up_to first behind zero bytes = omega arith
few_up_to first behind (suc n) [] = omega arith
few_up_to first behind (suc n) (b ∷ bytes) =
    let rest = few_up_to first behind n (behind (b ∷ bytes)) in omega arith

few_pairs : (bytes : List ℕ) → length (pairs_in bytes) ≤ length bytes
unfolding pairs_in
few_pairs bytes = few_up_to first_pair behind_pair (length bytes) bytes

few_children : (version : Version) (bytes : List ℕ) →
    length (children_in version bytes) ≤ length bytes
unfolding children_in
few_children version bytes =
    few_up_to (first_child version) (behind_child version) (length bytes) bytes

-- the entries of a chunk weigh less than the subtree
abbrev Few : Entries → Type 0
Few (Leaf pairs) = length pairs < 2 ^ 64
Few (Node children) = length children < 2 ^ 64

few : (version : Version) (chunk : List ℕ) → length chunk < 2 ^ 64 → Few (kind_of version chunk)
few version [] h = omega arith
few version (zero ∷ bytes) h = let e = few_pairs bytes in omega arith
few version (suc level ∷ bytes) h = let e = few_children version bytes in omega arith

lighter : (entries : Entries) (level bound : ℕ) (due : List Due) → Few entries → level < bound →
    to_go (opened level entries due) < weight bound + weights due
lighter (Leaf pairs) level bound due h k =
    let a = heavier level bound k in
    let b = weighs level in
    omega arith
lighter (Node children) level bound due h k =
    let a = heavier level bound k in
    let b = weighs level in
    let c = few_weigh (2 ^ 64 - 1) level children (omega arith) in
    let d = weights_append (due_of level children) due in
    omega arith

pub opens_lighter : (version : Version) (old new : Left) → Opens version old new →
    to_go new < to_go old
opens_lighter version old new o =
    let light : to_go new < weight o.first.bound + weights o.due =
    subst (λ l. to_go l < weight o.first.bound + weights o.due) (sym o.is)
    (lighter (kind_of version o.chunk) (level_of o.chunk) o.first.bound o.due
    (few version o.chunk o.short) o.falls) in
    let e = ap to_go o.was in
    omega arith
