-- The steps of a walk over two trees.
use Rattle.std.proofs.Common.{◌≡◌, ◌+◌, ◌<◌, List, [], ◌∷◌, Option}
use Rattle.std.proofs.Common.{None, Some, refl, sym, ap, ◌∙◌, arith, length}
use Rattle.std.specs.List.{flat_map}
use Rattle.prolly_entry.specs.Pair.{Pair}
use Rattle.prolly_entry.specs.declared.version.Version.{Version}
use Rattle.prolly_entry.specs.lemmas.Lists.{tail_is}
use Rattle.prolly_root_diff.specs.Left.{Due, Left}
use Rattle.prolly_root_diff.specs.Sides.{AreOne, PassesFirst, dues}
use Rattle.prolly_root_diff.specs.Sides.{left_of}
use Rattle.prolly_root_diff.specs.Walks.{BeginAlike, ComesTo, FirstPair, GoesByPairs}
use Rattle.prolly_root_diff.specs.Walks.{IsAtEnd, IsMove, Lefts, Move, Takes}
use Rattle.prolly_root_diff.specs.declared.onward.Onward.TheVariants as ways
use Rattle.prolly_root_diff.specs.declared.side.Side.{Side}
use Rattle.prolly_root_diff.specs.declared.siblings.Parent.{Parent}
use Rattle.prolly_root_diff.proofs.Lists.{left_is}
use Rattle.prolly_root_diff.proofs.Weights.{weighs}
use Rattle.prolly_root_diff.proofs.Subtrees.{put_dues}
use Rattle.prolly_root_diff.proofs.Taking.{takes_lighter}
use Rattle.prolly_root_diff.specs.ToGo.{far, to_go, weights}

-- ---- one tree

behind_first_due : {T : Type 0} (old new : Side T) → PassesFirst old new → (first : Due)
    (rest : List Due) → (left_of old).due ≡ first ∷ rest → (left_of new).due ≡ rest
behind_first_due old new p first rest is =
    put_dues p.first p.first p.others new.due.items
    (record { next = refl; behind = refl; above = same p.first.parent }) p.put ∙
    tail_is _ _ _ _ (sym (ap (flat_map dues) p.was) ∙ is)
  where
    same : {T : Type 0} (parent : Option (Parent T)) → AreOne parent parent
    same None = tt
    same (Some p) = (refl, refl)

-- ---- both trees

-- what is left after subtrees of one reference
behind_alike : (before after new_before new_after : Left) → (a : BeginAlike before after) →
    ((first : Due) (rest : List Due) → before.due ≡ first ∷ rest → new_before.due ≡ rest) →
    new_before.pairs ≡ before.pairs →
    ((first : Due) (rest : List Due) → after.due ≡ first ∷ rest → new_after.due ≡ rest) →
    new_after.pairs ≡ after.pairs → (new_before ≡ record { pairs = []; due = a.due }) ×
    (new_after ≡ record { pairs = []; due = a.due' })
behind_alike before after new_before new_after a due pairs due' pairs' = (
  left_is new_before a.due (pairs ∙ ap (λ l. l.pairs) a.before_is)
      (due a.first a.due (ap (λ l. l.due) a.before_is)),
  left_is new_after a.due' (pairs' ∙ ap (λ l. l.pairs) a.after_is)
      (due' a.second a.due' (ap (λ l. l.due) a.after_is)),
)

-- a subtree less is to go
pass_lighter : (before after new : Left) → BeginAlike before after →
    ((first : Due) (rest : List Due) → before.due ≡ first ∷ rest → new.due ≡ rest) →
    new.pairs ≡ before.pairs → to_go new < to_go before
pass_lighter before after new a due pairs =
    let b = ap to_go a.before_is in
    let e = ap length (pairs ∙ ap (λ l. l.pairs) a.before_is) in
    let f = ap weights (due a.first a.due (ap (λ l. l.due) a.before_is)) in
    let w = weighs a.first.bound in
    omega arith

other_way : (before after : Left) → BeginAlike before after → BeginAlike after before
other_way before after a = record {
  first = a.second;
  second = a.first;
  due = a.due';
  due' = a.due;
  before_is = a.after_is;
  after_is = a.before_is;
  same = sym a.same;
}

module _ {T U : Type 0} (version : Version) (before new_before : Side T)
    (after new_after : Side U) where
  abbrev Old : Lefts
  Old = record { before = left_of before; after = left_of after }

  abbrev New : Lefts
  New = record { before = left_of new_before; after = left_of new_after }

  pub passes_lighter : BeginAlike (left_of before) (left_of after) → PassesFirst before new_before →
      PassesFirst after new_after →
      to_go (left_of new_before) + to_go (left_of new_after) <
      to_go (left_of before) + to_go (left_of after)
  passes_lighter alike p q = omega (
    arith,
    pass_lighter (left_of before) (left_of after) (left_of new_before) alike
        (behind_first_due before new_before p) p.pairs,
    pass_lighter (left_of after) (left_of before) (left_of new_after)
        (other_way (left_of before) (left_of after) alike)
        (behind_first_due after new_after q) q.pairs,
  )

  -- after pairs that are the same
  abbrev Follows : {V : Type 0} → Side V → Side V → Type 0
  Follows old new = (first : Pair) (rest : List Pair) → old.leaf ≡ first ∷ rest → new.leaf ≡ rest

  record BothTaken : Type 0 where
    pub p : Pair
    pub q : Pair
    pub old : Takes (left_of before) p (left_of new_before)
    pub new : Takes (left_of after) q (left_of new_after)
    pub key : p.key ≡ q.key
    pub value : p.value ≡ q.value

  module _ (g : GoesByPairs (left_of before) (left_of after) ways.Skip)
      (f : Follows before new_before) (due : new_before.due ≡ before.due)
      (f' : Follows after new_after) (due' : new_after.due ≡ after.due) where
    both_taken : BothTaken
    both_taken = by_pairs g.p g.q g.first g.second g.comes
      where
        by_pairs : (p q : Option Pair) → FirstPair before.leaf p → FirstPair after.leaf q →
            ComesTo p q ways.Skip → BothTaken
        by_pairs None None first second comes = cc
        by_pairs None (Some q) first second comes = cc
        by_pairs (Some p) None first second comes = cc
        by_pairs (Some p) (Some q) first second comes = record {
          p = p;
          q = q;
          old = (
            first.1 ∙ ap (λ ps. p ∷ ps) (sym (f p first.0 first.1)),
            ap (λ d. flat_map dues d.items) due,
          );
          new = (
            second.1 ∙ ap (λ qs. q ∷ qs) (sym (f' q second.0 second.1)),
            ap (λ d. flat_map dues d.items) due',
          );
          key = comes.0;
          value = comes.1;
        }

    pub skips_lighter : far New < far Old
    skips_lighter =
        let b = both_taken in omega (
          arith,
          takes_lighter (left_of before) b.p (left_of new_before) b.old,
          takes_lighter (left_of after) b.q (left_of new_after) b.new,
        )

    pub skips_move : IsMove version Old Move.SkipsBoth New
    skips_move = let b = both_taken in (b.p, b.q, b.old, b.new, g)

  -- after subtrees of one reference
  pub passes_move : BeginAlike (left_of before) (left_of after) → PassesFirst before new_before →
      PassesFirst after new_after → IsMove version Old Move.PassesBoth New
  passes_move alike p q =
      let are = behind_alike (left_of before) (left_of after) (left_of new_before)
      (left_of new_after) alike (behind_first_due before new_before p) p.pairs
      (behind_first_due after new_after q) q.pairs in (alike, are.0, are.1)

-- a pair was taken
pub takes_so : {T : Type 0} (old new : Side T) (p : Pair) → old.leaf ≡ p ∷ new.leaf →
    new.due ≡ old.due → Takes (left_of old) p (left_of new)
takes_so old new p taken due = (taken, ap (λ d. flat_map dues d.items) due)

pub takes_nearer : {T : Type 0} (old new : Side T) (p : Pair) → old.leaf ≡ p ∷ new.leaf →
    new.due ≡ old.due → to_go (left_of new) < to_go (left_of old)
takes_nearer old new p taken due =
    takes_lighter (left_of old) p (left_of new) (takes_so old new p taken due)

module _ {T U : Type 0} (before : Side T) (after : Side U) where
  pub ends_there : GoesByPairs (left_of before) (left_of after) ways.End →
      IsAtEnd (left_of before) × IsAtEnd (left_of after)
  ends_there g =
      let none = by_pairs g.p g.q g.first g.second g.comes in
      ((none.0, g.before_ready none.0), (none.1, g.after_ready none.1))
    where
      by_pairs : (x y : Option Pair) → FirstPair before.leaf x → FirstPair after.leaf y →
          ComesTo x y ways.End → (before.leaf ≡ []) × (after.leaf ≡ [])
      by_pairs None None first second comes = (first, second)
      by_pairs None (Some y) first second comes = cc
      by_pairs (Some x) None first second comes = cc
      by_pairs (Some x) (Some y) first second comes = absurd comes
