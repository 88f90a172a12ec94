-- Taking the pairs in hand of the least key, and what that tells of the maps.
use Rattle.std.proofs.Common.{◌≡◌, ℕ, ◌<◌, List, [], ◌∷◌, ◌++◌, map}
use Rattle.std.proofs.Common.{Option, None, Some, refl, sym, ap, ◌∙◌, subst, length}
use Rattle.std.proofs.Common.{arith}
use Rattle.prolly_entry.specs.Pair.{Pair}
use Rattle.prolly_entry.specs.declared.version.Version.{Version}
use Rattle.prolly_entry.specs.lemmas.Lists.{head_is, no_cons}
use Rattle.prolly_tree.specs.Difference.{IsMap}
use Rattle.prolly_tree.specs.Tree.{LeveledTree}
use Rattle.prolly_tree.specs.lemmas.Maps.{Above, FirstAbove, above_first}
use Rattle.prolly_tree.specs.Walks.{AreMaps, Maps, TakesLeast}
use Rattle.prolly_root_diff.specs.Left.{IsLeft, Left, pairs_of, tops_of}
use Rattle.prolly_root_diff.specs.Walks.{ComesTo, FirstPair, GoesByPairs, IsReady, Lefts, Takes}
use Rattle.prolly_root_diff.specs.Walks.{TakesChange}
use Rattle.prolly_root_diff.specs.declared.change.RootChange.TheVariants.{Added, Removed}
use Rattle.prolly_root_diff.specs.declared.onward.Onward.{Onward}
use Rattle.prolly_root_diff.specs.declared.onward.Onward.TheVariants as ways
use Rattle.prolly_root_diff.specs.ToGo.{to_go, weights}

-- ---- in the map

-- what is left after the first pair in hand
record Behind (version : Version) (cs : List (List ℕ)) (pairs : List Pair) (p : Pair) (new : Left)
    : Type 0 where
  pub rest : List Pair
  pub are : pairs ≡ p ∷ rest
  pub left : IsLeft version cs rest new

module _ (version : Version) (cs : List (List ℕ)) (pairs : List Pair) (old : Left)
    (left : IsLeft version cs pairs old) where
  behind : (p : Pair) (new : Left) → Takes old p new → Behind version cs pairs p new
  behind p new t = record {
    rest = new.pairs ++ pairs_of left.trees;
    are = left.are ∙ ap (λ ps. ps ++ pairs_of left.trees) t.0;
    left = record {
      trees = left.trees;
      each = left.each;
      named = left.named ∙ ap (map (λ d. d.reference)) (sym t.1);
      are = refl;
    };
  }

  -- where nothing is in hand nor due, nothing is left
  pub nothing : old.pairs ≡ [] → IsReady old → pairs ≡ []
  nothing none ready = left.are ∙ ap (λ ps. ps ++ pairs_of left.trees) none ∙
      ap pairs_of (no_trees left.trees (left.named ∙ ap (map (λ d. d.reference)) (ready none)))
    where
      no_trees : (trees : List LeveledTree) → tops_of version trees ≡ [] → trees ≡ []
      no_trees [] e = refl
      no_trees (t ∷ trees) e = cc

  all_above : (key : List ℕ) → FirstAbove key old.pairs → IsReady old → IsMap pairs →
      Above key pairs
  all_above key first ready m = go old.pairs refl first
    where
      go : (ps : List Pair) → old.pairs ≡ ps → FirstAbove key ps → Above key pairs
      go [] e f = subst (Above key) (sym (nothing e ready)) tt
      go (p ∷ ps) e f =
          let are : pairs ≡ p ∷ (ps ++ pairs_of left.trees) =
          left.are ∙ ap (λ ps. ps ++ pairs_of left.trees) e in
          subst (Above key) (sym are) (above_first key (p ∷ (ps ++ pairs_of left.trees))
          (subst IsMap are m) f)

-- ---- the first pairs

-- of pairs of which this is the first it is told
first_is : (pairs : List Pair) (x : Option Pair) (p : Pair) (rest : List Pair) →
    FirstPair pairs x → pairs ≡ p ∷ rest → x ≡ Some p
first_is pairs None p rest first is = no_cons p rest (sym is ∙ first)
first_is pairs (Some y) p rest first is = ap Some (head_is y p first.0 rest (sym first.1 ∙ is))

module _ (before after : Left) where
  -- where both were taken, it goes on from these two
  pub both_come : (way : Onward) → GoesByPairs before after way → (p q : Pair) (new new' : Left) →
      Takes before p new → Takes after q new' → ComesTo (Some p) (Some q) way
  both_come way g p q new new' t t' =
      subst (λ x. ComesTo x (Some q) way) (first_is before.pairs g.p p new.pairs g.first t.0)
      (subst (λ y. ComesTo g.p y way) (first_is after.pairs g.q q new'.pairs g.second t'.0) g.comes)

  above_removed : GoesByPairs before after ways.Removed → (p : Pair) (new : Left) →
      Takes before p new → FirstAbove p.key after.pairs
  above_removed g p new t = above g.q g.second (subst (λ x. ComesTo x g.q ways.Removed)
      (first_is before.pairs g.p p new.pairs g.first t.0) g.comes)
    where
      above : (y : Option Pair) → FirstPair after.pairs y → ComesTo (Some p) y ways.Removed →
          FirstAbove p.key after.pairs
      above None second comes = subst (FirstAbove p.key) (sym second) tt
      above (Some y) second comes = subst (FirstAbove p.key) (sym second.1) comes

  above_added : GoesByPairs before after ways.Added → (q : Pair) (new : Left) →
      Takes after q new → FirstAbove q.key before.pairs
  above_added g q new t = above g.p g.first (subst (λ y. ComesTo g.p y ways.Added)
      (first_is after.pairs g.q q new.pairs g.second t.0) g.comes)
    where
      above : (x : Option Pair) → FirstPair before.pairs x → ComesTo x (Some q) ways.Added →
          FirstAbove q.key before.pairs
      above None first comes = subst (FirstAbove q.key) (sym first) tt
      above (Some x) first comes = subst (FirstAbove q.key) (sym first.1) comes

-- ---- in both trees

-- the pairs in hand of the least key were taken
abbrev pub TakesFirst : Lefts → Option Pair → Option Pair → Lefts → Type 0
TakesFirst old None None new = (old.before.pairs ≡ []) × (old.after.pairs ≡ [])
TakesFirst old (Some p) None new = Takes old.before p new.before × (new.after ≡ old.after) ×
    FirstAbove p.key old.after.pairs
TakesFirst old None (Some q) new = Takes old.after q new.after × (new.before ≡ old.before) ×
    FirstAbove q.key old.before.pairs
TakesFirst old (Some p) (Some q) new = Takes old.before p new.before × Takes old.after q new.after ×
    (p.key ≡ q.key)

pub removes_first : (old new : Lefts) (p : Pair) → TakesChange old (Removed p) new →
    TakesFirst old (Some p) None new
removes_first old new p t =
    (t.0, t.1, above_removed old.before old.after t.2 p new.before t.0)

pub adds_first : (old new : Lefts) (q : Pair) → TakesChange old (Added q) new →
    TakesFirst old None (Some q) new
adds_first old new q t = (t.0, t.1, above_added old.before old.after t.2 q new.after t.0)

-- these maps are left of the trees with these chunks
abbrev pub AreLeft : Version → List (List ℕ) → List (List ℕ) → Maps → Lefts → Type 0
AreLeft version cs ds maps lefts =
    IsLeft version cs maps.before lefts.before × IsLeft version ds maps.after lefts.after

-- the pairs of the least key of both maps were taken
pub record LeastThere (version : Version) (cs ds : List (List ℕ)) (maps : Maps) (r s : Option Pair)
    (new : Lefts) : Type 0 where
  pub rest : Maps
  pub takes : TakesLeast maps r s rest
  pub left : AreLeft version cs ds rest new

module _ (version : Version) (old new : Lefts) (ready : IsReady old.before × IsReady old.after)
    (cs ds : List (List ℕ)) (maps : Maps) (m : AreMaps maps)
    (left : AreLeft version cs ds maps old) where
  pub least_there : (r s : Option Pair) → TakesFirst old r s new →
      (r ≡ None → s ≡ None → ⊥) → LeastThere version cs ds maps r s new
  least_there None None t some = absurd (some refl refl)
  least_there (Some p) None t some =
      let b = behind version cs maps.before old.before left.0 p new.before t.0 in record {
        rest = record { before = b.rest; after = maps.after };
        takes = (
          b.are,
          refl,
          all_above version ds maps.after old.after left.1 p.key t.2 ready.1
              m.1,
        );
        left = (b.left, subst (IsLeft version ds maps.after) (sym t.1) left.1);
      }
  least_there None (Some q) t some =
      let a = behind version ds maps.after old.after left.1 q new.after t.0 in record {
        rest = record { before = maps.before; after = a.rest };
        takes = (
          refl,
          a.are,
          all_above version cs maps.before old.before left.0 q.key t.2 ready.0
              m.0,
        );
        left = (subst (IsLeft version cs maps.before) (sym t.1) left.0, a.left);
      }
  least_there (Some p) (Some q) t some =
      let b = behind version cs maps.before old.before left.0 p new.before t.0 in
      let a = behind version ds maps.after old.after left.1 q new.after t.1 in
      record {
        rest = record { before = b.rest; after = a.rest };
        takes = (b.are, a.are, t.2);
        left = (b.left, a.left);
      }

-- a pair less is to go
pub takes_lighter : (old : Left) (p : Pair) (new : Left) → Takes old p new → to_go new < to_go old
takes_lighter old p new t =
    let e = ap length t.0 in
    let f = ap weights t.1 in
    omega arith
