-- What a step of the walk comes to.
use Rattle.std.proofs.Common.{◌≡◌, ℕ, List, [], ◌∷◌, Option, Some, None, refl, sym}
use Rattle.std.proofs.Common.{ap, ◌∙◌, subst, Bor}
use Rattle.std.specs.Prelude.{MatchOption}
use Rattle.std.specs.Option.{option_map}
use Rattle.std.specs.declared.cmp.Ordering.TheVariants.{Less, Equal, Greater}
use Rattle.prolly_entry.specs.Pair.{Pair}
use Rattle.prolly_entry.specs.lemmas.Orders.{greater_below, order_same}
use Rattle.prolly_tree.specs.Difference.{IsMap}
use Rattle.prolly_tree.specs.lemmas.Maps.{Above, above_first}
use Rattle.prolly_diff.specs.Sides.{StartsWith, IsOrder}
use Rattle.prolly_tree.specs.Walks.{TakesLeast}

-- What is said of a value's image is said of the value.
pub mapped : {A B : Type 0} (f : A → B) (X : Type 0) (Y : B → Type 0) (o : Option A) →
    MatchOption o X (λ a. Y (f a)) → MatchOption (option_map f o) X Y
mapped f X Y None h = h
mapped f X Y (Some a) h = h

-- The pair of a key and a value that are lent.
abbrev pub pair_of : Bor (List ℕ) × Bor (List ℕ) → Pair
pair_of p = record { key = p.0.now; value = p.1.now }

-- What a look at a list shows.
abbrev pub Shows : List Pair → Option Pair → Type 0
Shows xs seen = MatchOption seen (xs ≡ []) (λ p. StartsWith p xs)

-- What is taken from a list, and what is left of it.
abbrev pub Gives : List Pair → Option Pair → List Pair → Type 0
Gives xs taken left = MatchOption taken ((xs ≡ []) × (left ≡ [])) (λ p. xs ≡ p ∷ left)

abbrev key_first : List Pair → List ℕ
key_first [] = []
key_first (p ∷ ps) = p.key

-- Of a list that shows a pair, one with its key is taken.
none_taken : (xs left : List Pair) (p : Pair) → StartsWith p xs → xs ≡ [] → ⊥
none_taken xs left p h e = go (sym h.1 ∙ e)
  where
    go : p ∷ h.0 ≡ [] → ⊥
    go f = cc

same_key : (xs left : List Pair) (p q : Pair) → StartsWith p xs → xs ≡ q ∷ left → p.key ≡ q.key
same_key xs left p q h e = ap key_first (sym h.1 ∙ e)

-- A pair that comes first is below the other map.
below_other : (p : Pair) (ys : List Pair) (b : Option Pair) → Shows ys b →
    IsOrder (Some p) b Less → IsMap ys → Above p.key ys
below_other p ys None hb ho m = subst (λ zs. Above p.key zs) (sym hb) tt
below_other p ys (Some q) hb ho m = subst (λ zs. Above p.key zs) (sym hb.1)
    (above_first p.key (q ∷ hb.0) (subst IsMap hb.1 m) (sym ho))

below_first : (q : Pair) (xs : List Pair) (a : Option Pair) → Shows xs a →
    IsOrder a (Some q) Greater → IsMap xs → Above q.key xs
below_first q xs None ha ho m = subst (λ zs. Above q.key zs) (sym ha) tt
below_first q xs (Some p) ha ho m = subst (λ zs. Above q.key zs) (sym ha.1)
    (above_first q.key (p ∷ ha.0) (subst IsMap ha.1 m)
    (greater_below p.key q.key (sym ho)))

pub takes_before : (xs ys left : List Pair) (a b t : Option Pair) → Shows xs a → Shows ys b →
    IsOrder a b Less → Gives xs t left → IsMap ys →
    TakesLeast (record { before = xs; after = ys }) t None (record { before = left; after = ys })
takes_before xs ys left None b t ha hb ho ht m = cc
takes_before xs ys left (Some p) b None ha hb ho ht m = absurd (none_taken xs left p ha ht.0)
takes_before xs ys left (Some p) b (Some q) ha hb ho ht m =
    (ht, refl, subst (λ k. Above k ys) (same_key xs left p q ha ht) (below_other p ys b hb ho m))

pub takes_after : (xs ys left : List Pair) (a b t : Option Pair) → Shows xs a → Shows ys b →
    IsOrder a b Greater → Gives ys t left → IsMap xs →
    TakesLeast (record { before = xs; after = ys }) None t (record { before = xs; after = left })
takes_after xs ys left None b None ha hb ho ht m = (ha, ht.0, ha, ht.1)
takes_after xs ys left (Some p) None None ha hb ho ht m = cc
takes_after xs ys left (Some p) (Some q) None ha hb ho ht m = absurd (none_taken ys left q hb ht.0)
takes_after xs ys left a None (Some r) ha hb ho ht m = absurd (none_taken ys left r (left, ht) hb)
takes_after xs ys left a (Some q) (Some r) ha hb ho ht m =
    (refl, ht, subst (λ k. Above k xs) (same_key ys left q r hb ht) (below_first q xs a ha ho m))

pub takes_both : (xs ys left left' : List Pair) (a b t u : Option Pair) → Shows xs a →
    Shows ys b → IsOrder a b Equal → Gives xs t left → Gives ys u left' →
    TakesLeast (record { before = xs; after = ys }) t u
    (record { before = left; after = left' })
takes_both xs ys left left' None b t u ha hb ho ht hu = cc
takes_both xs ys left left' (Some p) None t u ha hb ho ht hu = cc
takes_both xs ys left left' (Some p) (Some q) None u ha hb ho ht hu =
    absurd (none_taken xs left p ha ht.0)
takes_both xs ys left left' (Some p) (Some q) (Some r) None ha hb ho ht hu =
    absurd (none_taken ys left' q hb hu.0)
takes_both xs ys left left' (Some p) (Some q) (Some r) (Some s) ha hb ho ht hu = (
  ht,
  hu,
  sym (same_key xs left p r ha ht) ∙ order_same p.key q.key (sym ho) ∙
      same_key ys left' q s hb hu,
)
