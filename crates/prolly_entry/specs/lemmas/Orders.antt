-- The order of keys.
use Rattle.std.proofs.Common.{◌≡◌, ℕ, true, false, List, Ordering, refl, sym, ap, ◌∙◌}
use Rattle.std.proofs.lemmas.Bool.{false≢true}
use Rattle.std.proofs.lemmas.Cmp.{nat_list_cmp_total, tied_itself}
use Rattle.std.proofs.lemmas.Map.Lookups.{exact_bytes}
use Rattle.std.specs.declared.cmp.Ordering.TheVariants.{Less, Equal, Greater}
use Rattle.std.specs.Ordering.{is_eq, ordering_reverse}
use Rattle.prolly_entry.specs.Keys.{key_order, KeyBelow}

-- The order of two keys is that of the same two the other way round, turned round.
pub order_back : (x y : List ℕ) → key_order x y ≡ ordering_reverse (key_order y x)
order_back x y = nat_list_cmp_total.antisymm x y

-- A key below one that is below a third is below the third.
pub order_trans : (x y z : List ℕ) → KeyBelow x y → KeyBelow y z → KeyBelow x z
order_trans x y z h k = nat_list_cmp_total.trans x y z h k

-- A key is equal to itself.
pub order_self : (x : List ℕ) → key_order x x ≡ Equal
order_self x = tied_itself nat_list_cmp_total x

-- Keys that compare as equal are the same.
pub order_same : (x y : List ℕ) → key_order x y ≡ Equal → x ≡ y
order_same x y h = exact_bytes x y h

-- Where a key is greater than another, the other is below it.
pub greater_below : (x y : List ℕ) → key_order x y ≡ Greater → KeyBelow y x
greater_below x y h = order_back y x ∙ ap ordering_reverse h

-- Where a key is below another, the other is greater.
pub below_greater : (x y : List ℕ) → KeyBelow x y → key_order y x ≡ Greater
below_greater x y h = order_back y x ∙ ap ordering_reverse h

-- A key is not equal to one above it.
pub not_eq_below : (x y : List ℕ) → KeyBelow x y → is_eq (key_order x y) ≡ false
not_eq_below x y h = ap is_eq h

-- A key is not equal to one below it.
pub not_eq_above : (x y : List ℕ) → KeyBelow x y → is_eq (key_order y x) ≡ false
not_eq_above x y h = ap is_eq (below_greater x y h)

-- No key is below itself.
pub less_self : (x : List ℕ) → KeyBelow x x → ⊥
less_self x h = less_equal (sym h ∙ order_self x)
  where
    less_equal : Less ≡ Equal → ⊥
    less_equal e = cc

-- What is tested to be equal is equal.
pub eq_true : (o : Ordering) → is_eq o ≡ true → o ≡ Equal
eq_true Less h = absurd (false≢true h)
eq_true Equal h = refl
eq_true Greater h = absurd (false≢true h)
