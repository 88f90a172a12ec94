-- Keys and records, where inputs are merged.
use Rattle.std.proofs.Common.{◌≡◌, ℕ, List, false, Ordering, refl, sym, ap, ◌∙◌}
use Rattle.std.proofs.lemmas.Bool.{false≢true}
use Rattle.std.specs.declared.cmp.Ordering.TheVariants.{Less, Equal, Greater}
use Rattle.std.specs.Ordering.{is_lt, is_eq}
use Rattle.prolly_entry.specs.Keys.{key_order, KeyBelow}
use Rattle.prolly_entry.specs.lemmas.Orders.{greater_below}

-- A key that is neither below another nor equal to it is above it.
pub not_below_above : (x y : List ℕ) → is_lt (key_order x y) ≡ false →
    is_eq (key_order x y) ≡ false → KeyBelow y x
not_below_above x y h k = go (key_order x y) refl
  where
    go : (o : Ordering) → key_order x y ≡ o → KeyBelow y x
    go Less e = absurd (false≢true (sym h ∙ ap is_lt e))
    go Equal e = absurd (false≢true (sym k ∙ ap is_eq e))
    go Greater e = greater_below x y e
