-- What the writer takes of a list of events.
use Rattle.std.proofs.Common.{◌≡◌, ℕ, zero, suc, Bool, true, false, cond, List, [], ◌∷◌, ◌++◌, refl}
use Rattle.std.proofs.Common.{sym, ap, subst}
use Rattle.prolly_tree.specs.Chunk.{Chunk}
use Rattle.prolly_tree.specs.Events.{has_level}
use Rattle.prolly_tree.specs.Pipeline.{before_first, before_second, WriterTakesPrefix}
use Rattle.prolly_entry.specs.Prefix.{IsPrefix}

pub cons_front : {A : Type 0} (x : A) (a b : List A) → IsPrefix a b → IsPrefix (x ∷ a) (x ∷ b)
cons_front x a b h = (h.0, ap (λ z. x ∷ z) h.1)

module _ (level : ℕ) where
  first_front : (a b : List Chunk) → IsPrefix (before_first level a) (before_first level (a ++ b))
  first_front [] b = (before_first level b, refl)
  first_front (e ∷ a) b = go (has_level level e) (first_front a b)
    where
      go : (t : Bool) → IsPrefix (before_first level a) (before_first level (a ++ b)) →
          IsPrefix (cond t [] (e ∷ before_first level a))
          (cond t [] (e ∷ before_first level (a ++ b)))
      go true h = ([], refl)
      go false h = cons_front e (before_first level a) (before_first level (a ++ b)) h

  second_front : (a b : List Chunk) → IsPrefix (before_second level a)
      (before_second level (a ++ b))
  second_front [] b = (before_second level b, refl)
  second_front (e ∷ a) b = go (has_level level e) (second_front a b)
    where
      go : (t : Bool) → IsPrefix (before_second level a) (before_second level (a ++ b)) →
          IsPrefix (e ∷ cond t (before_first level a) (before_second level a))
          (e ∷ cond t (before_first level (a ++ b)) (before_second level (a ++ b)))
      go true h = cons_front e (before_first level a) (before_first level (a ++ b))
          (first_front a b)
      go false h = cons_front e (before_second level a) (before_second level (a ++ b)) h

  first_of : (a : List Chunk) → IsPrefix (before_first level a) a
  first_of [] = ([], refl)
  first_of (e ∷ a) = go (has_level level e) (first_of a)
    where
      go : (t : Bool) → IsPrefix (before_first level a) a →
          IsPrefix (cond t [] (e ∷ before_first level a)) (e ∷ a)
      go true h = (e ∷ a, refl)
      go false h = cons_front e (before_first level a) a h

  second_of : (a : List Chunk) → IsPrefix (before_second level a) a
  second_of [] = ([], refl)
  second_of (e ∷ a) = go (has_level level e) (second_of a)
    where
      go : (t : Bool) → IsPrefix (before_second level a) a →
          IsPrefix (e ∷ cond t (before_first level a) (before_second level a)) (e ∷ a)
      go true h = cons_front e (before_first level a) a (first_of a)
      go false h = cons_front e (before_second level a) a h

pub within_is_prefix : WriterTakesPrefix
within_is_prefix zero front list h = (h, ([], sym (nil_behind list)))
  where
    nil_behind : (xs : List Chunk) → xs ++ [] ≡ xs
    nil_behind [] = refl
    nil_behind (x ∷ xs) = ap (λ z. x ∷ z) (nil_behind xs)
within_is_prefix (suc level) front list h = (
  subst (λ xs. IsPrefix (before_second level front) (before_second level xs)) (sym h.1)
      (second_front level front h.0),
  second_of level list,
)
