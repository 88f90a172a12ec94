-- How a list is split into groups.
use Rattle.std.proofs.Common.{◌≡◌, ℕ, suc, Bool, true, false, ◌&&◌, nat_le, List, [], ◌∷◌, ◌++◌}
use Rattle.std.specs.List.{flat_map}

-- The groups, one after another.
abbrev pub flat : {A : Type 0} → List (List A) → List A
flat groups = flat_map (λ group. group) groups

-- The rest as a group, where it has entries.
abbrev pub as_group : {A : Type 0} → List A → List (List A)
as_group [] = []
as_group (x ∷ xs) = (x ∷ xs) ∷ []

-- An entry that closes a group of `before` entries.
abbrev pub closes : {A : Type 0} → (A → Bool) → ℕ → ℕ → A → Bool
closes test least before x = nat_le least (suc before) && test x

-- No entry closes the group that they go on.
abbrev pub Open : {A : Type 0} → (A → Bool) → ℕ → ℕ → List A → Type 0
Open test least before [] = Unit {0}
Open test least before (x ∷ xs) = (closes test least before x ≡ false) ×
    Open test least (suc before) xs

-- The last entry closes the group, and none before it does.
abbrev pub Ends : {A : Type 0} → (A → Bool) → ℕ → ℕ → List A → Type 0
Ends test least before [] = ⊥
Ends test least before (x ∷ []) = closes test least before x ≡ true
Ends test least before (x ∷ y ∷ ys) = (closes test least before x ≡ false) ×
    Ends test least (suc before) (y ∷ ys)

-- Each of the groups ends so.
abbrev pub AllEnd : {A : Type 0} → (A → Bool) → ℕ → ℕ → List (List A) → Type 0
AllEnd test least before [] = Unit {0}
AllEnd test least before (g ∷ gs) = Ends test least before g × AllEnd test least 0 gs

-- What follows the groups is open.
abbrev pub OpenAfter : {A : Type 0} → (A → Bool) → ℕ → ℕ → List (List A) → List A → Type 0
OpenAfter test least before [] rest = Open test least before rest
OpenAfter test least before (g ∷ gs) rest = Open test least 0 rest

-- A list as its closed groups and an open rest.
pub record Parts {A : Type 0} (test : A → Bool) (least before : ℕ) (list : List A) : Type 0 where
  pub groups : List (List A)
  pub rest : List A
  pub whole : flat groups ++ rest ≡ list
  pub ends : AllEnd test least before groups
  pub «open» : OpenAfter test least before groups rest
