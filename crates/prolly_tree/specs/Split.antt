-- How a list of entries is cut into groups. (The idea is that of the Noms documentation; `least` is
-- this project's.) An entry may be of any type, and a test says which entries are boundaries.
use Rattle.std.specs.Prelude.{◌≡◌, ℕ, suc, ◌+◌, ◌*◌, ◌<◌, ◌≤◌, Bool, true, false, not, ◌&&◌, nat_le}
use Rattle.std.specs.Prelude.{List, [], ◌∷◌, ◌++◌, length, if◌then◌else◌}
use Rattle.std.specs.List.{flat_map, filter, AllByRecursion}

-- The last entry is a boundary; a list without entries has no last one.
abbrev pub last_passes : {A : Type 0} → (A → Bool) → List A → Bool
last_passes test [] = false
last_passes test (x ∷ []) = test x
last_passes test (x ∷ y ∷ ys) = last_passes test (y ∷ ys)

-- A group is closed where it ends with a boundary and has `least` entries or more.
abbrev pub is_closed : {A : Type 0} → (A → Bool) → ℕ → List A → Bool
is_closed test least group = nat_le least (length group) && last_passes test group

-- Each element but the last one is such.
abbrev pub AllButLast : {A : Type 0} → (A → Type 0) → List A → Type 0
AllButLast P [] = Unit {0}
AllButLast P (x ∷ []) = Unit {0}
AllButLast P (x ∷ y ∷ ys) = P x × AllButLast P (y ∷ ys)

-- No boundary stands at place `least` or later, counted from 1, before the group's last place.
abbrev pub NoneEarlier : {A : Type 0} → (A → Bool) → ℕ → List A → Type 0
NoneEarlier {A} test least group = (front : List A) (x y : A) (rest : List A) →
    group ≡ front ++ x ∷ y ∷ rest → least ≤ suc (length front) → test x ≡ false

-- The groups are a split of the list.
pub record IsSplit {A : Type 0} (test : A → Bool) (least : ℕ) (list : List A)
    (groups : List (List A)) : Type 0 where
  -- the groups, one after another, are the list
  pub whole : flat_map (λ group. group) groups ≡ list
  pub nonempty : AllByRecursion (λ group. 0 < length group) groups
  -- each group but the last ends with a boundary and has `least` entries or more
  pub closed : AllButLast (λ group. is_closed test least group ≡ true) groups
  pub none_earlier : AllByRecursion (NoneEarlier test least) groups

-- ---- The same as a list that computes.

-- The groups with an element in front of the first one's; where there is no group, it is one alone.
abbrev pub in_front : {A : Type 0} → A → List (List A) → List (List A)
in_front x [] = (x ∷ []) ∷ []
in_front x (group ∷ groups) = (x ∷ group) ∷ groups

-- The groups of a list whose first group has `before` entries in front of it already.
abbrev pub split_after : {A : Type 0} → (A → Bool) → ℕ → ℕ → List A → List (List A)
split_after test least before [] = []
split_after test least before (x ∷ xs) = elim (nat_le least (suc before) && test x) [
  | true ↦ (x ∷ []) ∷ split_after test least 0 xs
  | false ↦ in_front x (split_after test least (suc before) xs)
]

-- The split of a list.
unfoldable pub split : {A : Type 0} → (A → Bool) → ℕ → List A → List (List A)
split test least list = split_after test least 0 list

-- Law: a list has one split, and it is that one.
abbrev pub OneSplit : {A : Type 0} → (A → Bool) → ℕ → List A → Type 0
OneSplit {A} test least list = IsSplit test least list (split test least list)
    × ((groups : List (List A)) → IsSplit test least list groups → groups ≡ split test least list)

-- Law: with `least` 2, n entries have at most (n + 1) / 2 groups.
abbrev pub FewGroups : {A : Type 0} → (A → Bool) → List A → Type 0
FewGroups test list = 2 * length (split test 2 list) ≤ length list + 1

-- ---- Closed and open groups.

-- The closed groups of the split.
abbrev pub closed_groups : {A : Type 0} → (A → Bool) → ℕ → List A → List (List A)
closed_groups test least list = filter (is_closed test least) (split test least list)

-- The last group, where it is not closed.
abbrev pub open_groups : {A : Type 0} → (A → Bool) → ℕ → List A → List (List A)
open_groups test least list = filter (λ group. not (is_closed test least group))
    (split test least list)

-- The entries of that group.
abbrev pub open_entries : {A : Type 0} → (A → Bool) → ℕ → List A → List A
open_entries test least list = flat_map (λ group. group) (open_groups test least list)

-- Law: one entry more goes to the open group, and may close it.
abbrev pub SplitStep : {A : Type 0} → (A → Bool) → ℕ → List A → A → Type 0
SplitStep test least list x =
    let group = open_entries test least list ++ x ∷ [] in
    (closed_groups test least (list ++ x ∷ []) ≡ closed_groups test least list ++
    (if is_closed test least group then group ∷ [] else []))
    × (open_entries test least (list ++ x ∷ []) ≡
    (if is_closed test least group then [] else group))

-- Law: behind a list a split goes on as that of the list's open group and what is behind it.
abbrev pub SplitGoesOn : {A : Type 0} → (A → Bool) → ℕ → List A → List A → Type 0
SplitGoesOn test least xs ys =
    let more = open_entries test least xs ++ ys in
    (split test least (xs ++ ys) ≡ closed_groups test least xs ++ split test least more)
    × (closed_groups test least (xs ++ ys) ≡ closed_groups test least xs ++
    closed_groups test least more)
    × (open_entries test least (xs ++ ys) ≡ open_entries test least more)
