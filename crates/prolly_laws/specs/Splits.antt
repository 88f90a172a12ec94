-- How a list is split into groups.
use Rattle.std.proofs.Common.{◌≡◌, ℕ, Bool, List, ◌++◌}
use Rattle.prolly_tree.specs.Split.{split, closed_groups, open_groups, IsSplit, OneSplit, FewGroups}
use Rattle.prolly_tree.specs.Split.{SplitStep, SplitGoesOn}
use Rattle.prolly_tree.specs.lemmas.Splits.{flat, as_group, Open, AllEnd, Parts}
use Rattle.prolly_tree.proofs.splits.Behind as behind
use Rattle.prolly_tree.proofs.splits.Parts as proved
use Rattle.prolly_tree.proofs.splits.Splits as splits
use Rattle.prolly_tree.proofs.stages.Steps as steps

-- Each list has parts.
pub parts : {A : Type 0} (test : A → Bool) (least : ℕ) (xs : List A) → Parts test least 0 xs
parts = proved.parts

-- Their rest is open.
pub open_rest_of : {A : Type 0} (test : A → Bool) (least : ℕ) (xs : List A)
    (p : Parts test least 0 xs) →
    Open test least 0 p.rest
open_rest_of = proved.open_rest_of

-- The split of parts is these parts.
pub split_parts : {A : Type 0} (test : A → Bool) (least : ℕ) (gs : List (List A)) (rest : List A) →
    AllEnd test least 0 gs → Open test least 0 rest →
    split test least (flat gs ++ rest) ≡ gs ++ as_group rest
split_parts = proved.split_parts

-- Their groups are the closed ones.
pub closed_parts : {A : Type 0} (test : A → Bool) (least : ℕ) (gs : List (List A)) (rest : List A) →
    AllEnd test least 0 gs → Open test least 0 rest → closed_groups test least (flat gs ++ rest) ≡
    gs
closed_parts = proved.closed_parts

-- Their rest is the open one.
pub open_parts : {A : Type 0} (test : A → Bool) (least : ℕ) (gs : List (List A)) (rest : List A) →
    AllEnd test least 0 gs → Open test least 0 rest →
    open_groups test least (flat gs ++ rest) ≡ as_group rest
open_parts = proved.open_parts

-- Groups with a rest behind them are the same list as the groups and the rest.
pub flat_parts : {A : Type 0} (gs : List (List A)) (rest : List A) →
    flat (gs ++ as_group rest) ≡ flat gs ++ rest
flat_parts = splits.flat_parts

-- The split of a list is one.
pub split_splits : {A : Type 0} (test : A → Bool) (least : ℕ) (list : List A) →
    IsSplit test least list (split test least list)
split_splits = splits.split_splits

-- A list has one split.
pub one_split : {A : Type 0} (test : A → Bool) (least : ℕ) (list : List A) →
    OneSplit test least list
one_split = splits.one_split

-- Groups of two entries or more are few.
pub few_groups : {A : Type 0} (test : A → Bool) (list : List A) → FewGroups test list
few_groups = splits.few_groups

-- A split goes on entry by entry.
pub split_step : {A : Type 0} (test : A → Bool) (least : ℕ) (list : List A) (x : A) →
    SplitStep test least list x
split_step = steps.split_step

-- Behind a list a split goes on from the list's open group.
pub split_goes_on : {A : Type 0} (test : A → Bool) (least : ℕ) (xs ys : List A) →
    SplitGoesOn test least xs ys
split_goes_on = behind.split_goes_on
