-- What is so of each value is so of one that may be there, and of all of a list.
use Rattle.std.specs.Prelude.{List, [], ◌∷◌, Option, Some, None, IfSome}
use Rattle.std.specs.List.{AllByRecursion}

pub all_given : {T : Type 0} (given : Option T) (P : T → Type 0) → ((value : T) → P value) →
    IfSome given P
all_given None P all = tt
all_given (Some value) P all = all value

pub all_listed : {T : Type 0} (values : List T) (P : T → Type 0) → ((value : T) → P value) →
    AllByRecursion P values
all_listed [] P all = tt
all_listed (value ∷ values) P all = (all value, all_listed values P all)
