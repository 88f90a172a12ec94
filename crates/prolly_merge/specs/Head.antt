-- The heads of inputs: what each of them gave last.
use Rattle.std.specs.Prelude.{◌≡◌, ℕ, Bool, true, false, List, [], ◌∷◌, ◌⊎◌, Option, Some, None}
use Rattle.std.specs.List.{AllByRecursion}
use Rattle.std.specs.Ordering.{is_lt, is_eq}
use Rattle.prolly_entry.specs.Record.{Record}
use Rattle.prolly_entry.specs.Keys.{key_order}
use Rattle.prolly_tree.specs.Merge.{Input}
use Rattle.prolly_link.specs.Progress.{HasEnded, end_given}
use Rattle.prolly_link.specs.declared.message.End.{End}
use Rattle.prolly_link.specs.declared.message.Progress.{Progress}
use Rattle.prolly_link.specs.declared.message.End.TheVariants.{Clean, Fault}
use Rattle.prolly_link.specs.declared.fault.RunFault.{RunFault}
use Rattle.prolly_merge.specs.Inputs.{input_of}
use Rattle.prolly_merge.specs.declared.heads.Head.{Head}
use Rattle.prolly_merge.specs.declared.heads.Head.TheVariants.{Ready, Ended}

-- The records of a head: one or none.
abbrev pub in_hand : Head → List Record
in_hand (Ready r) = r ∷ []
in_hand (Ended e) = []

-- The record of a head; none of an end.
abbrev pub record_in : Head → Option Record
record_in (Ready r) = Some r
record_in (Ended e) = None

-- A head that is an end is the end that its input gave.
abbrev pub IsHeld : Head → Progress → Type 0
IsHeld (Ready r) progress = Unit {0}
IsHeld (Ended e) progress = HasEnded progress × (e ≡ end_given progress)

-- What an input may still give behind its head: after an end nothing, and that end.
abbrev pub Fits : Head → Input RunFault → Type 0
Fits (Ready r) more = Unit {0}
Fits (Ended e) more = more ≡ input_of [] e

-- A record of the key may be sent: the head is not below the key, or it is a clean end.
abbrev pub Allows : List ℕ → Head → Type 0
Allows key (Ready r) = is_lt (key_order r.key key) ≡ false
Allows key (Ended e) = e ≡ Clean

-- The head has the key.
abbrev pub has_key : List ℕ → Head → Bool
has_key key (Ready r) = is_eq (key_order r.key key)
has_key key (Ended e) = false

-- An input that moves on gives its next head, and one that does not keeps its own.
abbrev pub MovesIf : Bool → Head → List Record → Head → Type 0
MovesIf true head got head' = got ≡ in_hand head'
MovesIf false head got head' = (got ≡ []) × (head' ≡ head)

-- Where the record of a key is sent, the inputs that have the key move on.
abbrev pub Moves : List ℕ → Head → List Record → Head → Type 0
Moves key head got head' = MovesIf (has_key key head) head got head'

-- The first fault among the heads is the end.
abbrev pub IsFaultIn : List Head → End → Type 0
IsFaultIn [] end = ⊥
IsFaultIn (Ready r ∷ heads) end = IsFaultIn heads end
IsFaultIn (Ended Clean ∷ heads) end = IsFaultIn heads end
IsFaultIn (Ended (Fault f) ∷ heads) end = end ≡ Fault f

-- A merger stops with the first fault among the heads, or where all of them are clean ends.
abbrev pub Stops : List Head → End → Type 0
Stops heads end = IsFaultIn heads end ⊎ ((end ≡ Clean) ×
    AllByRecursion (λ h. h ≡ Ended Clean) heads)
