-- What the inputs of a merger gave, as the inputs that a merged part is made of.
use Rattle.std.specs.Prelude.{◌≡◌, List, [], ◌∷◌, map, Option, Some, None}
use Rattle.prolly_entry.specs.Record.{Record}
use Rattle.prolly_tree.specs.Merge.{Input, stop, stop_fault}
use Rattle.prolly_link.specs.Identity.{LinkId}
use Rattle.prolly_link.specs.Progress.{HasEnded, end_given}
use Rattle.prolly_link.specs.declared.message.End.{End}
use Rattle.prolly_link.specs.declared.message.Progress.{Progress}
use Rattle.prolly_link.specs.declared.message.End.TheVariants.{Clean, Fault}
use Rattle.prolly_link.specs.declared.fault.RunFault.{RunFault}

-- The fault of an end.
abbrev pub fault_in : End → Option RunFault
fault_in Clean = None
fault_in (Fault f) = Some f

-- The end with a fault, or the clean one.
abbrev pub end_of : Option RunFault → End
end_of None = Clean
end_of (Some f) = Fault f

-- The input that gave these records and this end.
abbrev pub input_of : List Record → End → Input RunFault
input_of records end = record { records = records; fault = fault_in end }

-- The records of inputs, a list for each.
abbrev pub lists_of : List (Input RunFault) → List (List Record)
lists_of inputs = map (λ i. i.records) inputs

-- The end that names the stop of inputs.
abbrev pub stop_end : List (Input RunFault) → End
stop_end inputs = end_of (stop_fault (stop inputs))

-- The new value is the same end of the same link, and it has given its end.
pub record Ends {I : Type 0} (link : I → LinkId) (progress : I → Progress) (Follows : I → I →
    Type 0) (old new : I) : Type 0 where
  pub link_is : link new ≡ link old
  pub follows : Follows old new
  pub ended : HasEnded (progress new)

-- What inputs gave from the old values to the new ones, and their ends.
abbrev pub inputs_of : {I : Type 0} → (I → Progress) → (I → I → List Record) → List I → List I →
    List (Input RunFault)
inputs_of progress received [] ns = []
inputs_of progress received (o ∷ os) [] = []
inputs_of progress received (o ∷ os) (n ∷ ns) =
    input_of (received o n) (end_given (progress n)) ∷ inputs_of progress received os ns
