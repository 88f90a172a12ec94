-- What a worker has sent, by what it received. A stage is a function: of how the list received ends
-- and of that list it makes the list to be sent.
use Rattle.std.specs.Prelude.{◌≡◌, List, ◌++◌, ◌⊎◌}
use Rattle.prolly_tree.specs.Events.{Closing, clean, faulty}
use Rattle.prolly_entry.specs.Prefix.{IsPrefix}
use Rattle.prolly_link.specs.declared.message.End.{End}
use Rattle.prolly_link.specs.declared.message.End.TheVariants.{Clean, Fault}
use Rattle.prolly_link.specs.declared.fault.RunFault.TheVariants.{Memory}

-- How a list closes whose end this is: clean, or with a fault, whichever it is.
abbrev pub closing_of : End → Closing
closing_of Clean = clean
closing_of (Fault fault) = faulty

-- Behind what was sent before, a prefix of the items was sent.
abbrev pub SendsPrefix : {A : Type 0} → List A → List A → List A → Type 0
SendsPrefix {A} items before sent = (prefix : List A) × IsPrefix prefix items ×
    (sent ≡ before ++ prefix)

-- Of a list received with its end, all that the stage makes of it was sent, and then the same end;
-- or memory was refused, which is the end that was sent, and a prefix of it was.
abbrev pub Sends : {A B : Type 0} → (Closing → List A → List B) → List A → End → List B → List B →
    End → Type 0
Sends stage received end before sent last =
    ((sent ≡ before ++ stage (closing_of end) received) × (last ≡ end))
    ⊎ ((last ≡ Fault Memory) × SendsPrefix (stage (closing_of end) received) before sent)

-- A worker gives up in the middle: whatever else comes, and however it closes, a prefix of what the
-- stage makes of all was sent.
abbrev pub GivesUp : {A B : Type 0} → (Closing → List A → List B) → List A → List B → List B →
    Type 0
GivesUp {A} stage received before sent =
    (closing : Closing) (rest : List A) → SendsPrefix (stage closing (received ++ rest)) before sent
