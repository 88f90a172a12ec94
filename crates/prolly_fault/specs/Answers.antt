-- What the program prints.
use Rattle.std.specs.Prelude.{◌≡◌, ℕ, zero, suc, Bool, true, false, List, [], ◌∷◌, ◌++◌, codes}
use Rattle.prolly_text.specs.Names.{shown_name}
use Rattle.prolly_fault.specs.declared.answer.Answer.{Answer}
use Rattle.prolly_fault.specs.declared.fault.Fault.{Fault}
use Rattle.prolly_fault.specs.declared.name_fault.NameFault.{NameFault}
use Rattle.prolly_fault.specs.Faults.{fault_text, fault_status, fault_line}
use Rattle.prolly_fault.specs.Names.{name_fault_text}

-- The answer has this status, and these bytes for standard output and standard error.
pub record Shows (answer : Answer) (status : ℕ) (out err : List ℕ) : Type 0 where
  pub status_is : answer.status ≡ status
  pub out_is : answer.out.items ≡ out
  pub err_is : answer.err.items ≡ err

-- Done, with one line.
abbrev pub ShowsLine : Answer → List ℕ → Type 0
ShowsLine answer text = Shows answer 0 (text ++ 0x0A ∷ []) []

-- Done, with nothing to show.
abbrev pub ShowsDone : Answer → Type 0
ShowsDone answer = Shows answer 0 [] []

-- Nothing was found: no line, and status 1.
abbrev pub ShowsNothing : Answer → Type 0
ShowsNothing answer = Shows answer 1 [] []

-- Not done: nothing on standard output, and the fault's line on standard error.
abbrev pub ShowsFault : Answer → Fault → Type 0
ShowsFault answer fault = Shows answer (fault_status fault) [] (fault_line (fault_text fault))

-- Not done, since a file that the words name is at fault: a line that ends with its name, and the
-- status of a device's fault.
abbrev pub ShowsName : Answer → NameFault → List ℕ → Type 0
ShowsName answer fault name = Shows answer 5 []
    (fault_line (name_fault_text fault ++ shown_name name))

-- Of one file of several: done, with one line and the file's name behind it, or with nothing to show
-- where only what is at fault is to be told.
abbrev pub ShowsFileLine : Bool → Answer → List ℕ → List ℕ → Type 0
ShowsFileLine true answer text name = ShowsDone answer
ShowsFileLine false answer text name = ShowsLine answer (text ++ codes "  " ++ shown_name name)

-- Of one file of several: not done, and the fault's line names the file.
abbrev pub ShowsFileFault : Answer → Fault → List ℕ → Type 0
ShowsFileFault answer fault name = Shows answer (fault_status fault) []
    (fault_line (shown_name name ++ codes ": " ++ fault_text fault))

-- Of several files: the first of these statuses that is not 0, which is that of the first refusal;
-- or 0, where each of them is.
abbrev pub first_refusal : List ℕ → ℕ
first_refusal [] = 0
first_refusal (zero ∷ statuses) = first_refusal statuses
first_refusal (suc n ∷ statuses) = suc n
