-- What `get` and `nth` answer to who names the root.
use Rattle.std.specs.List.{AllByRecursion}
use Rattle.std.specs.Prelude.{◌⊎◌, ℕ, List, Result, Ok, Err}
use Rattle.prolly_look_up.specs.Way.{IsCountWay}
use Rattle.prolly_entry.specs.declared.version.Version.{Version}
use Rattle.prolly_entry.specs.declared.version.Version.TheVariants.{One, Two}
use Rattle.prolly_root.specs.declared.root_fault.RootFault.{RootFault}
use Rattle.prolly_text.specs.declared.notation.Notation.{Notation}
use Rattle.prolly_fault.specs.Answers.{ShowsFault}
use Rattle.prolly_answer.specs.LookUps.{ShowsPair}
use Rattle.prolly_fault.specs.declared.answer.Answer.{Answer}
use Rattle.prolly_fault.specs.declared.fault.Fault.TheVariants.{NoCounts, Root}

-- A look-up by the root found this, by some chunks. `there` says where each of these stands.
pub record IsFoundByRoot {V : Type 0} (there : List ℕ → Type 0)
    (is_way : List (List ℕ) → V → Type 0) (found : V) : Type 0 where
  pub way : List (List ℕ)
  pub is : is_way way found
  pub stand : AllByRecursion there way

-- The answer of a look-up to who names the root: what was found is shown; or else the fault for
-- which nothing was found, and it is one that there may be. `there` says where each chunk of the
-- way stands, and `tells` what is told of the calls of the source.
abbrev pub IsLookUpByRoot : {V : Type 0} → (List ℕ → Type 0) → (List (List ℕ) → V → Type 0) →
    (Answer → V → Type 0) → (RootFault → Type 0) → (Result (Unit {0}) RootFault → Type 0) →
    Answer → Type 0
IsLookUpByRoot {V = V} there is_way shows may tells answer =
    ((found : V) × IsFoundByRoot there is_way found × tells (Ok tt) × shows answer found)
    ⊎ ((fault : RootFault) × may fault × tells (Err fault) × ShowsFault answer (Root fault))

-- The answer of `nth` to who names the root. Chunks of version One have no counts.
abbrev pub IsNthByRoot : (List ℕ → Type 0) → Version → List ℕ → ℕ → Notation →
    (RootFault → Type 0) → (Result (Unit {0}) RootFault → Type 0) → Answer → Type 0
IsNthByRoot there One root n notation may tells answer = ShowsFault answer NoCounts
IsNthByRoot there Two root n notation may tells answer =
    IsLookUpByRoot there (IsCountWay root n) (ShowsPair notation) may tells answer
