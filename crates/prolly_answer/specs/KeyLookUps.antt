-- What `get` answers of many keys.
use Rattle.std.specs.List.{AllByRecursion, AllZip, flat_map}
use Rattle.std.specs.Prelude.{◌≡◌, ◌⊎◌, ℕ, List, [], ◌∷◌, ◌++◌, map, Option, Some, None, Ok, Err}
use Rattle.prolly_look_up.specs.Content.{chunk_bytes}
use Rattle.prolly_look_up.specs.ScanWay.{joined}
use Rattle.prolly_look_up.specs.Way.{Clash, IsWay}
use Rattle.prolly_entry.specs.Cut.{sha512_cut}
use Rattle.prolly_entry.specs.Pair.{Pair, IsPair}
use Rattle.prolly_entry.specs.Record.{Record, keys_of}
use Rattle.prolly_entry.specs.declared.version.Version.{Version}
use Rattle.prolly_root.specs.declared.root_fault.RootFault.{RootFault}
use Rattle.prolly_text.specs.Notations.{separator, written}
use Rattle.prolly_text.specs.declared.notation.Notation.{Notation}
use Rattle.prolly_tree.specs.Difference.{IsMap}
use Rattle.prolly_tree.specs.File.{root_reference}
use Rattle.prolly_tree.specs.LookUp.{find}
use Rattle.prolly_fault.specs.Answers.{ShowsDone}
use Rattle.prolly_answer.specs.LookUps.{IsLookedUp, IsNoFile}
use Rattle.prolly_answer.specs.Outputs.{IsShownPart}
use Rattle.prolly_answer.specs.RootOutcomes.{Outcome}
use Rattle.prolly_fault.specs.declared.answer.Answer.{Answer}
use Rattle.prolly_fault.specs.declared.output_fault.OutputFault.{OutputFault}
use Rattle.prolly_fault.specs.declared.root_output_fault.RootOutputFault.TheVariants.{Output}
use Rattle.prolly_fault.specs.declared.root_output_fault.RootOutputFault.TheVariants.{Root}

-- What a map has at each of the keys: a value, or nothing.
abbrev pub found_at : List Pair → List (List ℕ) → List Record
found_at m keys = map (λ key. record { key = key; value = find m key }) keys

-- What a line has behind its key: the value, or nothing.
abbrev pub value_part : Notation → Option (List ℕ) → List ℕ
value_part notation None = []
value_part notation (Some value) = separator notation ∷ written notation value

-- The line of a key: with its value, or alone where it has none.
abbrev pub found_line : Notation → Record → List ℕ
found_line notation found =
    (written notation found.key ++ value_part notation found.value) ++ 0x0A ∷ []

-- A line for each key that was sought.
abbrev pub found_lines : Notation → List Record → List ℕ
found_lines notation records = flat_map (found_line notation) records

-- ---- of a checked file

-- The bytes were read whole and are the file of a map, and this holds of what that has at the keys.
abbrev pub AreFoundIn : List (List ℕ) → List ℕ → Type 0 → (List Record → Type 0) → Type 0
AreFoundIn keys bytes failed holds =
    IsLookedUp bytes failed (λ content. holds (found_at content.pairs keys))

-- The answer: the lines were written; writing them was cut off by a fault; or the bytes are refused.
-- Of the sink, `took_all` says that it took all of these bytes, `took_until` that it took a part of
-- them until a fault, `untouched` that it is as it was.
abbrev pub IsGetKeys : Notation → List (List ℕ) → List ℕ → Type 0 → (List ℕ → Type 0) →
    (OutputFault → List ℕ → Type 0) → Type 0 → Answer → Type 0
IsGetKeys notation keys bytes failed took_all took_until untouched answer =
    (AreFoundIn keys bytes failed (λ records. took_all (found_lines notation records)) ×
    ShowsDone answer)
    ⊎ IsShownPart (AreFoundIn keys bytes failed)
    (λ fault records. took_until fault (found_lines notation records)) answer
    ⊎ (IsNoFile bytes failed answer × untouched)

-- ---- by the root

-- Each was found by a look-up by the root, by one of these ways.
abbrev pub AreWays : Version → List ℕ → List Record → List (List (List ℕ)) → Type 0
AreWays version root records ways =
    AllZip (λ found way. IsWay version root found.key way found.value) records ways

-- Where all is written, no key is left; where a look-up has a fault, it is one that there may be where
-- these keys are left.
abbrev pub FitsKeys : (List (List ℕ) → RootFault → Type 0) → List (List ℕ) → Outcome → Type 0
FitsKeys may left (Ok done) = left ≡ []
FitsKeys may left (Err (Root fault)) = may left fault
FitsKeys may left (Err (Output fault)) = Unit {0}

-- Look-ups by the root found what is at the first of the keys, with which this outcome fits; and of
-- their lines, `takes` says what the sink took. `there` says where each chunk of the ways stands.
pub record AreFoundByRoot (there : List ℕ → Type 0) (may : List (List ℕ) → RootFault → Type 0)
    (version : Version) (root : List ℕ) (notation : Notation) (keys : List (List ℕ))
    (takes : List ℕ → Outcome → Type 0) (outcome : Outcome) : Type 0 where
  pub records : List Record
  pub ways : List (List (List ℕ))
  pub found : AreWays version root records ways
  pub stand : AllByRecursion there (joined ways)
  pub left : List (List ℕ)
  pub keys_are : keys ≡ keys_of records ++ left
  pub fits : FitsKeys may left outcome
  pub took : takes (found_lines notation records) outcome

-- Law: whoever knows the reference of a map's root knows that what was found so is what the map has
-- at these keys, whatever the bits of the map's tree; or else a chunk of the ways and a different one
-- of the tree have one reference.
abbrev pub KeysByRootAreRight : Type 0
KeysByRootAreRight = (version : Version) (bits : ℕ) (m : List Pair) (records : List Record)
    (ways : List (List (List ℕ))) → IsMap m → AllByRecursion IsPair m →
    AreWays version (root_reference (sha512_cut bits) version m) records ways →
    (records ≡ found_at m (keys_of records)) ⊎ Clash (joined ways) (chunk_bytes version bits m)
