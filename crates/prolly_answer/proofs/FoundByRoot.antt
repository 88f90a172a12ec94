-- What is shown of a look-up by the root.
use Rattle.std.proofs.Common.{◌≡◌, ℕ, inl, inr, List, Option, Result, Ok, Err, subst}
use Rattle.std.specs.Global.{Vec}
use Rattle.std.specs.List.{AllByRecursion}
use Rattle.std.specs.Prelude.{option_map, IfErr, IfOk}
use Rattle.prolly_entry.specs.Pair.{Pair}
use Rattle.prolly_entry.specs.declared.version.Version.{Version}
use Rattle.prolly_entry.specs.declared.version.Version.TheVariants.{Two}
use Rattle.prolly_look_up.specs.Sought.{Sought}
use Rattle.prolly_look_up.specs.Sought.Sought.{Key, Number}
use Rattle.prolly_look_up.specs.Way.{IsCountWay, IsWay, IsWayTo}
use Rattle.prolly_root.specs.Reader.{ReaderView}
use Rattle.prolly_root.specs.RootFault.{TellsFailure, TellsReads}
use Rattle.prolly_root.specs.declared.root_fault.RootFault.{RootFault}
use Rattle.prolly_text.specs.declared.notation.Notation.{Notation}
use Rattle.prolly_fault.specs.Answers.{ShowsFault}
use Rattle.prolly_answer.specs.LookUps.{ShowsFound, ShowsFoundPair, ShowsFoundRaw, ShowsPair}
use Rattle.prolly_answer.specs.LookUps.{ShowsRaw, ShowsValue}
use Rattle.prolly_answer.specs.RootLookUps.{IsFoundByRoot, IsLookUpByRoot}
use Rattle.prolly_fault.specs.declared.answer.Answer.{Answer}
use Rattle.prolly_fault.specs.declared.fault.Fault.TheVariants.{Root}

module _ {V E : Type 0} (there : List ℕ → Type 0) (is_way : List (List ℕ) → V → Type 0)
    (shows : Answer → V → Type 0) (may : RootFault → Type 0) (old new : ℕ) where
  found_shown : (found : V) (result : Result Answer E) → IsFoundByRoot there is_way found →
      new ≡ old → IfOk result (λ answer. shows answer found) →
      IfOk result (IsLookUpByRoot there is_way shows may (TellsReads old new))
  found_shown found (Ok answer) is same s = inl (found, is, same, s)
  found_shown found (Err e) is same s = tt

  fault_shown : (fault : RootFault) (result : Result Answer E) → may fault →
      TellsFailure old new fault → IfOk result (λ answer. ShowsFault answer (Root fault)) →
      IfOk result (IsLookUpByRoot there is_way shows may (TellsReads old new))
  fault_shown fault (Ok answer) so tells s = inr (fault, so, tells, s)
  fault_shown fault (Err e) so tells s = tt

-- What a look-up of a key found is shown, or its fault.
module _ {E : Type 0} (there : List ℕ → Type 0)
    (is_way : List (List ℕ) → Option (List ℕ) → Type 0) (may : RootFault → Type 0)
    (old new : ℕ) where
  pub value_shown : (notation : Notation) (found : Result (Option (Vec ℕ)) RootFault)
      (result : Result Answer E) →
      IfOk found (λ value. IsFoundByRoot there is_way (option_map (λ v. v.items) value)) →
      IfErr found may → TellsReads old new found →
      IfOk result (λ answer. ShowsFound notation answer found) →
      IfOk result (IsLookUpByRoot there is_way (ShowsValue notation) may (TellsReads old new))
  value_shown notation (Ok value) result is so tells s =
      found_shown there is_way (ShowsValue notation) may old new
      (option_map (λ v. v.items) value) result is tells s
  value_shown notation (Err fault) result is so tells s =
      fault_shown there is_way (ShowsValue notation) may old new fault result so tells s

  pub raw_shown : (found : Result (Option (Vec ℕ)) RootFault) (result : Result Answer E) →
      IfOk found (λ value. IsFoundByRoot there is_way (option_map (λ v. v.items) value)) →
      IfErr found may → TellsReads old new found →
      IfOk result (λ answer. ShowsFoundRaw answer found) →
      IfOk result (IsLookUpByRoot there is_way ShowsRaw may (TellsReads old new))
  raw_shown (Ok value) result is so tells s =
      found_shown there is_way ShowsRaw may old new (option_map (λ v. v.items) value) result is
      tells s
  raw_shown (Err fault) result is so tells s =
      fault_shown there is_way ShowsRaw may old new fault result so tells s

-- So is what one of a number found.
pub pair_shown : {E : Type 0} (there : List ℕ → Type 0)
    (is_way : List (List ℕ) → Option Pair → Type 0)
    (may : RootFault → Type 0) (old new : ℕ) (notation : Notation)
    (found : Result (Option Pair) RootFault) (result : Result Answer E) →
    IfOk found (IsFoundByRoot there is_way) → IfErr found may → TellsReads old new found →
    IfOk result (λ answer. ShowsFoundPair notation answer found) →
    IfOk result (IsLookUpByRoot there is_way (ShowsPair notation) may (TellsReads old new))
pair_shown there is_way may old new notation (Ok pair) result is so tells s =
    found_shown there is_way (ShowsPair notation) may old new pair result is tells s
pair_shown there is_way may old new notation (Err fault) result is so tells s =
    fault_shown there is_way (ShowsPair notation) may old new fault result so tells s

-- What a reader of this version and root found by some chunks was found by the root.
module _ {T : Type 0} (reader : ReaderView T) (version : Version) (root : List ℕ)
    (of : (reader.version ≡ version) × (reader.root ≡ root)) (there : List ℕ → Type 0)
    (way : List (List ℕ))
    (stand : (v : Version) (r : List ℕ) (sought : Sought) → IsWayTo v r sought way →
    AllByRecursion there way) where
  pub value_found : (key : List ℕ) (found : Result (Option (Vec ℕ)) RootFault) →
      IfOk found (λ value. IsWay reader.version reader.root key way
      (option_map (λ v. v.items) value)) →
      IfOk found (λ value. IsFoundByRoot there (IsWay version root key)
      (option_map (λ v. v.items) value))
  value_found key (Ok value) is =
      let found = option_map (λ v. v.items) value in record {
        way = way;
        is = subst (λ v. IsWay v root key way found) of.0
            (subst (λ r. IsWay reader.version r key way found) of.1 is);
        stand = stand reader.version reader.root (Key key) is.way;
      }
  value_found key (Err fault) is = tt

  pub pair_found : (n : ℕ) (found : Result (Option Pair) RootFault) →
      IfOk found (IsCountWay reader.root n way) →
      IfOk found (IsFoundByRoot there (IsCountWay root n))
  pair_found n (Ok pair) is = record {
    way = way;
    is = subst (λ r. IsCountWay r n way pair) of.1 is;
    stand = stand Two reader.root (Number n) is.way;
  }
  pair_found n (Err fault) is = tt
