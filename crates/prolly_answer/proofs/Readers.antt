-- A reader that looks up again and again, in one source.
use Rattle.std.proofs.Common.{◌≡◌, ℕ, List, [], ◌∷◌, ◌++◌, Option, Ok, Err, ap, refl, ◌∙◌, subst}
use Rattle.prolly_look_up.specs.HeldPairs.{pairs_held}
use Rattle.prolly_look_up.specs.PairsFrom.{pairs_from}
use Rattle.prolly_look_up.specs.ScanWay.{IsScanWay}
use Rattle.prolly_look_up.specs.Sought.Sought.{Key}
use Rattle.prolly_look_up.specs.Way.{IsWay, IsWayTo}
use Rattle.prolly_entry.specs.Pair.{Pair}
use Rattle.prolly_root.specs.ChunkFile.{ChunkFile}
use Rattle.prolly_root.specs.ChunkSource.{GoesOverStill}
use Rattle.prolly_root.specs.Reader.{IsReaderIn, LooksUp, ReaderView, way_of}
use Rattle.prolly_root.specs.declared.root_fault.RootFault.{RootFault}
use Rattle.prolly_answer.specs.RootFaults.{StandsInFileOf, TellsFirstOf}
use Rattle.prolly_answer.specs.RootLookUps.{IsFoundByRoot}
use Rattle.prolly_answer.proofs.RootFaultSteps.{told_of}
use Rattle.prolly_answer.proofs.WaysStand.{way_stands_of}

-- Since it was opened, the reader is that of one root, and of the files that the source goes over.
pub record LooksOn {S T : Type 0} (goes_over : S → ChunkFile → Type 0)
    (stands : ChunkFile → T → ℕ → ℕ → Type 0) (first now : S) (begun reader : ReaderView T)
    : Type 0 where
  pub of : (reader.version ≡ begun.version) × (reader.root ≡ begun.root)
  pub goes : GoesOverStill goes_over first now
  pub kept : (file : ChunkFile) → goes_over first file → IsReaderIn stands file begun →
      IsReaderIn stands file reader

module _ {S T : Type 0} {goes_over : S → ChunkFile → Type 0}
    {stands : ChunkFile → T → ℕ → ℕ → Type 0} {first : S} {begun : ReaderView T} where
  pub looks_first : LooksOn goes_over stands first first begun begun
  looks_first = record {
    of = (refl, refl);
    goes = λ file goes. goes;
    kept = λ file goes opened. opened;
  }

  -- One more look-up has a fault.
  pub fault_told : {failures : S → ℕ} {now new : S} {before after : ReaderView T} {R : Type 0}
      {from key : List ℕ} {fault : RootFault} → LooksOn goes_over stands first now begun before →
      LooksUp {R = R} goes_over failures stands now new (Key from) before after (Err fault) →
      from ≡ key → TellsFirstOf stands (goes_over first) begun (Key key) fault
  fault_told {before = before} {from = from} {key = key} on looked same file goes opened =
      told_of begun before key from on.of.0 on.of.1 same file
      (looked.tells file (on.goes file goes) (on.kept file goes opened))

  -- One more look-up comes to an end.
  module _ {failures : S → ℕ} {now new : S} {before after : ReaderView T} {R : Type 0} {value : R}
      {from : List ℕ} (on : LooksOn goes_over stands first now begun before)
      (looked : LooksUp goes_over failures stands now new (Key from) before after (Ok value)) where
    pub looks_on : LooksOn goes_over stands first new begun after
    looks_on = record {
      of = (looked.of.0 ∙ on.of.0, looked.of.1 ∙ on.of.1);
      goes = λ file goes. looked.asked.0 file (on.goes file goes);
      kept = λ file goes opened. looked.kept file (on.goes file goes) (on.kept file goes opened);
    }

    -- It found the pairs from the key on, of the leaf at which it ended.
    pub leaf_found : {key again : List ℕ} {leaf : List Pair} → from ≡ key → again ≡ key →
        IsWayTo before.version before.root (Key from) (way_of after) →
        ((above : List (List ℕ)) (last : List ℕ) → way_of after ≡ above ++ last ∷ [] →
        leaf ≡ pairs_from again (pairs_held last)) →
        IsFoundByRoot (StandsInFileOf stands (goes_over first) begun)
        (IsScanWay begun.version begun.root key) leaf
    leaf_found sought same found held =
        let is = subst (λ k. IsWayTo begun.version begun.root (Key k) (way_of after)) sought
        (subst (λ v. IsWayTo v begun.root (Key from) (way_of after)) on.of.0
        (subst (λ r. IsWayTo before.version r (Key from) (way_of after)) on.of.1 found)) in
        record {
          way = way_of after;
          is = record {
            way = is;
            found_is = held is.before is.last is.are ∙
                ap (λ k. pairs_from k (pairs_held is.last)) same;
          };
          stand = way_stands_of stands (goes_over first) begun after looks_on.kept before.version
              before.root (Key from) found;
        }

    -- It found this value at the key.
    pub value_found : {key : List ℕ} {at shown : Option (List ℕ)} → from ≡ key → at ≡ shown →
        IsWay before.version before.root from (way_of after) at →
        IsFoundByRoot (StandsInFileOf stands (goes_over first) begun)
        (IsWay begun.version begun.root key) shown
    value_found {shown = shown} sought same found = record {
      way = way_of after;
      is = subst (λ k. IsWay begun.version begun.root k (way_of after) shown) sought
          (subst (λ v. IsWay v begun.root from (way_of after) shown) on.of.0
          (subst (λ r. IsWay before.version r from (way_of after) shown) on.of.1
          (subst (IsWay before.version before.root from (way_of after)) same found)));
      stand = way_stands_of stands (goes_over first) begun after looks_on.kept before.version
          before.root (Key from) found.way;
    }
