-- The record file of a map, and what is read of it.
use Rattle.std.proofs.Common.{ℕ, ◌≤◌, List, [], ◌∷◌, length, Some, None, sym, ap, ◌∙◌, subst}
use Rattle.std.proofs.Common.{append-nil}
use Rattle.std.specs.List.{flat_map, AllByRecursion}
use Rattle.std.proofs.lemmas.List.{length-map}
use Rattle.std.proofs.lemmas.List.Folds.{flat_map-map}
use Rattle.prolly_entry.specs.Overlay.{overlay}
use Rattle.prolly_entry.specs.Pair.{Pair, IsPair}
use Rattle.prolly_entry.specs.Reading.{Begins}
use Rattle.prolly_entry.specs.Record.{IsRecord}
use Rattle.prolly_entry.specs.Spelling.{record_spelling}
use Rattle.prolly_tree.specs.Difference.{IsMap, puts}
use Rattle.prolly_tree.specs.File.{file}
use Rattle.prolly_tree.specs.RecordFile.{record_file, RecordFilesAreRead, RecordFilesMakeFiles}
use Rattle.prolly_tree.proofs.merging.Differences.{puts_rise, overlay_alone}
use Rattle.prolly_laws.specs.Readings.{ends_clean, one_reading}

-- The records that put lawful pairs are lawful.
puts_lawful : (m : List Pair) → AllByRecursion IsPair m → AllByRecursion IsRecord (puts m)
puts_lawful [] h = tt
puts_lawful (p ∷ m) h = (record { key = h.0.key; value = h.0.value }, puts_lawful m h.1)

-- They begin the record file, and nothing follows.
puts_begin : (m : List Pair) (limit : ℕ) → IsMap m → AllByRecursion IsPair m → length m ≤ limit →
    Begins (record_file m) limit (puts m) []
puts_begin m limit h k few = record {
  spelled = sym (flat_map-map record_spelling (λ p. record { key = p.key; value = Some p.value }) m)
      ∙ sym (append-nil (flat_map record_spelling (puts m)));
  lawful = puts_lawful m k;
  rising = puts_rise m h;
  few = subst (λ n. n ≤ limit) (sym (length-map m
      (λ p. record { key = p.key; value = Some p.value }))) few;
}

pub record_files_are_read : RecordFilesAreRead
record_files_are_read m limit h k few = (
  ends_clean (record_file m) limit (puts m)
      (puts_begin m limit h k few),
  overlay_alone m h,
)

pub record_files_make_files : RecordFilesMakeFiles
record_files_make_files cut version m limit good ending h k few reading =
    let known = record_files_are_read m limit h k few in
    let same = one_reading (record_file m) limit good (puts m) ending None reading known.0 in (
      same.1,
      ap (λ records. file cut version (overlay (records ∷ []))) same.0 ∙
          ap (file cut version) known.1,
    )
