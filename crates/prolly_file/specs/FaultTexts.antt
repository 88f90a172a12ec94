-- What is said of faults. (This project's texts.)
use Rattle.std.specs.Prelude.{ℕ, List, ◌++◌, codes}
use Rattle.std.specs.Fmt.{decimal}
use Rattle.prolly_file.specs.declared.scratch_build.ScratchFault.{ScratchFault}
use Rattle.prolly_file.specs.declared.scratch_build.ScratchFault.TheVariants as scratches

-- What is said of pairs of which no file was made.
abbrev pub scratch_fault_text : ScratchFault → List ℕ
scratch_fault_text scratches.Memory = codes "out of memory"
scratch_fault_text (scratches.OutOfOrder pair) = codes "pair " ++ decimal pair ++
    codes ": key out of order"
scratch_fault_text scratches.TooTall = codes "tree too tall"
