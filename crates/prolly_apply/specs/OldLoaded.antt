-- What is sent of the leaves of an old tree, and how that ends.
use Rattle.std.specs.Prelude.{◌≡◌, ℕ, ◌⊎◌, List, ◌++◌, Option, Some, None}
use Rattle.std.specs.List.{AllByRecursion}
use Rattle.prolly_look_up.specs.Content.{chunk_bytes}
use Rattle.prolly_entry.specs.Cut.{Cut, sha512_cut}
use Rattle.prolly_entry.specs.Pair.{IsPair, Pair}
use Rattle.prolly_entry.specs.Prefix.{IsPrefix}
use Rattle.prolly_entry.specs.declared.version.Version.{Version}
use Rattle.prolly_link.specs.declared.fault.RunFault.TheVariants.{Memory as want_of_memory}
use Rattle.prolly_link.specs.declared.message.End.{End}
use Rattle.prolly_link.specs.declared.message.End.TheVariants.{Clean, Fault}
use Rattle.prolly_root.specs.ChunkFile.{ChunkFile}
use Rattle.prolly_root.specs.RootFault.{TellsFailure}
use Rattle.prolly_root.specs.declared.root_fault.RootFault.{RootFault}
use Rattle.prolly_root.specs.declared.root_fault.RootFault.TheVariants.{Memory}
use Rattle.prolly_root_diff.specs.Leaves.{FoundClashIn, full_leaves}
use Rattle.prolly_tree.specs.Difference.{IsMap}
use Rattle.prolly_tree.specs.File.{root_reference}
use Rattle.prolly_apply.specs.Applied.{old_tree_fault}

-- The end that is sent: a clean one where there was no fault; else one that says that memory was
-- refused, or that the old tree is at fault.
abbrev pub load_end : Option RootFault → End
load_end None = Clean
load_end (Some Memory) = Fault want_of_memory
load_end (Some fault) = Fault old_tree_fault

-- The leaves are those of the map that have pairs, from left to right: all of them where there was
-- no fault, and else the first of them.
abbrev pub AreLeavesOf : Cut → List Pair → Option RootFault → List (List Pair) → Type 0
AreLeavesOf cut m None leaves = leaves ≡ full_leaves cut m
AreLeavesOf cut m (Some fault) leaves = IsPrefix leaves (full_leaves cut m)

-- After what was sent before, the leaves were sent of any map with this root, whatever the bits of
-- its tree. Or else a chunk of the tree has the reference of a different chunk. That was read on the
-- way from the root down, in each file that the source goes over; or it is one of the tree, too.
pub record IsOldLoaded (goes_over : ChunkFile → Type 0) (version : Version) (root : List ℕ)
    (before sent : List (List Pair)) (fault : Option RootFault) : Type 0 where
  pub leaves : List (List Pair)
  pub sent_are : sent ≡ before ++ leaves
  pub are : (bits : ℕ) (m : List Pair) → IsMap m → AllByRecursion IsPair m →
      root ≡ root_reference (sha512_cut bits) version m →
      AreLeavesOf (sha512_cut bits) m fault leaves
      ⊎ FoundClashIn goes_over version root (chunk_bytes version bits m)

-- That a read failed is told where one more call of the source failed, and only there.
abbrev pub TellsReadsOf : ℕ → ℕ → Option RootFault → Type 0
TellsReadsOf old new None = new ≡ old
TellsReadsOf old new (Some fault) = TellsFailure old new fault
