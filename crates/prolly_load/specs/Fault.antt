-- How a flaw of a record file is told on a link.
use Rattle.std.specs.Prelude.{ℕ, List, [], ◌∷◌}
use Rattle.prolly_entry.specs.declared.next.Flaw.{Flaw}
use Rattle.prolly_entry.specs.declared.next.Flaw.TheVariants as flaws
use Rattle.prolly_link.specs.declared.message.End.{End}
use Rattle.prolly_link.specs.declared.message.End.TheVariants.{Clean, Fault}
use Rattle.prolly_link.specs.declared.fault.RunFault.{RunFault}
use Rattle.prolly_link.specs.declared.fault.RunFault.TheVariants as faults

-- The fault of a file whose record at a place has a flaw.
abbrev pub fault_of : ℕ → ℕ → Flaw → RunFault
fault_of file place flaws.Truncated = faults.Truncated file place
fault_of file place flaws.KeyTooLong = faults.KeyTooLong file place
fault_of file place flaws.ValueTooLong = faults.ValueTooLong file place
fault_of file place flaws.OutOfOrder = faults.OutOfOrder file place
fault_of file place flaws.TooManyRecords = faults.TooManyRecords file

-- The end of a file behind so many records where no more bytes come than the unparsed ones: it is
-- cut where there are some.
abbrev pub end_in : ℕ → List ℕ → ℕ → End
end_in file [] count = Clean
end_in file (b ∷ unparsed) count = Fault (fault_of file count flaws.Truncated)
