-- What is answered to words that give no command.
use Rattle.std.specs.Prelude.{[], string_bytes}
use Rattle.prolly_fault.specs.Answers.{Shows, ShowsFault}
use Rattle.prolly_fault.specs.declared.answer.Answer.{Answer}
use Rattle.prolly_fault.specs.declared.fault.Fault.TheVariants as faults
use Rattle.prolly_line.specs.declared.parse_fault.ParseFault.{ParseFault}
use Rattle.prolly_line.specs.declared.parse_fault.ParseFault.TheVariants as refusals

-- What clap says of the words is shown as it words it: help that was asked for on standard output,
-- and what is wrong with them on standard error.
abbrev pub ShowsRefusal : Answer → ParseFault → Type 0
ShowsRefusal answer refusals.Memory = ShowsFault answer faults.Memory
ShowsRefusal answer refusals.BadKey = ShowsFault answer faults.BadKey
ShowsRefusal answer refusals.BadTextKey = ShowsFault answer faults.BadTextKey
ShowsRefusal answer refusals.BadRoot = ShowsFault answer faults.BadRoot
ShowsRefusal answer refusals.LoneRoot = ShowsFault answer faults.LoneRoot
ShowsRefusal answer (refusals.Usage text) = Shows answer 2 [] (string_bytes text)
ShowsRefusal answer (refusals.Help text) = Shows answer 0 (string_bytes text) []
