-- What clap reads an argument and a command by, where no argument goes beyond its own subcommand.
use Rattle.std.specs.Prelude.{◌≡◌, false}
use Rattle.clap.specs.Words.{App, Rule, app_of, rule_of}
use Rattle.clap.specs.declared.builder.arg.Arg.{Arg}
use Rattle.clap.specs.declared.builder.command.Command.{Command}
use Rattle.clap.specs.declared.builder.command.Command.TheViews.{out-Command as fields_of}

-- an argument of one subcommand, with its rule
abbrev pub IsReadBy : Rule → Arg → Type 0
IsReadBy rule argument = (rule_of argument ≡ rule) × (argument.global ≡ false)

-- a command without global arguments, with its line
abbrev pub HasCommandLine : App → Command → Type 0
HasCommandLine line command = (app_of command ≡ line) × ((fields_of command).has_globals ≡ false)
