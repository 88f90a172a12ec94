-- What stands in the rows of a subcommand whose words clap takes, and what is made of them.
use Rattle.std.specs.Prelude.{◌≡◌, ◌≤◌, ⊤, ℕ, ◌⊎◌, pos, Bool, true, false, Result, MatchResult}
use Rattle.std.specs.Prelude.{Option, Some, None, List, [], codes}
use Rattle.clap.specs.Values.{IsSignedIn}
use Rattle.clap.specs.Words.{Row, Text, found_of, one_of, rows_of, without_minus}
use Rattle.clap.specs.declared.parser.matches.ArgMatches.{ArgMatches}
use Rattle.prolly_line.specs.Line.{line_faults, line_given}
use Rattle.prolly_entry.specs.declared.reference.Ref.{Ref}
use Rattle.prolly_line.specs.GivenCommand.{GivesBadKey, GivesBadKeyAs, GivesBadRange, GivesBadRoot}
use Rattle.prolly_line.specs.GivenCommand.{GivesBadSought, GivesNumber, HasBadKey, HasMisfit}
use Rattle.prolly_line.specs.GivenCommand.{GivesFlag, HasNone}
pub use Rattle.prolly_line.specs.GivenCommand.{HasWord}
use Rattle.prolly_line.specs.GivenCommand.{HasSet}
use Rattle.prolly_line.specs.GivenCommand.{GivesBadPair, GivesLoneRoot, HasBadRoot, HasLoneRoot}
use Rattle.prolly_line.specs.GivenCommand.{HasFields, MayGiveNumber, MayGiveRoot}
use Rattle.prolly_line.specs.declared.command.Command.{Command}
use Rattle.prolly_line.specs.declared.parse_fault.ParseFault.{ParseFault}
use Rattle.prolly_line.specs.declared.parse_fault.ParseFault.TheVariants.{Memory, BadRoot, LoneRoot}
use Rattle.prolly_line.specs.declared.parse_fault.ParseFault.TheVariants.{Usage}
use Rattle.prolly_line.specs.declared.parse_fault.ParseFault.TheVariants.{BadKey, BadTextKey}
use Rattle.prolly_text.specs.declared.notation.Notation.TheVariants.{Hex, Text as AsText}

-- the rows that the matches of a subcommand hold
abbrev pub rows_in : ArgMatches → List Row
rows_in matches = rows_of (found_of matches)

-- clap takes some words that name this subcommand and give it these rows
abbrev pub IsAccepted : Text × List Row → Type 0
IsAccepted given = (words : List Text) × (line_faults words ≡ []) × (line_given words ≡ Some given)

-- a numeral from least to most stands under this name
abbrev pub HasNumber : Text → ℕ → ℕ → List Row → Type 0
HasNumber name least most rows =
    (text : Text) × (one_of name rows ≡ Some (without_minus text)) ×
    IsSignedIn (pos least) (pos most) text

-- a numeral from least to most stands under this name, or none
abbrev pub MayHaveNumber : Text → ℕ → ℕ → List Row → Type 0
MayHaveNumber name least most rows = (one_of name rows ≡ None) ⊎ HasNumber name least most rows

-- the number under this name, in each range up to a bound in which the numeral lies
abbrev pub ReadsNumber : ℕ → Text → List Row → ℕ → Type 0
ReadsNumber bound name rows n =
    (least most : ℕ) → most ≤ bound → HasNumber name least most rows
    → GivesNumber rows name least most n

-- the same of a number that may be missing
abbrev pub MayReadNumber : ℕ → Text → List Row → Option ℕ → Type 0
MayReadNumber bound name rows n =
    (least most : ℕ) → most ≤ bound → MayHaveNumber name least most rows
    → MayGiveNumber rows name least most n

-- what follows of words that fit where a key, a range or a list of keys is sought
pub record DoFit (last : Text) (needs_last : Bool) (rows : List Row) : Type 0 where
  pub key : HasNone (codes "keys") rows → HasNone (codes "from") rows → HasWord (codes "key") rows
  pub last_word : HasNone (codes "keys") rows → HasNone (codes "from") rows → needs_last ≡ true →
      HasWord last rows
  pub no_to : HasNone (codes "from") rows → HasNone (codes "to") rows
  pub no_last : HasSet rows → HasNone last rows
  pub in_place : HasSet rows → needs_last ≡ true → HasWord (codes "key") rows
  pub no_range : HasWord (codes "keys") rows → HasNone (codes "from") rows

-- what follows of words that fit where a key or a list of keys is sought
pub record DoesKeyFit (rows : List Row) : Type 0 where
  pub key : HasNone (codes "keys") rows → HasWord (codes "key") rows
  pub no_key : HasWord (codes "keys") rows → HasNone (codes "key") rows
  pub no_raw : HasWord (codes "keys") rows → GivesFlag rows (codes "raw") false

-- what follows of words that fit where lines are packed
pub record DoesSortFit (rows : List Row) : Type 0 where
  pub no_unique : GivesFlag rows (codes "sort") false → GivesFlag rows (codes "unique") false
  pub no_memory : GivesFlag rows (codes "sort") false → HasNone (codes "memory") rows

-- what follows of words that fit where a file or lines are explained
pub record DoLinesFit (rows : List Row) : Type 0 where
  pub no_file : GivesFlag rows (codes "lines") true → HasNone (codes "file") rows
  pub file : GivesFlag rows (codes "lines") false → HasWord (codes "file") rows
  pub no_removals : GivesFlag rows (codes "lines") false → GivesFlag rows (codes "removals") false
  pub no_all : GivesFlag rows (codes "lines") false → GivesFlag rows (codes "all") false

-- what follows of words that fit where a tree is cut
abbrev pub DoesCutFit : List Row → Type 0
DoesCutFit rows = HasWord (codes "chunk-bytes") rows → HasNone (codes "bits") rows

-- an accepted subcommand, whose words fit, is refused in this way
abbrev pub IsRefusedFitting : Text × List Row → ParseFault → Type 0
IsRefusedFitting given Memory = ⊤
IsRefusedFitting given BadRoot = HasBadRoot given
IsRefusedFitting given LoneRoot = HasLoneRoot given
IsRefusedFitting given BadKey = HasBadKey given Hex
IsRefusedFitting given BadTextKey = HasBadKey given AsText
IsRefusedFitting given _ = ⊥

-- the answer to an accepted subcommand whose words fit
abbrev pub AnswersFitting : Text × List Row → Result Command ParseFault → Type 0
AnswersFitting given answer =
    MatchResult answer (λ command. HasFields command given) (IsRefusedFitting given)

-- an accepted subcommand is refused in this way: for anything but memory and wrong usage only where
-- its words fit
abbrev pub IsRefusedAt : Text × List Row → ParseFault → Type 0
IsRefusedAt given Memory = ⊤
IsRefusedAt given (Usage text) = HasMisfit given
IsRefusedAt given fault = (HasMisfit given → ⊥) × IsRefusedFitting given fault

-- the answer to an accepted subcommand: a command only where its words fit
abbrev pub Answers : Text × List Row → Result Command ParseFault → Type 0
Answers given answer = MatchResult answer
    (λ command. (HasMisfit given → ⊥) × HasFields command given) (IsRefusedAt given)

-- the two roots are refused in this way
abbrev pub AreRefusedRoots : List Row → ParseFault → Type 0
AreRefusedRoots rows BadRoot = GivesBadPair rows
AreRefusedRoots rows LoneRoot = GivesLoneRoot rows
AreRefusedRoots rows _ = ⊥

-- the word for a key under a name is refused in this way
abbrev pub IsRefusedKey : Text → List Row → ParseFault → Type 0
IsRefusedKey name rows Memory = ⊤
IsRefusedKey name rows BadKey = GivesBadKeyAs name rows Hex
IsRefusedKey name rows BadTextKey = GivesBadKeyAs name rows AsText
IsRefusedKey name rows _ = ⊥

-- the words for the keys of a range are refused in this way
abbrev pub IsRefusedRange : List Row → ParseFault → Type 0
IsRefusedRange rows Memory = ⊤
IsRefusedRange rows BadKey = GivesBadRange rows Hex
IsRefusedRange rows BadTextKey = GivesBadRange rows AsText
IsRefusedRange rows _ = ⊥

-- the words for what is sought are refused in this way
abbrev pub IsRefusedSought : List Row → ParseFault → Type 0
IsRefusedSought rows Memory = ⊤
IsRefusedSought rows BadKey = GivesBadSought rows Hex
IsRefusedSought rows BadTextKey = GivesBadSought rows AsText
IsRefusedSought rows _ = ⊥

-- what a look-up trusts, or the word for its key, is refused in this way: the key only where the
-- root is good
abbrev pub IsRefusedLookUp : List Row → ParseFault → Type 0
IsRefusedLookUp rows Memory = ⊤
IsRefusedLookUp rows BadRoot = GivesBadRoot rows
IsRefusedLookUp rows BadKey =
    ((root : Option Ref) × MayGiveRoot rows root) × GivesBadKey rows Hex
IsRefusedLookUp rows BadTextKey =
    ((root : Option Ref) × MayGiveRoot rows root) × GivesBadKey rows AsText
IsRefusedLookUp rows _ = ⊥
