-- What clap's clauses say of the program's command line.
use Rattle.std.proofs.Common.{◌≡◌, ◌∙◌, ◌≤◌, ℕ, Bool, List, [], Option, Some, None, true, refl, sym, ap}
use Rattle.std.proofs.Common.{arith, subst, inl, inr, codes}
use Rattle.std.specs.Prelude.{IfErr, IfOk, IfSome, Result, Ok, Err}
use Rattle.clap.specs.Words.{App, HasKind, HasMatchesOf, Row, Text, app_of, fault_of}
use Rattle.clap.specs.Words.{is_simple, is_simple_and_free, kind_of, subcommand_of}
use Rattle.clap.specs.Words.{subcommand_rows_of}
use Rattle.clap.specs.declared.builder.command.Command.{Command as ClapCommand}
use Rattle.clap.specs.declared.error.Error.{Error}
use Rattle.clap.specs.declared.error.kind.ErrorKind.TheVariants.{OutOfMemory}
use Rattle.clap.specs.declared.parser.matches.ArgMatches.{ArgMatches}
use Rattle.clap.proofs.OnLiterals.{clap_on_literals}
use Rattle.prolly_entry.specs.declared.reference.Ref.{Ref}
use Rattle.prolly_line.specs.AcceptedWords.{Answers, IsRefusedAt}
use Rattle.prolly_line.specs.GivenCommand.{GivesTrust, HasFields, IsAskedFor, IsGivenBy}
use Rattle.prolly_line.specs.GivenCommand.{AreLawfulBytes, AreLawfulRoots, GivesNumberOr}
use Rattle.prolly_line.specs.GivenCommand.{GivesSought, IsLawfulSought, IsLawfulTrust}
use Rattle.prolly_line.specs.GivenCommand.{MayGiveChunkBytes, MayGiveNumber, MayGiveRoots}
use Rattle.prolly_line.specs.GivenCommand.{IsRefusalOf, IsRefusedBy, IsWithinLimits}
use Rattle.prolly_line.specs.Line.{line_faults, line_given, program_line}
use Rattle.prolly_line.specs.declared.command.Command.{Command}
use Rattle.prolly_line.specs.declared.command.Command.TheVariants.{Pack, PackSorted, Scratch, Build}
use Rattle.prolly_line.specs.declared.command.Command.TheVariants.{Apply, Explain, ExplainLines}
use Rattle.prolly_line.specs.declared.command.Command.TheVariants.{Check, CheckFiles, Root, Stat}
use Rattle.prolly_line.specs.declared.command.Command.TheVariants.{Get, GetKeys, Scan, Nth, Dump, Diff}
use Rattle.prolly_line.specs.declared.command.Command.TheVariants.{Prove, Verify}
use Rattle.prolly_line.specs.declared.parse_fault.ParseFault.{ParseFault}
use Rattle.prolly_line.specs.declared.root_pair.RootPair.{RootPair}
use Rattle.prolly_line.specs.declared.parse_fault.ParseFault.TheVariants.{Memory, Usage, Help}
use Rattle.prolly_line.specs.declared.parse_fault.ParseFault.TheVariants.{BadRoot, LoneRoot, BadKey}
use Rattle.prolly_line.specs.declared.parse_fault.ParseFault.TheVariants.{BadTextKey}
use Rattle.prolly_line.specs.declared.sought.Sought.{Sought}
use Rattle.prolly_line.specs.declared.sought.Sought.TheVariants.{Key, Keys, Range}
use Rattle.prolly_text.specs.declared.notation.Notation.{Notation}

-- ---- clap's model holds of the line

-- clap's model is exact for commands that pass two tests, and the line passes both
line_is_simple : is_simple program_line ≡ true
unfolding clap_on_literals
line_is_simple = refl

line_is_free : is_simple_and_free program_line ≡ true
unfolding clap_on_literals
line_is_free = refl

-- what holds of a command that passes a test holds of the line that it is
at_line : (P : App → Type 0) (test : App → Bool) (a b : App) → a ≡ b → test b ≡ true →
    (test a ≡ true → P a) → P b
at_line P test a b e passes h = subst P e (h (ap test e ∙ passes))

-- an error of the command's is one of the line's
error_at : (c : ClapCommand) (words : List Text) (e : Error) → app_of c ≡ program_line
    → (is_simple_and_free (app_of c) ≡ true → HasKind (fault_of (app_of c) words) e) →
    HasKind (line_faults words) e
unfolding line_faults
error_at c words e line kinds =
    at_line (λ a. HasKind (fault_of a words) e) is_simple_and_free (app_of c) program_line line
    line_is_free kinds

-- words that the command takes are taken by the line
accepted_at : (c : ClapCommand) (words : List Text) → app_of c ≡ program_line
    → (is_simple_and_free (app_of c) ≡ true → fault_of (app_of c) words ≡ []) →
    line_faults words ≡ []
unfolding line_faults
accepted_at c words line kinds =
    at_line (λ a. fault_of a words ≡ []) is_simple_and_free (app_of c) program_line line
    line_is_free kinds

-- and give what the command's matches have
given_at : (c : ClapCommand) (words : List Text) (m : ArgMatches) → app_of c ≡ program_line
    → HasMatchesOf (app_of c) words m → line_given words ≡ subcommand_rows_of m
unfolding line_given
given_at c words m line matches =
    sym (at_line (λ a. subcommand_rows_of m ≡ subcommand_of a words) is_simple (app_of c)
    program_line line line_is_simple (λ s. (matches s).1))

-- the words are accepted, and give what the matches have
pub entered_at : (c : ClapCommand) (words : List Text) (m : ArgMatches) (given : Text × List Row) →
    app_of c ≡ program_line
    → (is_simple_and_free (app_of c) ≡ true → fault_of (app_of c) words ≡ []) →
    HasMatchesOf (app_of c) words m
    → subcommand_rows_of m ≡ Some given → (line_faults words ≡ []) × (line_given words ≡ Some given)
entered_at c words m given line kinds matches is =
    (accepted_at c words line kinds, given_at c words m line matches ∙ is)

-- ---- the answer

-- an error of clap's at the words
pub refused_by : (c : ClapCommand) (words : List Text) (e : Error) (fault : ParseFault) →
    app_of c ≡ program_line
    → (is_simple_and_free (app_of c) ≡ true → HasKind (fault_of (app_of c) words) e) →
    IsRefusalOf (kind_of e) fault → IsRefusedBy words fault
refused_by c words e fault line kinds refusal = go fault (error_at c words e line kinds) refusal
  where
    enough : kind_of e ≡ OutOfMemory → IsAskedFor (kind_of e) → ⊥
    enough memory (inl help) = cc
    enough memory (inr version) = cc

    go : (fault : ParseFault) → HasKind (line_faults words) e → IsRefusalOf (kind_of e) fault →
        IsRefusedBy words fault
    go Memory k r = tt
    go (Usage text) k r = elim k [
      | inl memory ↦ absurd (r.0 memory)
      | inr among ↦
          inl (kind_of e, among, r.1)
    ]
    go (Help text) k r = elim k [
      | inl memory ↦ absurd (enough memory r)
      | inr among ↦
          (kind_of e, among, r)
    ]
    go BadRoot k r = absurd r
    go LoneRoot k r = absurd r
    go BadKey k r = absurd r
    go BadTextKey k r = absurd r

-- the answer to the subcommand is the answer to the words
pub answers_words : (words : List Text) (given : Text × List Row)
    (answer : Result Command ParseFault)
    → (line_faults words ≡ []) × (line_given words ≡ Some given) → Answers given answer →
    IfOk answer (IsGivenBy words) × IfErr answer (IsRefusedBy words)
answers_words words given (Ok command) entered answer =
    ((entered.0, (given, entered.1, answer.0, answer.1)), tt)
answers_words words given (Err fault) entered refused = (tt, go fault refused)
  where
    go : (fault : ParseFault) → IsRefusedAt given fault → IsRefusedBy words fault
    go Memory r = tt
    go (Usage text) r = inr (entered.0, (given, entered.1, r))
    go (Help text) r = absurd r.1
    go BadRoot r = (entered.0, (given, entered.1, r.0, r.1))
    go LoneRoot r = (entered.0, (given, entered.1, r.0, r.1))
    go BadKey r = (entered.0, (given, entered.1, r.0, r.1))
    go BadTextKey r = (entered.0, (given, entered.1, r.0, r.1))

-- what a look-up trusts is lawful
lawful_trust : (rows : List Row) (root : Option Ref) (version : ℕ) → GivesTrust rows root version →
    IsLawfulTrust root version
lawful_trust rows None version h = (tt, h.1.1, h.1.2)
lawful_trust rows (Some root) version h = (h.0.1, h.1.1, h.1.2)

-- so is what is sought
lawful_sought : (rows : List Row) (notation : Notation) (sought : Sought) →
    GivesSought rows notation sought → IsLawfulSought sought
lawful_sought rows notation (Key key) h = h.2.1.2.1
lawful_sought rows notation (Range from None) h = (h.1.1.2.1, tt)
lawful_sought rows notation (Range from (Some to)) h = (h.1.1.2.1, h.2.1.2.1)
lawful_sought rows notation (Keys keys) h = tt

-- so are the roots of two trees
lawful_roots : (rows : List Row) (roots : Option RootPair) → MayGiveRoots rows roots →
    AreLawfulRoots roots
lawful_roots rows None h = tt
lawful_roots rows (Some roots) h = (h.0.1, h.1.1)

-- a number of which there is a default lies as that and the number do
default_kept : (rows : List Row) (name : Text) (least most default n : ℕ) → least ≤ default →
    default ≤ most → GivesNumberOr rows name least most default n → (least ≤ n) × (n ≤ most)
default_kept rows name least most default n low high (None, h, is) =
    (subst (λ n. least ≤ n) (sym is) low, subst (λ n. n ≤ most) (sym is) high)
default_kept rows name least most default n low high (Some given, h, is) =
    (subst (λ n. least ≤ n) (sym is) h.1, subst (λ n. n ≤ most) (sym is) h.2)

-- the bytes that a chunk is to have are within their limits
bytes_kept : (rows : List Row) (bytes : Option ℕ) → MayGiveChunkBytes rows bytes →
    AreLawfulBytes bytes
bytes_kept rows None h = tt
bytes_kept rows (Some bytes) h = (h.1, h.2)

-- bits that may be missing are within their limits
bits_kept : (rows : List Row) (bits : Option ℕ) → MayGiveNumber rows (codes "bits") 0 24 bits →
    IfSome bits (λ bits. bits ≤ 24)
bits_kept rows None h = tt
bits_kept rows (Some bits) h = h.2

-- and so is a version
version_kept : (rows : List Row) (version : Option ℕ) →
    MayGiveNumber rows (codes "format") 1 2 version →
    IfSome version (λ version. (1 ≤ version) × (version ≤ 2))
version_kept rows None h = tt
version_kept rows (Some version) h = (h.1, h.2)

-- the fields that the words give are within the limits
pub limits_kept : (words : List Text) (answer : Result Command ParseFault) →
    IfOk answer (IsGivenBy words) → IfOk answer IsWithinLimits
limits_kept words (Ok command) (faults, (given, is, fit, fields)) = go command fields
  where
    go : (command : Command) → HasFields command given → IsWithinLimits command
    go (Pack out notation removals mode) h = tt
    go (PackSorted out notation removals unique memory mode) h =
        default_kept given.1 (codes "memory") 16 4000 256 memory (omega arith) (omega arith) h.6
    go (Scratch bits chunk_bytes version out mode) h = (
      (default_kept given.1 (codes "bits") 0 24 12 bits (omega arith) (omega arith) h.1).1,
      bytes_kept given.1 chunk_bytes h.2,
      h.4.1,
      h.4.2,
    )
    go (Build bits chunk_bytes stages capacity max_records batch version out files quiet mode) h = (
      (default_kept given.1 (codes "bits") 0 24 12 bits (omega arith) (omega arith) h.1).1,
      bytes_kept given.1 chunk_bytes h.2,
      h.4.1,
      h.4.2,
      h.5.1,
      h.5.2,
      h.6.1,
      h.6.2,
      h.7.1,
      h.7.2,
      h.8.1,
      h.8.2,
    )
    go (Apply root bits version old out changes quiet mode) h = (
      h.1.1,
      bits_kept given.1 bits h.2,
      version_kept given.1 version h.3,
    )
    go (Explain file notation) h = tt
    go (ExplainLines notation removals all) h = tt
    go (Check file root version) h = lawful_trust given.1 root version h.2
    go (CheckFiles files root version quiet) h = lawful_trust given.1 root version h.2
    go (Root file) h = tt
    go (Stat file json notation) h = tt
    go (Get file key root version notation raw) h =
        (h.3.1.2.1, lawful_trust given.1 root version h.4)
    go (GetKeys file keys root version notation) h = lawful_trust given.1 root version h.5
    go (Scan file from limit root version notation) h =
        (h.2.1.2.1, h.3.2, lawful_trust given.1 root version h.4)
    go (Nth file n root version notation) h = (h.2.2, lawful_trust given.1 root version h.3)
    go (Dump file root version out lines mode) h = lawful_trust given.1 root version h.2
    go (Diff old new roots version out stat notation mode) h =
        (lawful_roots given.1 roots h.3, h.4.1, h.4.2)
    go (Prove file sought root version out notation mode) h = (
      lawful_sought given.1 notation sought h.2,
      lawful_trust given.1 root version h.3,
    )
    go (Verify root sought version proof notation) h =
        (h.1.1, lawful_sought given.1 notation sought h.2, h.3.1, h.3.2)
limits_kept words (Err fault) is = tt
