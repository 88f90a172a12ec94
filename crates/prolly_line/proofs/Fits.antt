-- What is answered to words that fit.
use Rattle.std.proofs.Common.{◌≡◌, ◌∙◌, Bool, List, Some, None, true, false, sym}
use Rattle.std.proofs.Common.{codes, inl, inr}
use Rattle.std.specs.Prelude.{Result, Ok, Err}
use Rattle.std.specs.Str.{bytes_eq}
use Rattle.std.proofs.lemmas.Slice.Eq.{bytes_eq-Decides}
use Rattle.clap.specs.Words.{Row, Text}
use Rattle.prolly_line.specs.AcceptedWords.{Answers, AnswersFitting, DoFit, IsRefusedAt}
use Rattle.prolly_line.specs.AcceptedWords.{IsRefusedFitting}
use Rattle.prolly_line.specs.GivenCommand.{AreMisfit, HasMisfit, HasNone, HasWord}
use Rattle.prolly_line.specs.GivenCommand.{IsMisfitCut, IsMisfitKey, IsMisfitLines, IsMisfitSort}
use Rattle.prolly_line.specs.declared.command.Command.{Command}
use Rattle.prolly_line.specs.declared.parse_fault.ParseFault.{ParseFault}
use Rattle.prolly_line.specs.declared.parse_fault.ParseFault.TheVariants.{BadKey, BadRoot, BadTextKey}
use Rattle.prolly_line.specs.declared.parse_fault.ParseFault.TheVariants.{Help, LoneRoot, Memory, Usage}

-- a word does not stand where none does
not_both : (name : Text) (rows : List Row) → HasWord name rows → HasNone name rows → ⊥
not_both name rows has none = let bad : Some has.0 ≡ None = sym has.1 ∙ none in cc

-- words that fit where a key, a range or a list of keys is sought are no misfit
do_fit : (last : Text) (needs_last : Bool) (rows : List Row) → DoFit last needs_last rows →
    AreMisfit last needs_last rows → ⊥
do_fit last needs_last rows fit (inl (none, inl to)) =
    not_both (codes "to") rows to (fit.no_to none.1)
do_fit last needs_last rows fit (inl (none, inr (inl no_key))) =
    not_both (codes "key") rows (fit.key none.0 none.1) no_key
do_fit last needs_last rows fit (inl (none, inr (inr (needed, no_last)))) =
    not_both last rows (fit.last_word none.0 none.1 needed) no_last
do_fit last needs_last rows fit (inr (inl (set, inl has_last))) =
    not_both last rows has_last (fit.no_last set)
do_fit last needs_last rows fit (inr (inl (set, inr (needed, no_key)))) =
    not_both (codes "key") rows (fit.in_place set needed) no_key
do_fit last needs_last rows fit (inr (inr (keys, inl from))) =
    not_both (codes "from") rows from (fit.no_range keys)
do_fit last needs_last rows fit (inr (inr (keys, inr to))) =
    not_both (codes "to") rows to (fit.no_to (fit.no_range keys))

-- a name is itself
named : (name other : Text) → name ≡ other → bytes_eq name other ≡ true
named name other is = (bytes_eq-Decides name other).1 is

-- the words of a subcommand fit, where those of its name do
fits_where : (name : Text) (rows : List Row)
    → (bytes_eq name (codes "prove") ≡ true → AreMisfit (codes "out") true rows → ⊥)
    → (bytes_eq name (codes "verify") ≡ true → AreMisfit (codes "proof") false rows → ⊥)
    → (bytes_eq name (codes "get") ≡ true → IsMisfitKey rows → ⊥)
    → (bytes_eq name (codes "pack") ≡ true → IsMisfitSort rows → ⊥)
    → (bytes_eq name (codes "explain") ≡ true → IsMisfitLines rows → ⊥)
    → (bytes_eq name (codes "scratch") ≡ true → IsMisfitCut rows → ⊥)
    → (bytes_eq name (codes "build") ≡ true → IsMisfitCut rows → ⊥)
    → HasMisfit (name, rows) → ⊥
fits_where name rows prove verify get pack explain scratch build misfit = elim misfit [
  | inl (is, bad) ↦ prove (named name (codes "prove") is) bad
  | inr (inl (is, bad)) ↦ verify (named name (codes "verify") is) bad
  | inr (inr (inl (is, bad))) ↦ get (named name (codes "get") is) bad
  | inr (inr (inr (inl (is, bad)))) ↦ pack (named name (codes "pack") is) bad
  | inr (inr (inr (inr (inl (is, bad))))) ↦ explain (named name (codes "explain") is) bad
  | inr (inr (inr (inr (inr (inl is, bad))))) ↦ scratch (named name (codes "scratch") is) bad
  | inr (inr (inr (inr (inr (inr is, bad))))) ↦ build (named name (codes "build") is) bad
]

-- ---- the answers

-- the answer to words that fit
fitting : (given : Text × List Row) (answer : Result Command ParseFault) → (HasMisfit given → ⊥) →
    AnswersFitting given answer → Answers given answer
fitting given (Ok command) fit answers = (fit, answers)
fitting given (Err fault) fit answers = go fault answers
  where
    go : (fault : ParseFault) → IsRefusedFitting given fault → IsRefusedAt given fault
    go Memory refused = tt
    go (Usage text) refused = absurd refused
    go (Help text) refused = absurd refused
    go BadRoot refused = (fit, refused)
    go LoneRoot refused = (fit, refused)
    go BadKey refused = (fit, refused)
    go BadTextKey refused = (fit, refused)

-- the same of the subcommands that take a key, a range or a list of keys
pub prove_answers : (rows : List Row) (answer : Result Command ParseFault)
    → DoFit (codes "out") true rows → AnswersFitting (codes "prove", rows) answer
    → Answers (codes "prove", rows) answer
prove_answers rows answer fit = fitting (codes "prove", rows) answer
    (fits_where (codes "prove") rows (λ is. do_fit (codes "out") true rows fit) (λ is. cc)
    (λ is. cc) (λ is. cc) (λ is. cc) (λ is. cc) (λ is. cc))

pub verify_answers : (rows : List Row) (answer : Result Command ParseFault)
    → DoFit (codes "proof") false rows → AnswersFitting (codes "verify", rows) answer
    → Answers (codes "verify", rows) answer
verify_answers rows answer fit = fitting (codes "verify", rows) answer
    (fits_where (codes "verify") rows (λ is. cc) (λ is. do_fit (codes "proof") false rows fit)
    (λ is. cc) (λ is. cc) (λ is. cc) (λ is. cc) (λ is. cc))

-- the words of a subcommand of another name always fit
pub always_fitting : (name : Text) (rows : List Row) (answer : Result Command ParseFault)
    → bytes_eq name (codes "prove") ≡ false → bytes_eq name (codes "verify") ≡ false
    → bytes_eq name (codes "get") ≡ false → bytes_eq name (codes "pack") ≡ false
    → bytes_eq name (codes "explain") ≡ false → bytes_eq name (codes "scratch") ≡ false
    → bytes_eq name (codes "build") ≡ false → AnswersFitting (name, rows) answer
    → Answers (name, rows) answer
always_fitting name rows answer prove verify get pack explain scratch build =
    fitting (name, rows) answer (fits_where name rows (λ is. let bad = prove in cc)
    (λ is. let bad = verify in cc) (λ is. let bad = get in cc) (λ is. let bad = pack in cc)
    (λ is. let bad = explain in cc) (λ is. let bad = scratch in cc) (λ is. let bad = build in cc))
