-- How keys are shown.
use Rattle.std.specs.Prelude.{ℕ, List}
use Rattle.prolly_text.specs.Flaws.{shortened}
use Rattle.prolly_text.specs.declared.numbers.records.KeyForm.{KeyForm}
use Rattle.prolly_text.specs.declared.numbers.records.KeyForm.TheVariants.{Whole, Shortened}
use Rattle.prolly_text.specs.Notations.{written}

-- A key in this form: as its notation writes it, or shortened.
abbrev pub shown_in : KeyForm → List ℕ → List ℕ
shown_in (Whole notation) = written notation
shown_in (Shortened notation) = shortened notation
