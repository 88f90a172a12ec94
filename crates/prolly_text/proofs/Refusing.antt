-- A line that is refused.
use Rattle.std.proofs.Common.{◌≡◌, ℕ, List, ◌∷◌, ◌++◌, Option, Result, Ok, Err, length, take}
use Rattle.std.proofs.Common.{drop, arith, sym, subst, ◌∙◌, ap}
use Rattle.std.proofs.lemmas.List.{length-take}
use Rattle.std.specs.Result.{IsErrAnd}
use Rattle.prolly_entry.specs.Record.{Record}
use Rattle.prolly_text.specs.Ahead.{IsAhead, IsWithin}
use Rattle.prolly_text.specs.Lines.{lines_of}
use Rattle.prolly_text.specs.PackedLines.{IsLineFault}
use Rattle.prolly_text.specs.RecordLines.{IsNextOf}
use Rattle.prolly_text.specs.declared.lines.buffer.Ahead.{Ahead}
use Rattle.prolly_text.specs.declared.lines.buffer.Ahead.TheVariants.{Line}
use Rattle.prolly_text.specs.declared.lines.form.LineForm.{LineForm}
use Rattle.prolly_text.specs.declared.lines.pack.LinesFault.{LinesFault}
use Rattle.prolly_text.specs.declared.lines.reader.ReadLinesFault.{ReadLinesFault}
use Rattle.prolly_text.specs.declared.lines.reader.ReadLinesFault.TheVariants as faults

-- The line ahead is at fault, and the reader says so.
pub line_ahead_refused : (form : LineForm) (number : ℕ) (rest unparsed left line : List ℕ)
    (ahead : Ahead) (len size : ℕ) (fault : LinesFault)
    (result : Result (Option Record) ReadLinesFault) →
    IsErrAnd result (λ f. f ≡ faults.Line fault) → ahead ≡ Line len size →
    IsWithin unparsed ahead → (rest ≡ unparsed ++ left) × IsAhead unparsed left ahead →
    line ≡ take len unparsed → IsLineFault form line number fault →
    IsNextOf form number rest (unparsed ++ left) result
line_ahead_refused form number rest unparsed left line ahead len size fault (Ok given) told is
    within looks line_is wrong = absurd told
line_ahead_refused form number rest unparsed left line ahead len size fault (Err f) told is within
    looks line_is wrong =
    let lies = subst (IsWithin unparsed) is within in
    let whole = subst (IsAhead unparsed left) is looks.1 in
    subst (λ e. IsNextOf form number rest (unparsed ++ left) (Err e)) (sym told) (
      record {
        line = line;
        after = lines_of (drop size unparsed ++ left);
        whole = ap lines_of looks.0 ∙ (whole.whole ∙
            ap (λ (t : List ℕ). t ∷ lines_of (drop size unparsed ++ left)) (sym line_is));
        short = let s = lies.short in
            omega (arith, ap length line_is, length-take len unparsed);
        wrong = wrong;
      },
      sym looks.0,
    )
