-- Lines whose records are put in order, one after another.
use Rattle.std.proofs.Common.{◌≡◌, ◌≢◌, ◌∙◌, ◌+◌, ◌-◌, ◌^◌, ◌<◌, ◌≤◌, ℕ, Bool, true, false, cond}
use Rattle.std.proofs.Common.{List, [], ◌∷◌, ◌++◌, ◌==◌, length, length-append, refl, sym, ap}
use Rattle.std.proofs.Common.{arith}
use Rattle.prolly_entry.specs.Record.{Record}
use Rattle.prolly_text.specs.Lines.{lines_of}
use Rattle.prolly_text.specs.RecordLines.{HaveComeOf, IsReadLinesFault}
use Rattle.prolly_text.specs.declared.lines.form.LineForm.{LineForm}
use Rattle.prolly_text.specs.declared.lines.reader.ReadLinesFault.{ReadLinesFault}
use Rattle.prolly_text.specs.declared.lines.reader.ReadLinesFault.TheVariants as faults
use Rattle.prolly_text.specs.lemmas.RecordLines.{line_is_first_wrong, number_come}
use Rattle.prolly_tree.specs.Split.{in_front}
use Rattle.prolly_sort.specs.Run.{AreDoubled}
use Rattle.prolly_sort.specs.declared.fault.SorterFault.{SorterFault}
use Rattle.prolly_sort.specs.declared.fault.SorterFault.TheVariants as sorters
use Rattle.prolly_fault.specs.Faults.{of_read_lines, of_sorter}
use Rattle.prolly_answer.specs.SortedPack.{IsSortingFault}

-- A text of some bytes has a first line.
in_some_line : (b : ℕ) (lines : List (List ℕ)) → 1 ≤ length (in_front b lines)
in_some_line b [] = omega arith
in_some_line b (line ∷ lines) = omega arith

has_line : (text : List ℕ) → text ≢ [] → 1 ≤ length (lines_of text)
has_line [] some = absurd (some refl)
has_line (b ∷ text) some = go (b == 0x0A)
  where
    go : (c : Bool) → 1 ≤ length (cond c ([] ∷ lines_of text) (in_front b (lines_of text)))
    go true = omega arith
    go false = in_some_line b (lines_of text)

over_most : (all done rest number : ℕ) → all ≡ done + rest → 1 ≤ rest → number ≡ done →
    number ≡ 2 ^ 64 - 1 → 2 ^ 64 ≤ all
over_most all done rest number a r n m = omega arith

at_most : (number : ℕ) → number ≡ 2 ^ 64 - 1 → 0 < number
at_most number m = omega arith

-- Where two of the records have one key, some lines have come.
some_come : (form : LineForm) (text rest : List ℕ) (records : List Record) (number : ℕ)
    (first second : ℕ) → HaveComeOf form text rest records number →
    AreDoubled records first second → 0 < number
some_come form text rest records number first second h d =
    let come = number_come form text rest records number h in
    let within = d.within in omega arith

-- The fault of the next line is one of the text, where no read failed but for a read that is told.
pub fault_of_text : (form : LineForm) (text rest : List ℕ) (records : List Record) (number : ℕ)
    (fault : ReadLinesFault) (unique : Bool) (has_failed : Type 0) (keeps : Bool) →
    HaveComeOf form text rest records number →
    IsReadLinesFault form number rest fault →
    (fault ≡ faults.Read → has_failed) → (fault ≢ faults.Read → ¬ has_failed) →
    IsSortingFault form unique text has_failed keeps (of_read_lines fault)
fault_of_text form text rest records number faults.Read unique has_failed keeps h k read unread = read refl
fault_of_text form text rest records number (faults.Line fault) unique has_failed keeps h k read unread = (
  unread (λ e. cc),
  line_is_first_wrong form text rest k.line k.after records number fault h k.whole k.wrong,
)
fault_of_text form text rest records number (faults.LineTooLong line) unique has_failed keeps h k read unread = (
  unread (λ e. cc),
  record {
    unmarked = λ some mark. h.unmarked (rw (sym k.0) some) mark;
    before = h.done;
    line = k.1.line;
    after = k.1.after;
    whole = h.whole ∙ ap (λ lines. h.done ++ lines) k.1.whole;
    number_is = k.0 ∙ h.number_is;
    records = records;
    stand = h.stand;
    over = k.1.over;
  },
)
fault_of_text form text rest records number faults.TooManyLines unique has_failed keeps h k read unread =
    let some = has_line rest k.1 in
    let all = ap length h.whole ∙ length-append h.done (lines_of rest) in (
      unread (λ e. cc),
      over_most (length (lines_of text)) (length h.done) (length (lines_of rest)) number all some
          h.number_is k.0,
      λ mark. h.unmarked (at_most number k.0) mark,
    )

-- The fault of a sorter to which the records of the first lines came is one of the text, where no
-- read failed.
pub fault_of_sorter : (form : LineForm) (text rest : List ℕ) (records : List Record) (number : ℕ)
    (fault : SorterFault) (unique : Bool) (has_failed : Type 0) (keeps : Bool) →
    HaveComeOf form text rest records number → ¬ has_failed →
    ((first second : ℕ) → fault ≡ sorters.Doubled first second →
    (unique ≡ true) × (keeps ≡ true → AreDoubled records first second)) →
    IsSortingFault form unique text has_failed keeps (of_sorter fault)
fault_of_sorter form text rest records number (sorters.Store fault) unique has_failed keeps h
    unfailed told = unfailed
fault_of_sorter form text rest records number (sorters.Doubled first second) unique has_failed keeps
    h unfailed told =
    let two = told first second refl in (
      unfailed,
      two.0,
      λ kept. record {
        unmarked = λ mark. h.unmarked
            (some_come form text rest records number first second h (two.1 kept)) mark;
        before = h.done;
        after = lines_of rest;
        whole = h.whole;
        records = records;
        stand = h.stand;
        doubled = two.1 kept;
      },
    )
