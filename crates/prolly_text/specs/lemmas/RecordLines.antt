-- The records of the first lines of a text, one after another: what a loop over them may cite.
use Rattle.std.proofs.Common.{◌≡◌, ℕ, zero, suc, ◌+◌, List, [], ◌∷◌, ◌++◌, length, refl, sym}
use Rattle.std.proofs.Common.{ap, ◌∙◌, subst, arith, append_assoc, length-append}
use Rattle.std.proofs.lemmas.List.{append-nil, nil_from_length}
use Rattle.std.specs.List.{AllZip}
use Rattle.prolly_entry.specs.Record.{Record}
use Rattle.prolly_text.specs.Lines.{IsMarked, lines_of}
use Rattle.prolly_text.specs.PackedLines.{AreRecordsOf, IsFirstWrong, IsFlawAt, IsLineFault}
use Rattle.prolly_text.specs.PackedLines.{IsLinesFault, IsWrongLine, StandsAt, StandsFor}
use Rattle.prolly_text.specs.PackedLines.{bad_line, fault_at}
use Rattle.prolly_text.specs.RecordLines.{HaveComeOf}
use Rattle.prolly_text.specs.declared.lines.form.LineForm.{LineForm}
use Rattle.prolly_text.specs.declared.lines.line.LineFlaw.{LineFlaw}
use Rattle.prolly_text.specs.declared.lines.line.LineFlaw.TheVariants as flaws
use Rattle.prolly_text.specs.declared.lines.pack.LinesFault.{LinesFault}
use Rattle.prolly_text.specs.declared.lines.pack.LinesFault.TheVariants as lines
use Rattle.prolly_text.specs.declared.notation.Notation.{Notation}
use Rattle.prolly_text.specs.declared.notation.Notation.TheVariants.{Hex, Text}
use Rattle.prolly_text.specs.lemmas.Marks.{line_marked, none_marked, text_marked}

-- At the start none has come.
pub none_have_come : (form : LineForm) (text : List ℕ) → HaveComeOf form text text [] 0
none_have_come form text = record {
  done = [];
  whole = refl;
  stand = tt;
  number_is = refl;
  unmarked = λ some. absurd (omega arith);
}

zip_snoc : (form : LineForm) (ls : List (List ℕ)) (rs : List Record) (line : List ℕ) (r : Record) →
    AllZip (StandsFor form) ls rs → StandsFor form line r → AllZip (StandsFor form)
    (ls ++ line ∷ []) (rs ++ r ∷ [])
zip_snoc form [] [] line r h k = (k, tt)
zip_snoc form [] (s ∷ rs) line r h k = absurd h
zip_snoc form (l ∷ ls) [] line r h k = absurd h
zip_snoc form (l ∷ ls) (s ∷ rs) line r h k = (h.0, zip_snoc form ls rs line r h.1 k)

zip_length : (form : LineForm) (ls : List (List ℕ)) (rs : List Record) →
    AllZip (StandsFor form) ls rs → length ls ≡ length rs
zip_length form [] [] h = refl
zip_length form [] (r ∷ rs) h = absurd h
zip_length form (l ∷ ls) [] h = absurd h
zip_length form (l ∷ ls) (r ∷ rs) h = let more = zip_length form ls rs h.1 in omega arith

-- Where no line has come, the lines of the rest are those of the text.
first_rest : (form : LineForm) (text rest : List ℕ) (records : List Record) (number : ℕ) →
    HaveComeOf form text rest records number → number ≡ 0 → lines_of text ≡ lines_of rest
first_rest form text rest records number h none =
    h.whole ∙ ap (λ (ls : List (List ℕ)). ls ++ lines_of rest)
    (nil_from_length h.done (sym h.number_is ∙ none))

-- Where the first line of the rest is no first line with a mark, the text begins with no mark.
unmarked : (form : LineForm) (text rest line : List ℕ) (after : List (List ℕ))
    (records : List Record) (number : ℕ) → HaveComeOf form text rest records number →
    lines_of rest ≡ line ∷ after → (number ≡ 0 → IsMarked form.notation line → ⊥) →
    IsMarked form.notation text → ⊥
unmarked form text rest line after records number h e first mark = go number refl
  where
    go : (n : ℕ) → number ≡ n → ⊥
    go zero is = first is (text_marked form.notation text line after
        (first_rest form text rest records number h is ∙ e) mark)
    go (suc n) is = h.unmarked (omega arith) mark

-- One more has come: that of the first line of the rest.
pub one_more_has_come : (form : LineForm) (text rest rest' line : List ℕ) (records : List Record)
    (number : ℕ) (r : Record) → HaveComeOf form text rest records number →
    lines_of rest ≡ line ∷ lines_of rest' → StandsAt form number line r →
    HaveComeOf form text rest' (records ++ r ∷ []) (number + 1)
one_more_has_come form text rest rest' line records number r h e k = record {
  done = h.done ++ line ∷ [];
  whole = h.whole ∙ (ap (λ (ls : List (List ℕ)). h.done ++ ls) e ∙
      sym (append_assoc h.done (line ∷ []) (lines_of rest')));
  stand = zip_snoc form h.done records line r h.stand k.stands;
  number_is = let c = h.number_is in omega (arith, length-append h.done (line ∷ []));
  unmarked = λ some mark. unmarked form text rest line (lines_of rest') records number h e
      k.unmarked mark;
}

-- So many records have come as lines.
pub number_come : (form : LineForm) (text rest : List ℕ) (records : List Record) (number : ℕ) →
    HaveComeOf form text rest records number → number ≡ length records
number_come form text rest records number h = h.number_is ∙ zip_length form h.done records h.stand

-- Where nothing is left, all have come.
pub all_have_come : (form : LineForm) (text : List ℕ) (records : List Record) (number : ℕ) →
    HaveComeOf form text [] records number → AreRecordsOf form text records
all_have_come form text records number h = record {
  unmarked = λ mark. go number refl mark;
  stand = subst (λ ls. AllZip (StandsFor form) ls records) (sym all) h.stand;
}
  where
    all : lines_of text ≡ h.done
    all = h.whole ∙ append-nil h.done

    go : (n : ℕ) → number ≡ n → IsMarked form.notation text → ⊥
    go zero is mark = none_marked form.notation text
        (first_rest form text [] records number h is) mark
    go (suc n) is mark = h.unmarked (omega arith) mark

flaw_is_first : (form : LineForm) (text rest line : List ℕ) (after : List (List ℕ))
    (records : List Record) (number : ℕ) (fault : LinesFault) →
    HaveComeOf form text rest records number → lines_of rest ≡ line ∷ after →
    IsFlawAt form line number fault → IsLinesFault form text fault
flaw_is_first form text rest line after records number fault h e k =
    subst (IsLinesFault form text) (sym k.is) (go k.flaw k.wrong)
  where
    first : (flaw : LineFlaw) → IsWrongLine form line flaw → IsFirstWrong form text number flaw
    first flaw wrong = record {
      unmarked = λ mark. unmarked form text rest line after records number h e k.unmarked mark;
      before = h.done;
      line = line;
      after = after;
      whole = h.whole ∙ ap (λ (ls : List (List ℕ)). h.done ++ ls) e;
      number_is = h.number_is;
      records = records;
      stand = h.stand;
      wrong = wrong;
    }

    bad : (notation : Notation) → form.notation ≡ notation → IsWrongLine form line flaws.Bad →
        IsLinesFault form text (bad_line notation number)
    bad Hex is wrong = (is, first flaws.Bad wrong)
    bad Text is wrong = (is, first flaws.Bad wrong)

    go : (flaw : LineFlaw) → IsWrongLine form line flaw →
        IsLinesFault form text (fault_at form.notation flaw number)
    go flaws.Memory wrong = tt
    go flaws.Bad wrong = bad form.notation refl wrong
    go flaws.KeyTooLong wrong = first flaws.KeyTooLong wrong
    go flaws.ValueTooLong wrong = first flaws.ValueTooLong wrong

-- Where the first line of the rest is at fault, that is the fault of the text.
pub line_is_first_wrong : (form : LineForm) (text rest line : List ℕ) (after : List (List ℕ))
    (records : List Record) (number : ℕ) (fault : LinesFault) →
    HaveComeOf form text rest records number → lines_of rest ≡ line ∷ after →
    IsLineFault form line number fault → IsLinesFault form text fault
line_is_first_wrong form text rest line after records number lines.ByteOrderMark h e k =
    line_marked form.notation text line after
    (first_rest form text rest records number h k.0 ∙ e) k.1
line_is_first_wrong form text rest line after records number (lines.Pack fault) h e k =
    flaw_is_first form text rest line after records number (lines.Pack fault) h e k
line_is_first_wrong form text rest line after records number (lines.BadText place) h e k =
    flaw_is_first form text rest line after records number (lines.BadText place) h e k
