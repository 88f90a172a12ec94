-- Lines that are written, and what they stand for.
use Rattle.std.proofs.Common.{◌≡◌, ◌≢◌, ℕ, Bool, true, false, List, [], ◌∷◌, ◌++◌, length, map}
use Rattle.std.proofs.Common.{Option, Some, None, refl, sym, ap, ◌∙◌, subst, append_assoc}
use Rattle.std.proofs.Common.{append-nil}
use Rattle.std.specs.Prelude.{IfSome, IfNone}
use Rattle.std.specs.List.{flat_map, AllByRecursion, AllZip}
use Rattle.prolly_entry.specs.Byte.{IsByte}
use Rattle.prolly_entry.specs.Record.{Record, IsRecord}
use Rattle.prolly_entry.specs.Spelling.{record_spelling}
use Rattle.prolly_entry.specs.lemmas.Lists.{all_append}
use Rattle.prolly_text.specs.Notations.{IsWritten, separator, written}
use Rattle.prolly_text.specs.declared.notation.Notation.{Notation}
use Rattle.prolly_text.specs.declared.notation.Notation.TheVariants.{Hex, Text}
use Rattle.prolly_text.specs.lemmas.Marks.{BeginsUnmarked, shown_unmarked}
use Rattle.prolly_text.specs.lemmas.Notations.{one_reading, written_is_read, written_shows}
use Rattle.prolly_text.specs.declared.lines.form.LineForm.{LineForm}
use Rattle.prolly_text.specs.declared.lines.form.RecordForm.TheVariants.{Lines}
use Rattle.prolly_text.specs.Lines.{lines_of, CutsAt, IsLineOf, IsMarked, IsPairLine, IsRemovalLine}
use Rattle.prolly_text.specs.PackedLines.{HasLine, IsOfBytes, LinesArePacked, ReadsRemovals}
use Rattle.prolly_text.specs.PackedLines.{StandsFor}
use Rattle.prolly_text.specs.RecordForms.{change_text, record_line, removal_mark, written_records}
use Rattle.prolly_text.proofs.LineLemmas.{Lacks, dash_texts, has_byte, lacks_newline}
use Rattle.prolly_text.proofs.LineLemmas.{lacks_separator, line_first, pair_texts}

-- The line of a record without its newline.
abbrev line_text : Notation → Record → List ℕ
line_text notation r = written notation r.key ++ change_text notation r.value

-- ---- the lines of a text that was written

written_lacks : (notation : Notation) (bytes : List ℕ) → AllByRecursion IsByte bytes →
    Lacks 0x0A (written notation bytes)
written_lacks notation bytes h = lacks_newline notation (written notation bytes) bytes
    (written_is_read notation bytes h)

separator_apart : (notation : Notation) → separator notation ≢ 0x0A
separator_apart Hex e = cc
separator_apart Text e = cc

mark_lacks : (notation : Notation) → Lacks 0x0A (removal_mark notation)
mark_lacks Hex = (λ e. cc, (λ e. cc, tt))
mark_lacks Text = tt

change_lacks : (notation : Notation) (value : Option (List ℕ)) →
    IfSome value (AllByRecursion IsByte) → Lacks 0x0A (change_text notation value)
change_lacks notation None h = mark_lacks notation
change_lacks notation (Some value) h =
    (separator_apart notation, written_lacks notation value h)

text_lacks : (notation : Notation) (r : Record) → IsOfBytes r → Lacks 0x0A (line_text notation r)
text_lacks notation r h = all_append (λ b. b ≢ 0x0A) (written notation r.key)
    (change_text notation r.value) (written_lacks notation r.key h.key)
    (change_lacks notation r.value h.value)

line_apart : (notation : Notation) (r : Record) (rest : List ℕ) →
    record_line notation r ++ rest ≡ line_text notation r ++ 0x0A ∷ rest
line_apart notation r rest = simp append_assoc

lines_are : (notation : Notation) (records : List Record) → AllByRecursion IsOfBytes records →
    lines_of (written_records (Lines notation) records) ≡ map (line_text notation) records
lines_are notation [] h = refl
lines_are notation (r ∷ records) h =
    let rest = written_records (Lines notation) records in
    ap lines_of (line_apart notation r rest) ∙
    (line_first (line_text notation r) rest (text_lacks notation r h.0) ∙
    ap (λ lines. line_text notation r ∷ lines) (lines_are notation records h.1))

-- ---- what a line stands for

removal_read : (notation : Notation) (removals : Bool) (key : List ℕ) →
    AllByRecursion IsByte key → ReadsRemovals notation removals →
    IsRemovalLine notation removals (written notation key ++ removal_mark notation) key
removal_read Hex removals key h reads = record {
  key_text = written Hex key;
  is = refl;
  key_is = written_is_read Hex key h;
}
removal_read Text removals key h reads =
    subst (λ b. IsRemovalLine Text b (written Text key ++ []) key) (sym reads)
    (subst (λ t. IsWritten Text t key) (sym (append-nil (written Text key)))
    (written_is_read Text key h))

line_read : (form : LineForm) (r : Record) → IsOfBytes r → HasLine form r →
    IsLineOf form (line_text form.notation r) r.key r.value
line_read form r h reads = go r.value h.value reads
  where
    notation : Notation
    notation = form.notation

    go : (value : Option (List ℕ)) → IfSome value (AllByRecursion IsByte) →
        IfNone value (ReadsRemovals form.notation form.removals) →
        IsLineOf form (written notation r.key ++ change_text notation value) r.key value
    go None k reads = removal_read form.notation form.removals r.key h.key reads
    go (Some value) k reads = record {
      key_text = written notation r.key;
      value_text = written notation value;
      is = refl;
      key_is = written_is_read notation r.key h.key;
      value_is = written_is_read notation value k;
    }

-- A dash is no value.
dash_unread : (value : List ℕ) → IsWritten Hex (0x2D ∷ []) value → ⊥
dash_unread value e = cc

same_record : (key key' : List ℕ) (value value' : Option (List ℕ)) → key ≡ key' → value ≡ value' →
    ◌≡◌ {A = Record} (record { key = key; value = value }) (record { key = key'; value = value' })
same_record key key' value value' e f = cc

-- The separator of a put's line is the first one.
put_cut : (notation : Notation) (key value : List ℕ) → AllByRecursion IsByte key →
    CutsAt (separator notation) (written notation key ++ separator notation ∷ written notation
    value)
    (written notation key) (written notation value)
put_cut notation key value h = record {
  is = refl;
  none = lacks_separator notation (written notation key) key (written_is_read notation key h);
}

-- A put's line removes nothing.
put_removes : (notation : Notation) (removals : Bool) (key value other : List ℕ) →
    AllByRecursion IsByte key → AllByRecursion IsByte value → IsRemovalLine notation removals
    (written notation key ++ separator notation ∷ written notation value) other → ⊥
put_removes Hex removals key value other h k line =
    let same = (dash_texts (written Hex key ++ 0x20 ∷ written Hex value) (written Hex key)
    (written Hex value) other (put_cut Hex key value h) line).1 in
    dash_unread value (subst (λ t. IsWritten Hex t value) (sym same) (written_is_read Hex value k))
put_removes Text true key value other h k line =
    has_byte 0x09 (written Text key ++ 0x09 ∷ written Text value) (written Text key)
    (written Text value) (lacks_separator Text (written Text key ++ 0x09 ∷ written Text value) other
    line) refl
put_removes Text false key value other h k line = line

-- A removal's line puts nothing.
removal_puts : (notation : Notation) (key other value : List ℕ) → AllByRecursion IsByte key →
    IsPairLine notation (written notation key ++ removal_mark notation) other value → ⊥
removal_puts Hex key other value h line =
    let cut : CutsAt 0x20 (written Hex key ++ 0x20 ∷ 0x2D ∷ []) (written Hex key) (0x2D ∷ []) =
    record {
      is = refl;
      none = lacks_separator Hex (written Hex key) key (written_is_read Hex key h);
    } in
    let same = (pair_texts Hex (written Hex key ++ 0x20 ∷ 0x2D ∷ []) (written Hex key) (0x2D ∷ [])
    other value cut line).1 in
    dash_unread value (subst (λ t. IsWritten Hex t value) same line.value_is)
removal_puts Text key other value h line =
    has_byte 0x09 (written Text key) line.key_text line.value_text
    (lacks_separator Text (written Text key) key (written_is_read Text key h))
    (sym (append-nil (written Text key)) ∙ line.is)

-- A removal's line removes one key.
removal_same : (notation : Notation) (removals : Bool) (key other : List ℕ) →
    AllByRecursion IsByte key →
    IsRemovalLine notation removals (written notation key ++ removal_mark notation) other →
    other ≡ key
removal_same Hex removals key other h line =
    let cut : CutsAt 0x20 (written Hex key ++ 0x20 ∷ 0x2D ∷ []) (written Hex key) (0x2D ∷ []) =
    record {
      is = refl;
      none = lacks_separator Hex (written Hex key) key (written_is_read Hex key h);
    } in
    let same = (dash_texts (written Hex key ++ 0x20 ∷ 0x2D ∷ []) (written Hex key) (0x2D ∷ [])
    other cut line).0 in
    one_reading Hex (written Hex key) other key
    (subst (λ t. IsWritten Hex t other) same line.key_is) (written_is_read Hex key h)
removal_same Text true key other h line =
    one_reading Text (written Text key) other key
    (subst (λ t. IsWritten Text t other) (append-nil (written Text key)) line)
    (written_is_read Text key h)
removal_same Text false key other h line = absurd line

-- And a line stands for one record.
one_record : (form : LineForm) (r s : Record) → IsOfBytes r →
    IsLineOf form (line_text form.notation r) s.key s.value → s ≡ r
one_record form r s h line = go r.value s.value h.value line
  where
    n : Notation
    n = form.notation

    go : (value other : Option (List ℕ)) → IfSome value (AllByRecursion IsByte) →
        IsLineOf form (written n r.key ++ change_text n value) s.key other →
        ◌≡◌ {A = Record} (record { key = s.key; value = other })
        (record { key = r.key; value = value })
    go None None k line = same_record s.key r.key None None
        (removal_same form.notation form.removals r.key s.key h.key line) refl
    go None (Some other) k line = absurd (removal_puts form.notation r.key s.key other h.key line)
    go (Some value) None k line =
        absurd (put_removes form.notation form.removals r.key value s.key h.key k line)
    go (Some value) (Some other) k line =
        let texts = pair_texts n (written n r.key ++ separator n ∷ written n value)
        (written n r.key)
        (written n value) s.key other (put_cut n r.key value h.key) line in
        same_record s.key r.key (Some other) (Some value)
        (one_reading n (written n r.key) s.key r.key
        (subst (λ t. IsWritten n t s.key) texts.0 line.key_is) (written_is_read n r.key h.key))
        (ap (λ x. Some x) (one_reading n (written n value) other value
        (subst (λ t. IsWritten n t other) texts.1 line.value_is) (written_is_read n value k)))

-- ---- all lines

-- What follows the key in a line.
abbrev behind_key : Notation → Option (List ℕ) → List ℕ → List ℕ
behind_key notation value rest = (change_text notation value ++ 0x0A ∷ []) ++ rest

no_mark_behind : (value : Option (List ℕ)) (rest : List ℕ) →
    BeginsUnmarked (behind_key Text value rest)
no_mark_behind None rest after e = cc
no_mark_behind (Some value) rest after e = cc

-- Lines that were written begin with no byte order mark.
unmarked : (notation : Notation) (records : List Record) → AllByRecursion IsOfBytes records →
    IsMarked notation (written_records (Lines notation) records) → ⊥
unmarked Hex records h marked = marked
unmarked Text [] h marked = cc
unmarked Text (r ∷ records) h marked =
    let rest = written_records (Lines Text) records in
    shown_unmarked (written Text r.key) (behind_key Text r.value rest)
    (written_shows Text r.key h.0.key) (no_mark_behind r.value rest) (
      marked.0,
      sym (append_assoc (written Text r.key) (change_text Text r.value ++ 0x0A ∷ []) rest) ∙ marked.1,
    )

all_stand : (form : LineForm) (records : List Record) → AllByRecursion IsRecord records →
    AllByRecursion IsOfBytes records → AllByRecursion (HasLine form) records →
    AllZip (StandsFor form) (map (line_text form.notation) records) records
all_stand form [] h k l = tt
all_stand form (r ∷ records) h k l =
    ((line_read form r k.0 l.0, h.0), all_stand form records h.1 k.1 l.1)

same_records : (form : LineForm) (records others : List Record) →
    AllByRecursion IsOfBytes records →
    AllZip (StandsFor form) (map (line_text form.notation) records) others → others ≡ records
same_records form [] [] h k = refl
same_records form [] (s ∷ others) h k = absurd k
same_records form (r ∷ records) [] h k = absurd k
same_records form (r ∷ records) (s ∷ others) h k =
    let first = one_record form r s h.0 k.0.0 in
    let rest = same_records form records others h.1 k.1 in cc

pub lines_are_packed : LinesArePacked
lines_are_packed form records old new count h k l =
    let lines = lines_are form.notation records k in (
      λ packs. let same = same_records form records packs.records k
          (subst (λ ls. AllZip (StandsFor form) ls packs.records) lines packs.are.stand) in (
            packs.appended ∙ ap (λ rs. old ++ flat_map record_spelling rs) same,
            packs.count_is ∙ ap length same,
          ),
      λ is. record {
        records = records;
        are = record {
          unmarked = unmarked form.notation records k;
          stand = subst (λ ls. AllZip (StandsFor form) ls records) (sym lines)
              (all_stand form records h k l);
        };
        appended = is.0;
        count_is = is.1;
      },
    )
