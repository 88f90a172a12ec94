-- Packing a text line by line.
use Rattle.std.proofs.Common.{◌≡◌, ℕ, ◌+◌, ◌<◌, ◌≤◌, List, [], ◌∷◌, ◌++◌, length, sym, ap, ◌∙◌}
use Rattle.std.proofs.Common.{subst, arith, append_assoc}
use Rattle.std.proofs.lemmas.List.{append-nil}
use Rattle.std.proofs.lemmas.List.Concat.{flat_map-append}
use Rattle.std.specs.List.{flat_map}
use Rattle.prolly_entry.specs.Record.{Record}
use Rattle.prolly_entry.specs.Spelling.{record_spelling}
use Rattle.prolly_text.specs.declared.lines.form.LineForm.{LineForm}
use Rattle.prolly_text.specs.declared.lines.pack.LinesFault.{LinesFault}
use Rattle.prolly_text.specs.Lines.{lines_of}
use Rattle.prolly_text.specs.PackedLines.{IsLineFault, IsLinesFault, Packs, PacksLine}
use Rattle.prolly_text.specs.RecordLines.{HaveComeOf}
use Rattle.prolly_text.specs.lemmas.RecordLines.{all_have_come, line_is_first_wrong}
use Rattle.prolly_text.specs.lemmas.RecordLines.{none_have_come, number_come, one_more_has_come}

-- Some lines are packed, and the rest follows.
pub record IsUnderWay (form : LineForm) (text old out rest : List ℕ) (count : ℕ) : Type 0 where
  pub records : List Record
  pub come : HaveComeOf form text rest records count
  pub appended : out ≡ old ++ flat_map record_spelling records
  pub few : count + length rest ≤ length text

pub none_packed : (form : LineForm) (text old : List ℕ) → IsUnderWay form text old old text 0
none_packed form text old = record {
  records = [];
  come = none_have_come form text;
  appended = sym (append-nil old);
  few = omega arith;
}

pub one_packed : (form : LineForm) (text old out out' rest line next : List ℕ) (count : ℕ) →
    IsUnderWay form text old out rest count → lines_of rest ≡ line ∷ lines_of next →
    length next < length rest → PacksLine form line count out out' →
    IsUnderWay form text old out' next (count + 1)
one_packed form text old out out' rest line next count h e less k = record {
  records = h.records ++ k.one ∷ [];
  come = one_more_has_come form text rest next line h.records count k.one h.come e k.stands;
  appended = k.appended ∙ (ap (λ (t : List ℕ). t ++ record_spelling k.one) h.appended
      ∙ (append_assoc old (flat_map record_spelling h.records) (record_spelling k.one)
      ∙ ap (λ (t : List ℕ). old ++ t) (sym (flat_map-append record_spelling h.records (k.one ∷ [])
      ∙ ap (λ (t : List ℕ). flat_map record_spelling h.records ++ t)
      (append-nil (record_spelling k.one))))));
  few = let f = h.few in omega arith;
}

pub all_packed : (form : LineForm) (text old out rest : List ℕ) (count : ℕ) →
    IsUnderWay form text old out rest count → rest ≡ [] → Packs form text old out count
all_packed form text old out rest count h e =
    let come = subst (λ (t : List ℕ). HaveComeOf form text t h.records count) e h.come in record {
      records = h.records;
      are = all_have_come form text h.records count come;
      appended = h.appended;
      count_is = number_come form text [] h.records count come;
    }

pub line_refused : (form : LineForm) (text old out rest line next : List ℕ) (count : ℕ)
    (fault : LinesFault) → IsUnderWay form text old out rest count →
    lines_of rest ≡ line ∷ lines_of next → IsLineFault form line count fault →
    IsLinesFault form text fault
line_refused form text old out rest line next count fault h e k =
    line_is_first_wrong form text rest line (lines_of next) h.records count fault h.come e k
