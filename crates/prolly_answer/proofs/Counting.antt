-- Counting the changes of a difference, record by record.
use Rattle.std.proofs.Common.{◌≡◌, ℕ, ◌+◌, Bool, true, false, cond, List, [], ◌∷◌, ◌++◌, length}
use Rattle.std.proofs.Common.{Result, Ok, Err, refl, sym, ap, ◌∙◌, arith, append_assoc}
use Rattle.std.specs.List.{count_by}
use Rattle.std.specs.Option.{is_some}
use Rattle.std.specs.Prelude.{◌&&◌, not, codes, IfOk}
use Rattle.std.proofs.lemmas.List.Sums.{sum_by-cons}
use Rattle.prolly_entry.specs.Pair.{Pair}
use Rattle.prolly_entry.specs.Record.{Record}
use Rattle.prolly_tree.specs.LookUp.{find}
use Rattle.prolly_look_up.specs.Content.{chunks_of, Content, IsFileOf}
use Rattle.prolly_chunk.specs.Missing.{AreSo, lacking}
use Rattle.prolly_chunk.specs.declared.missing.Missing.{Missing}
use Rattle.prolly_answer.specs.Counts.{AreCounts, is_added, is_changed, is_removed, counts_line}
use Rattle.prolly_answer.specs.Counts.{stat_text}
use Rattle.prolly_answer.specs.Diff.{stat_shown}
use Rattle.prolly_answer.specs.declared.answers.diff.ChangeCounts.{ChangeCounts}

-- ---- kinds of records

count_first : (p : Record → Bool) (r : Record) (records : List Record) →
    count_by p (r ∷ records) ≡ cond (p r) 1 0 + count_by p records
count_first p r records = sum_by-cons (λ x. cond (p x) 1 0) r records

one_kind : (b a : Bool) →
    cond (not b && a) 1 0 + cond (b && a) 1 0 + cond (not a) 1 0 ≡ 1
one_kind true true = refl
one_kind true false = refl
one_kind false true = refl
one_kind false false = refl

-- Each record is of one kind.
kinds : (old : List Pair) (records : List Record) → count_by (is_added old) records +
    count_by (is_changed old) records + count_by is_removed records ≡ length records
kinds old [] = refl
kinds old (r ∷ records) =
    let more = kinds old records in
    let one = one_kind (is_some (find old r.key)) (is_some r.value) in
    let a = count_first (is_added old) r records in
    let c = count_first (is_changed old) r records in
    let m = count_first is_removed r records in
    omega arith

pub all_counted : (old : List Pair) (records : List Record) (counts : ChangeCounts) →
    AreCounts old records counts →
    counts.added + counts.changed + counts.removed ≡ length records
all_counted old records counts h =
    let all = kinds old records in
    let a = h.added_is in let c = h.changed_is in let m = h.removed_is in omega arith

-- ---- the line

pub line_is : (old new : Content) (records : List Record) (counts : ChangeCounts)
    (missing : Missing) → AreCounts old.pairs records counts →
    AreSo (lacking (chunks_of old) (chunks_of new)) missing →
    stat_text counts.added counts.changed counts.removed missing.chunks missing.bytes ≡
    counts_line old new records
line_is old new records counts missing h k =
    let lacked = lacking (chunks_of old) (chunks_of new) in
    ap (λ n. stat_text n counts.changed counts.removed missing.chunks missing.bytes) h.added_is ∙
    ap (λ n. stat_text (count_by (is_added old.pairs) records) n counts.removed missing.chunks
    missing.bytes) h.changed_is ∙
    ap (λ n. stat_text (count_by (is_added old.pairs) records)
    (count_by (is_changed old.pairs) records) n missing.chunks missing.bytes) h.removed_is ∙
    ap (λ n. stat_text (count_by (is_added old.pairs) records)
    (count_by (is_changed old.pairs) records) (count_by is_removed records) n missing.bytes)
    k.chunks_are ∙
    ap (λ n. stat_text (count_by (is_added old.pairs) records)
    (count_by (is_changed old.pairs) records) (count_by is_removed records) (length lacked) n)
    k.bytes_are

pub line_shown : {T E : Type 0} (result : Result T E) (items : T → List ℕ)
    (counts : ChangeCounts) (missing : Missing) (stat : Bool) (old new : List ℕ) → stat ≡ true →
    ((after before : Content) → IsFileOf new after → IsFileOf old before →
    AreSo (lacking (chunks_of before) (chunks_of after)) missing) →
    IfOk result (λ out. items out ≡ stat_text counts.added counts.changed counts.removed
    missing.chunks missing.bytes) →
    IfOk result (λ out. (before after : Content) (records : List Record) → IsFileOf old before →
    IsFileOf new after → AreCounts before.pairs records counts →
    items out ≡ stat_shown stat before after records)
line_shown (Ok out) items counts missing stat old new asked so line =
    λ before after records is is' counted. line ∙
    (line_is before after records counts missing counted (so after before is' is) ∙
    ap (λ s. stat_shown s before after records) (sym asked))
line_shown (Err e) items counts missing stat old new asked so line = tt

-- The line is put together word by word.
pub line_made : (l0 l1 l2 l3 l4 l5 l6 d1 d2 d3 d4 d5 : List ℕ) → l0 ≡ [] →
    l1 ≡ l0 ++ codes "added" ++ 0x20 ∷ d1 → l2 ≡ l1 ++ codes " changed" ++ 0x20 ∷ d2 →
    l3 ≡ l2 ++ codes " removed" ++ 0x20 ∷ d3 → l4 ≡ l3 ++ codes " chunks" ++ 0x20 ∷ d4 →
    l5 ≡ l4 ++ codes " bytes" ++ 0x20 ∷ d5 → l6 ≡ l5 ++ 0x0A ∷ [] →
    l6 ≡ codes "added " ++ d1 ++ codes " changed " ++ d2 ++ codes " removed " ++ d3 ++
    codes " chunks " ++ d4 ++ codes " bytes " ++ d5 ++ 0x0A ∷ []
line_made l0 l1 l2 l3 l4 l5 l6 d1 d2 d3 d4 d5 e0 e1 e2 e3 e4 e5 e6 =
    e6 ∙ ap (λ l. l ++ 0x0A ∷ [])
    (e5 ∙ ap (λ l. l ++ codes " bytes" ++ 0x20 ∷ d5)
    (e4 ∙ ap (λ l. l ++ codes " chunks" ++ 0x20 ∷ d4)
    (e3 ∙ ap (λ l. l ++ codes " removed" ++ 0x20 ∷ d3)
    (e2 ∙ ap (λ l. l ++ codes " changed" ++ 0x20 ∷ d2)
    (e1 ∙ ap (λ l. l ++ codes "added" ++ 0x20 ∷ d1) e0))))) ∙ simp append_assoc
