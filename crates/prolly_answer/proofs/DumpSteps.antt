-- Writing the pairs of leaves as lines, leaf by leaf.
use Rattle.std.proofs.Common.{◌≡◌, List, [], ◌++◌, Some, Ok, Err, refl, sym, ap}
use Rattle.std.proofs.Common.{◌∙◌, subst, append_assoc}
use Rattle.std.proofs.lemmas.List.{map-append}
use Rattle.std.proofs.lemmas.List.Concat.{flat_map-append}
use Rattle.std.proofs.lemmas.List.Folds.{flat_map-map}
use Rattle.prolly_entry.specs.Pair.{Pair}
use Rattle.prolly_entry.specs.Record.{Record}
use Rattle.prolly_io.specs.Sink.{IsSettled, SinkView}
use Rattle.prolly_io.specs.Writes.{Writes}
use Rattle.prolly_text.specs.declared.notation.Notation.{Notation}
use Rattle.prolly_tree.specs.Difference.{puts}
use Rattle.prolly_tree.specs.RecordFile.{record_file}
use Rattle.prolly_fault.specs.declared.output_fault.OutputFault.TheVariants.{Write}
use Rattle.prolly_text.specs.declared.lines.form.RecordForm.{RecordForm}
use Rattle.prolly_text.specs.declared.lines.form.RecordForm.TheVariants.{Lines, Records}
use Rattle.prolly_answer.specs.Dump.{IsStoppedDump, MayStop, RecordFilesAreDumped}
use Rattle.prolly_answer.specs.LookUps.{pair_lines}
use Rattle.prolly_answer.specs.Outputs.{TookAll, TookPart, TookPrefix, TookUntil}
use Rattle.prolly_text.specs.RecordForms.{spelled, written_records}
use Rattle.prolly_answer.proofs.Writing.{TookSoFar, took_none, took_more, took_front, took_until}
use Rattle.prolly_answer.proofs.Writing.{wrote_all, wrote_part}

-- The record that puts a pair.
abbrev pub put_of : Pair → Record
put_of p = record { key = p.key; value = Some p.value }

pub record_files_are_dumped : RecordFilesAreDumped
record_files_are_dumped m = flat_map-map (spelled Records) put_of m

-- What is written of more pairs stands behind the rest.
pub written_append : (form : RecordForm) (ps qs : List Pair) →
    written_records form (puts (ps ++ qs)) ≡
    written_records form (puts ps) ++ written_records form (puts qs)
written_append form ps qs = ap (written_records form) (map-append put_of ps qs) ∙
    flat_map-append (spelled form) (puts ps) (puts qs)

-- ---- a record file

module _ {W : Type 0} (seen : W → SinkView) (form : RecordForm) (is : form ≡ Records)
    (m : List Pair) (old new : W) where
  same_bytes : record_file m ≡ written_records form (puts m)
  same_bytes = subst (λ f. record_file m ≡ written_records f (puts m)) (sym is)
      (sym (record_files_are_dumped m))

  pub file_dumped : {T E : Type 0} (x : T) →
      Writes {T = T} {E = E} (record_file m) (seen old) (seen new) (Ok x) →
      IsSettled (seen new) → TookAll seen (written_records form (puts m)) old new
  file_dumped x w settled = subst (λ bytes. TookAll seen bytes old new) same_bytes
      (wrote_all seen x (record_file m) old new w settled)

  pub file_stopped : {T E : Type 0} (x : E) →
      Writes {T = T} {E = E} (record_file m) (seen old) (seen new) (Err x) →
      IsStoppedDump form (λ fault bytes. TookUntil seen fault bytes old new) Write (puts m)
  file_stopped x w = (
    subst (λ f. MayStop f Write) (sym is) refl,
    subst (λ bytes. TookPart seen bytes old new) same_bytes
        (wrote_part seen x (record_file m) old new w),
  )

-- ---- leaf by leaf

-- Of all pairs these are left, and a line was written for each of those before them.
pub record AreListed {W : Type 0} (seen : W → SinkView) (notation : Notation)
    (pairs left : List Pair) (old new : W) : Type 0 where
  pub done : List Pair
  pub all : pairs ≡ done ++ left
  pub took : TookSoFar seen (pair_lines notation done) old new

module _ {W : Type 0} (seen : W → SinkView) (notation : Notation) where
  pub none_listed : (pairs : List Pair) (old : W) → AreListed seen notation pairs pairs old old
  none_listed pairs old = record { done = []; all = refl; took = took_none seen old }

  module _ (pairs left : List Pair) (old mid : W) (l : AreListed seen notation pairs left old mid)
    where
      all_lines : pair_lines notation pairs ≡ pair_lines notation l.done ++ pair_lines notation left
      all_lines = ap (pair_lines notation) l.all ∙ written_append (Lines notation) l.done left

      pub leaf_stopped : TookPrefix seen (pair_lines notation pairs) old mid
      leaf_stopped = took_front seen (pair_lines notation l.done) old mid l.took
          (pair_lines notation pairs)
          (pair_lines notation left) all_lines

      -- One leaf more.
      module _ (leaf rest : List Pair) (split : left ≡ leaf ++ rest) (new : W) where
        pub one_listed : {T E : Type 0} (x : T) →
            Writes {T = T} {E = E} (pair_lines notation leaf) (seen mid) (seen new) (Ok x) →
            AreListed seen notation pairs rest old new
        one_listed x w = record {
          done = l.done ++ leaf;
          all = l.all ∙ ap (λ ps. l.done ++ ps) split ∙ sym (append_assoc l.done leaf rest);
          took = subst (λ bytes. TookSoFar seen bytes old new)
              (sym (written_append (Lines notation) l.done leaf))
              (took_more seen (pair_lines notation l.done) old mid l.took x
              (pair_lines notation leaf)
              new w);
        }

        pub leaf_failed : {T E : Type 0} (x : E) →
            Writes {T = T} {E = E} (pair_lines notation leaf) (seen mid) (seen new) (Err x) →
            TookPart seen (pair_lines notation pairs) old new
        leaf_failed x w = took_until seen (pair_lines notation l.done) old mid l.took x
            (pair_lines notation pairs)
            (pair_lines notation leaf) (pair_lines notation rest) new
            (all_lines ∙ ap (λ bytes. pair_lines notation l.done ++ bytes)
            (ap (pair_lines notation) split ∙ written_append (Lines notation) leaf rest)) w
