use Rattle.std.proofs.Common.{◌∙◌, sym, subst}
use Rattle.std.specs.List.{AllByRecursion}
use Rattle.prolly_entry.specs.Record.{IsRecord}
use Rattle.prolly_load.specs.lemmas.Writers.{same_at_first}
use Rattle.prolly_merge.specs.Inputs.{lists_of}
use Rattle.prolly_merge.specs.Unique.{AreApart}
use Rattle.prolly_sort.specs.Shelf.{HoldsIn}
use Rattle.prolly_sort.specs.Told.{AreTold, IsToldOf, Obeys, number_in}
use Rattle.prolly_sort.proofs.Once.{all_obey, last_obeys}
use Rattle.prolly_sort.proofs.Readers.{gave_parts, given_by, parts_obey, sent_whole}
use Rattle.prolly_sort.proofs.Telling.{told_merged, two_told}
use Rattle.prolly_sort.proofs.merging.merged.Goals as goal

pub returns-in_ok-file_of-in-LastCounts-clause-sorted :
    goal.returns-in_ok-file_of-in-LastCounts-clause-sorted
returns-in_ok-file_of-in-LastCounts-clause-sorted g c = λ came keeps stored lawful.
    let seen = g.S.Source.seen in
    let rule = c.args.rule in
    let runs = c.args.runs.items in
    let done = c.merge_records-merged in
    let new = c.in_ok-file.ensures.empty keeps in
    let written = done.result.out.writing in
    let sorted = c.in_ok-file_of-in-LastCounts in
    let gave = gave_parts seen rule runs stored.parts done.result.inputs.items stored.each
    (subst (AllByRecursion IsRecord) stored.all lawful)
    (rw c.in_ok-readers.ensures at done.ensures.inputs) in
    let whole = sent_whole seen rule runs came stored done.result.inputs.items gave written.records
    done.result.out.end
    ((rw (c.in_ok-readers.ensures, c.new-out.ensures) at done.ensures.merged) gave.rising)
    sorted.ensures.clean in
    let same = same_at_first written.begun (g.W.Sink.seen c.in_ok-file.file)
    (rw c.new-out.ensures at done.ensures.out_link) in (
      record {
        holds = subst (HoldsIn g.W.Sink.seen sorted.field-0.file sorted.field-0.len) whole.sent
            (sorted.ensures.whole (same.keeping ∙ new.0) (same.taken ∙ new.1));
        settled = sorted.ensures.settled;
      },
      last_obeys rule came c.in-LastCounts.is,
    )

pub returns-in_ok-file_of-in-None-clause-sorted : goal.returns-in_ok-file_of-in-None-clause-sorted
returns-in_ok-file_of-in-None-clause-sorted g c = λ came keeps stored lawful.
    let seen = g.S.Source.seen in
    let rule = c.args.rule in
    let runs = c.args.runs.items in
    let done = c.merge_unique-out in
    let new = c.in_ok-file.ensures.empty keeps in
    let written = done.result.out.writing in
    let sorted = c.in_ok-file_of-in-None in
    let gave = gave_parts seen rule runs stored.parts done.result.inputs.items stored.each
    (subst (AllByRecursion IsRecord) stored.all lawful)
    (rw c.in_ok-readers.ensures at done.ensures.inputs) in
    let sends = (rw (c.in_ok-readers.ensures, c.new-out.ensures, c.in-None.is) at done.ensures.merged)
    gave.rising in
    let whole = sent_whole seen rule runs came stored done.result.inputs.items gave written.records
    done.result.out.end sends.0 sorted.ensures.clean in
    let same = same_at_first written.begun (g.W.Sink.seen c.in_ok-file.file)
    (rw c.new-out.ensures at done.ensures.out_link) in (
      record {
        holds = subst (HoldsIn g.W.Sink.seen sorted.field-0.file sorted.field-0.len) whole.sent
            (sorted.ensures.whole (same.keeping ∙ new.0) (same.taken ∙ new.1));
        settled = sorted.ensures.settled;
      },
      subst (Obeys rule) (sym stored.all) (all_obey rule stored.parts
          (parts_obey seen rule runs stored.parts stored.each)
          (subst AreApart whole.gave (sends.1 sorted.ensures.clean))),
    )

pub returns-in-Some-clause-told : goal.returns-in-Some-clause-told
returns-in-Some-clause-told g c = subst (IsToldOf c.args.rule _) (sym c.fault_of.ensures)
    (two_told c.args.rule _ _ _ c.in-Unique.is (λ came keeps stored lawful.
    let seen = g.S.Source.seen in
    let rule = c.args.rule in
    let runs = c.args.runs.items in
    let done = c.merge_unique-out in
    let two = c.in-Some.doubled in
    let gave = gave_parts seen rule runs stored.parts done.result.inputs.items stored.each
    (subst (AllByRecursion IsRecord) stored.all lawful)
    (rw c.in_ok-readers.ensures at done.ensures.inputs) in
    let sends = (rw (c.in_ok-readers.ensures, c.new-out.ensures, c.in-Some.is) at done.ensures.merged)
    gave.rising in
    subst (λ rs. AreTold rs (number_in two.first.value) (number_in two.second.value))
    (sym stored.all) (told_merged (lists_of (given_by seen rule runs done.result.inputs.items))
    stored.parts two gave.among sends.0)))
