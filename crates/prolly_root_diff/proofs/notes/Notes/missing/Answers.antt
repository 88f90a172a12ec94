use Rattle.std.proofs.Common.{◌∙◌, ap, arith, get_or, not, subst, sym}
use Rattle.prolly_root_diff.proofs.Counting.{CountedTo, all_counted, few, many_bytes, none_counted}
use Rattle.prolly_root_diff.proofs.Counting.{one_counted, one_passed, some_note, unknown_is}
use Rattle.prolly_root_diff.proofs.notes.Notes.missing.Goals.{then-not-has+in_ok-missing}
use Rattle.prolly_root_diff.proofs.notes.Notes.missing.Goals.{else-not-has}
use Rattle.prolly_root_diff.proofs.notes.Notes.missing.Goals as goal

pub loop-note-init : goal.loop-note-init
loop-note-init c = none_counted c.args.self.now.old.items c.deref-note-items.result.now

pub overflow_add-missing : goal.overflow_add-missing
overflow_add-missing c =
    let at_most = few c.args.self.now.old.items c.deref-note-items.result.now
    c.loop-note.note-index c.loop-note.missing c.loop-note.invariant c.loop-note.auto.note-index-end in
    omega (arith, c.deref-note-items.type_inv)

pub returns-in_err-missing-clause-none : goal.returns-in_err-missing-clause-none
returns-in_err-missing-clause-none c none = rw (← c.deref-note-items.ensures.value)
    (many_bytes c.args.self.now.old.items c.deref-note-items.result.now c.loop-note.note-index
    c.loop-note.missing c.loop-note.invariant some_note c.loop-note-test.true c.in_err-missing.ensures)

pub loop-note-preserved : goal.loop-note-preserved
loop-note-preserved c =
    let known = c.args.self.now.old.items in
    let notes = c.deref-note-items.result.now in
    elim c.if-not-has.branch [
      | then-not-has+in_ok-missing w ↦ one_counted known notes c.loop-note.note-index
          c.loop-note.missing c.loop-note.invariant some_note c.loop-note-test.true
          (unknown_is known _ (get_or notes c.loop-note.note-index some_note) c.has.result c.sort_unstable.ensures.permutation
          (rw c.deref.ensures.value at c.has.ensures) ∙ ap not w.if-not-has.true)
          c.if-not-has.missing (ap (λ m. m.chunks) w.missing-is)
          (ap (λ m. m.bytes) w.missing-is ∙ w.in_ok-missing.ensures.1)
      | else-not-has w ↦ subst (CountedTo known notes _) (sym w.missing-is)
          (one_passed known notes c.loop-note.note-index c.loop-note.missing
          c.loop-note.invariant some_note c.loop-note-test.true
          (unknown_is known _ (get_or notes c.loop-note.note-index some_note) c.has.result c.sort_unstable.ensures.permutation
          (rw c.deref.ensures.value at c.has.ensures) ∙ ap not w.if-not-has.false))
    ]

pub returns-clause-some : goal.returns-clause-some
returns-clause-some c = all_counted c.args.self.now c.loop-note.note-index c.loop-note.missing
    (omega (arith, c.loop-note-test.false))
    (subst (λ notes. CountedTo c.args.self.now.old.items notes c.loop-note.note-index
    c.loop-note.missing) c.deref-note-items.ensures.value c.loop-note.invariant)
