use Rattle.std.proofs.Common.{◌∙◌, Ok, inl, inr, refl, subst, sym}
use Rattle.prolly_root.specs.Walk.{GoesOver}
use Rattle.prolly_root.proofs.Descending.{handed_on}
use Rattle.prolly_root.proofs.Walking.{CameTo, end_told, holds_chunks_still, no_chunk}
use Rattle.prolly_root.proofs.file.walk.Walk.last.Goals as goal

pub loop-frame-init : goal.loop-frame-init
loop-frame-init g c = record {
  read = (λ honest. (honest, refl), refl);
  came = λ file holds at first. (
    at,
    first,
    c.begin-marks.ensures.runs file,
    c.begin-marks.ensures.marks file at,
  );
}

pub returns-in_err-frame-clause-last : goal.returns-in_err-frame-clause-last
returns-in_err-frame-clause-last g c file holds at first =
    let before = c.loop-frame.invariant in
    let came = before.came file holds at first in
    rw (handed_on c.in_err-frame.field-0.0 c.from_residual.result c.from_residual.ensures)
    (elim (c.in_err-frame.ensures.goes file (holds_chunks_still before.read.0 holds) came.0) [
      | inl only ↦ inl only
      | inr told ↦ inr (end_told file told.1)
    ])

pub returns-in-None-clause-last : goal.returns-in-None-clause-last
returns-in-None-clause-last g c file holds at first =
    let before = c.loop-frame.invariant in
    let came = before.came file holds at first in
    let none = subst (CameTo file c.loop-frame.self.number) c.in-None.is came.1 in
    let ends = subst (λ next. GoesOver file c.loop-frame.self.number c.next.new.self (Ok next))
    c.in_default.is (c.in_ok-frame.ensures.goes file (holds_chunks_still before.read.0 holds)
    came.0) in
    inr (no_chunk file (sym none ∙ ends.0) ends.1)
