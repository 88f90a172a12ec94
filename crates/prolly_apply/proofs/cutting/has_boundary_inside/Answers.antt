use Rattle.std.proofs.Common.{◌∙◌, ap, length, sym}
use Rattle.prolly_apply.proofs.Cuttings.{is_none, is_some, none_all, none_last, none_more, none_yet}
use Rattle.prolly_apply.proofs.Cuttings.{one_inside}
use Rattle.prolly_apply.proofs.cutting.has_boundary_inside.Goals as goal

pub loop-spelling-init : goal.loop-spelling-init
loop-spelling-init g c = none_yet (g.C.Cut.cut c.args.cut.now) c.args.leaf

pub loop-spelling-preserved : goal.loop-spelling-preserved
loop-spelling-preserved g c =
    let next = c.in-Some.ensures.next in
    none_more (g.C.Cut.cut c.args.cut.now) c.args.leaf c.loop-spelling.leaf c.next_spelling.new.self
    next.0 c.loop-spelling.invariant next.2
    (ap (g.C.Cut.cut c.args.cut.now).is_boundary (sym next.1) ∙ sym c.is_boundary.ensures
    ∙ c.if-is_boundary.false)

pub returns-then-is_empty : goal.returns-then-is_empty
returns-then-is_empty g c =
    let next = c.in-Some.ensures.next in
    record {
      yes = λ e. cc;
      no = λ e. none_last (g.C.Cut.cut c.args.cut.now) c.args.leaf c.loop-spelling.leaf
          c.next_spelling.new.self next.0 c.loop-spelling.invariant next.2
          (is_none (length c.next_spelling.new.self) c.is_empty.result c.is_empty.ensures
          c.if-is_empty.true);
    }

pub returns-then-is_boundary : goal.returns-then-is_boundary
returns-then-is_boundary g c =
    let next = c.in-Some.ensures.next in
    record {
      yes = λ e. one_inside (g.C.Cut.cut c.args.cut.now) c.args.leaf c.loop-spelling.leaf
          c.next_spelling.new.self next.0 c.loop-spelling.invariant next.2
          (is_some (length c.next_spelling.new.self) c.is_empty.result c.is_empty.ensures
          c.if-is_empty.false)
          (ap (g.C.Cut.cut c.args.cut.now).is_boundary (sym next.1) ∙ sym c.is_boundary.ensures
          ∙ c.if-is_boundary.true);
      no = λ e. cc;
    }

pub returns : goal.returns
returns g c = record {
  yes = λ e. cc;
  no = λ e. none_all (g.C.Cut.cut c.args.cut.now) c.args.leaf c.loop-spelling.leaf
      c.loop-spelling.invariant c.in_default.ensures.next;
}
