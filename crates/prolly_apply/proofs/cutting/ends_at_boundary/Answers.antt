use Rattle.std.proofs.Common.{◌∙◌, ap, length}
use Rattle.prolly_apply.proofs.Cuttings.{all_left, fewer_left, is_none, is_some, last_left, none_left}
use Rattle.prolly_apply.proofs.cutting.ends_at_boundary.Goals as goal

pub loop-spelling-init : goal.loop-spelling-init
loop-spelling-init g c = all_left (g.C.Cut.cut c.args.cut.now) c.args.leaf

pub loop-spelling-preserved : goal.loop-spelling-preserved
loop-spelling-preserved g c =
    let next = c.in-Some.ensures.next in
    fewer_left (g.C.Cut.cut c.args.cut.now) c.args.leaf c.loop-spelling.leaf
    c.next_spelling.new.self next.0 c.loop-spelling.invariant next.2
    (is_some (length c.next_spelling.new.self) c.is_empty.result c.is_empty.ensures
    c.if-is_empty.false)

pub returns-then-is_empty : goal.returns-then-is_empty
returns-then-is_empty g c =
    let next = c.in-Some.ensures.next in
    c.is_boundary.ensures ∙ ap (g.C.Cut.cut c.args.cut.now).is_boundary next.1
    ∙ last_left (g.C.Cut.cut c.args.cut.now) c.args.leaf c.loop-spelling.leaf
    c.next_spelling.new.self next.0 c.loop-spelling.invariant next.2
    (is_none (length c.next_spelling.new.self) c.is_empty.result c.is_empty.ensures
    c.if-is_empty.true)

pub returns : goal.returns
returns g c = none_left (g.C.Cut.cut c.args.cut.now) c.args.leaf c.loop-spelling.leaf
    c.loop-spelling.invariant c.in_default.ensures.next
