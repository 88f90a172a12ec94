use Rattle.std.proofs.Common.{sym, subst, arith}
use Rattle.prolly_look_up.specs.Entries.{IsLeaf}
use Rattle.prolly_c.proofs.Cursors.{at_first, at_found}
use Rattle.prolly_c.proofs.RunLists.{around, some_run}
use Rattle.prolly_c.proofs.steps.cursor_at.Goals as goal

pub returns-then-next-eq0 : goal.returns-then-next-eq0
returns-then-next-eq0 c = λ pairs are is_map. at_first c.args.bytes.now c.args.runs.now pairs
    c.args.from.now c.count_up_to-next.result (omega arith) c.count_up_to-next.ensures are is_map

pub returns-in_err-bytes_between : goal.returns-in_err-bytes_between
returns-in_err-bytes_between c = λ pairs are is_map.
    let a = around c.args.bytes.now c.args.runs.now pairs c.args.from.now c.count_up_to-next.result
    (omega arith) are is_map c.count_up_to-next.ensures in
    let part = (a.is some_run).is in
    absurd (c.in_err-bytes_between.ensures.there part.order part.within)

pub returns-in_err-rest : goal.returns-in_err-rest
returns-in_err-rest c = λ pairs are is_map.
    let a = around c.args.bytes.now c.args.runs.now pairs c.args.from.now c.count_up_to-next.result
    (omega arith) are is_map c.count_up_to-next.ensures in
    let part = (a.is some_run).is in
    absurd (c.in_err-rest.ensures.leaf a.here
    (subst (λ x. IsLeaf x a.here) (sym (c.in_ok-bytes_between.ensures.there part.order part.within))
    part.leaf) a.rising)

pub returns : goal.returns
returns c = λ pairs are is_map.
    let a = around c.args.bytes.now c.args.runs.now pairs c.args.from.now c.count_up_to-next.result
    (omega arith) are is_map c.count_up_to-next.ensures in
    let part = (a.is some_run).is in
    let same = c.in_ok-bytes_between.ensures.there part.order part.within in
    at_found c.args.bytes.now c.args.runs.now pairs c.args.from.now _ _ c.count_up_to-next.result
    c.saturating_sub.result _ _ a part same c.in_ok-rest.ensures.end c.saturating_sub.ensures
    (c.in_ok-rest.ensures.leaf a.here (subst (λ x. IsLeaf x a.here) (sym same) part.leaf) a.rising)
