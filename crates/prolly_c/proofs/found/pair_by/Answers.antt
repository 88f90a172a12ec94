use Rattle.std.proofs.Common.{◌≡◌, sym, subst, arith}
use Rattle.prolly_look_up.specs.Entries.{IsLeaf}
use Rattle.prolly_look_up.specs.FoundPairs.{pair_found}
use Rattle.prolly_look_up.specs.Sought.Sought.{Number}
use Rattle.prolly_c.proofs.RunLists.{none_at, nth_there, some_run}
use Rattle.prolly_c.specs.Runs.{Answers, AreUpTo}
use Rattle.prolly_c.proofs.found.pair_by.Goals as goal

pub returns-then-count-eq0 : goal.returns-then-count-eq0
returns-then-count-eq0 c = λ pairs are.
    let none : c.count_up_to-count.result ≡ 0 = omega arith in
    sym (none_at c.args.bytes.now c.args.runs.now pairs c.args.number are
    (subst (AreUpTo c.args.bytes.now c.args.runs.now (Number c.args.number)) none
    c.count_up_to-count.ensures))

pub returns-in_err-bytes_between : goal.returns-in_err-bytes_between
returns-in_err-bytes_between c = λ pairs are.
    let at = nth_there c.args.bytes.now c.args.runs.now pairs c.args.number
    c.count_up_to-count.result (omega arith) are c.count_up_to-count.ensures in
    let part = (at.is some_run).is in
    absurd (c.in_err-bytes_between.ensures.there part.order part.within)

pub returns : goal.returns
returns c = λ pairs are.
    let at = nth_there c.args.bytes.now c.args.runs.now pairs c.args.number
    c.count_up_to-count.result (omega arith) are c.count_up_to-count.ensures in
    let part = (at.is some_run).is in
    subst (λ f. Answers (λ pair. pair_found pair ≡ f) c.pair_in.result)
    (sym (at.found some_run))
    (c.pair_in.ensures at.here
    (subst (λ x. IsLeaf x at.here) (sym (c.in_ok-bytes_between.ensures.there part.order part.within))
    part.leaf))
