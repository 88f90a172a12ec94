use Rattle.prolly_look_up.specs.PairsFrom.{pairs_from}
use Rattle.prolly_c.proofs.RangeParts.{from_rises}
use Rattle.prolly_c.proofs.shown.wanted_of.Goals as goal

pub returns-in_err-entries_from-in-Some-clause-leaf :
    goal.returns-in_err-entries_from-in-Some-clause-leaf
returns-in_err-entries_from-in-Some-clause-leaf c = λ pairs leaf rise.
    let wanted = c.in_ok-wanted.ensures.leaf pairs leaf rise in
    absurd (c.in_err-entries_from-in-Some.ensures.leaf (pairs_from c.args.from.now pairs) wanted
    (from_rises c.args.from.now pairs rise))

pub returns-in_ok-entries_from-in-Some-clause-leaf :
    goal.returns-in_ok-entries_from-in-Some-clause-leaf
returns-in_ok-entries_from-in-Some-clause-leaf c = λ pairs leaf rise.
    let wanted = c.in_ok-wanted.ensures.leaf pairs leaf rise in
    let beyond = c.in_ok-entries_from-in-Some.ensures.leaf (pairs_from c.args.from.now pairs) wanted
    (from_rises c.args.from.now pairs rise) in
    rw c.in-Some.is (wanted, beyond)
