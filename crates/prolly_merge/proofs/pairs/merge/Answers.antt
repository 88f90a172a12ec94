use Rattle.std.proofs.lemmas.Grind.{common_steps}
use Rattle.std.proofs.Common.{arith}
use Rattle.prolly_entry.specs.Overlay.{pairs_put}
use Rattle.prolly_merge.proofs.Alone.{sent_all}
use Rattle.prolly_merge.proofs.Peeks.{given_written}
use Rattle.prolly_merge.proofs.pairs.merge.Goals as goal

pub returns-clause-inputs : goal.returns-clause-inputs
returns-clause-inputs g c = grind (arith, common_steps) steps 2000000

pub returns-clause-merged : goal.returns-clause-merged
returns-clause-merged g c =
    let m = c.merge_all-pairs in
    sent_all pairs_put (g.O.Out.sent c.args.out) (g.O.Out.all_sent m.result.1)
    (g.O.Out.end_sent m.result.1) m.result.2 _ _
    (given_written g.I.In.progress g.I.In.received c.args.inputs.items c.deref_mut.result.now
    m.new.inputs c.args.inputs.len c.deref_mut.ensures.value
    (omega (arith, m.auto.inputs, c.deref_mut.ensures.len))) m.ensures.merged
