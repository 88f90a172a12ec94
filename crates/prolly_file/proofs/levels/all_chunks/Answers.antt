use Rattle.std.proofs.Common.{arith, subst, sym, ◌∙◌, rules}
use Rattle.std.proofs.lemmas.Bool.{false≢true}
use Rattle.prolly_tree.specs.Pipeline.{HasSecond}
use Rattle.prolly_file.proofs.TreeChunks.{goes_on, ends_there, all_there}
use Rattle.prolly_file.proofs.levels.all_chunks.Goals as goal

pub returns-then-level-max_levels-clause-err : goal.returns-then-level-max_levels-clause-err
returns-then-level-max_levels-clause-err g c =
    let more = goes_on (g.C.Cut.cut c.args.cut) c.args.version c.args.pairs.now c.requires
    c.loop-alloc.level c.loop-alloc.events.items
    c.loop-alloc.invariant.sent (subst (HasSecond c.loop-alloc.level) c.deref.ensures.value
    (c.has_second.ensures.0 c.loop-alloc-test.true)) in omega arith

pub returns-clause-ok : goal.returns-clause-ok
returns-clause-ok g c =
    all_there (g.C.Cut.cut c.args.cut) c.args.version c.args.pairs.now c.requires c.loop-alloc.level
    c.loop-alloc.events.items
    c.loop-alloc.invariant.sent (λ h. false≢true (sym c.loop-alloc-test.false ∙
    c.has_second.ensures.1 (subst (HasSecond c.loop-alloc.level) (sym c.deref.ensures.value)
    h)))

pub returns-clause-low : goal.returns-clause-low
returns-clause-low g c =
    let last = ends_there (g.C.Cut.cut c.args.cut) c.args.version c.args.pairs.now c.requires
    c.loop-alloc.level c.loop-alloc.events.items
    c.loop-alloc.invariant.sent (λ h. false≢true (sym c.loop-alloc-test.false ∙
    c.has_second.ensures.1 (subst (HasSecond c.loop-alloc.level) (sym c.deref.ensures.value)
    h))) in let low = c.loop-alloc.invariant.low in omega arith

pub loop-alloc-preserved : goal.loop-alloc-preserved
loop-alloc-preserved g c = search rules
