use Rattle.std.proofs.Common.{◌∙◌, refl, sym, subst}
use Rattle.std.proofs.lemmas.Result.{err_from_is_err_and}
use Rattle.prolly_apply.proofs.Loading.{IsLoading, all_loaded, all_read, none_loaded, none_more}
use Rattle.prolly_apply.proofs.Loading.{none_yet, of_each, one_sent, read_until, stopped}
use Rattle.prolly_apply.proofs.loader.send_leaves.Goals as goal

pub returns-in_err-leaves-clause-err : goal.returns-in_err-leaves-clause-err
returns-in_err-leaves-clause-err g c =
    let before = g.O.Out.sent c.args.out.now in
    of_each c.from_residual.result _ (none_loaded (g.S.ChunkSource.goes_over c.args.source.now)
    c.args.version c.args.root.now.0 before)

pub returns-in_err-leaf-clause-err : goal.returns-in_err-leaf-clause-err
returns-in_err-leaf-clause-err g c =
    of_each c.from_residual-in_err-leaf.result _ (λ fault. stopped g.S.ChunkSource.goes_over
    g.S.ChunkSource.stands c.args.version c.args.root.now.0 (g.O.Out.sent c.args.out.now)
    c.args.source.now (g.O.Out.sent c.loop-leaves.out) c.loop-leaves.leaves.due.items
    c.loop-leaves.invariant.loading c.leaves_are_right.ensures.first fault)

pub returns-in_err-send_leaf-clause-err : goal.returns-in_err-send_leaf-clause-err
returns-in_err-send_leaf-clause-err g c =
    of_each c.from_residual-in_err-send_leaf.result _ (λ fault. stopped g.S.ChunkSource.goes_over
    g.S.ChunkSource.stands c.args.version c.args.root.now.0 (g.O.Out.sent c.args.out.now)
    c.args.source.now (g.O.Out.sent c.send_leaf.new.out) c.loop-leaves.leaves.due.items
    (subst (λ sent. IsLoading (g.S.ChunkSource.goes_over c.args.source.now) g.S.ChunkSource.stands
    c.args.version c.args.root.now.0 (g.O.Out.sent c.args.out.now) sent
    c.loop-leaves.leaves.due.items) (sym c.in_err-send_leaf.ensures.err)
    c.loop-leaves.invariant.loading) c.leaves_are_right.ensures.first fault)

pub loop-leaves-preserved : goal.loop-leaves-preserved
loop-leaves-preserved g c =
    let before = c.loop-leaves.invariant in
    let next = c.in_ok-leaf.ensures in
    let asked = next.asked in
    record {
      version = next.version ∙ before.version;
      goes = next.goes_on;
      loading = one_sent g.S.ChunkSource.goes_over g.S.ChunkSource.stands c.args.version
          c.args.root.now.0 (g.O.Out.sent c.args.out.now) c.args.source.now c.loop-leaves.source
          before.still (g.O.Out.sent c.loop-leaves.out) c.loop-leaves.leaves.due.items
          c.next_leaf.new.leaves.due.items before.loading c.loop-leaves.leaves.version
          before.version (g.O.Out.sent c.send_leaf.new.out) c.in_ok-leaf.field-0 c.in-Some.leaf
          c.in-Some.is next.gives c.in_ok-send_leaf.ensures.ok;
      link = c.in_ok-send_leaf.ensures.link ∙ before.link;
      still = λ file goes. asked.0 file (before.still file goes);
      failures = asked.1 ∙ before.failures;
    }

pub loop-leaves-init : goal.loop-leaves-init
loop-leaves-init g c = record {
  version = c.in_ok-leaves.ensures.version_is;
  goes = c.in_ok-leaves.ensures.goes;
  loading = none_yet g.S.ChunkSource.goes_over g.S.ChunkSource.stands c.args.version
      c.args.root.now.0 (g.O.Out.sent c.args.out.now) c.args.source.now _ c.in_ok-leaves.ensures.at
      c.in_ok-leaves.ensures.due;
  link = refl;
  still = λ file goes. goes;
  failures = refl;
}

pub returns-in_err-leaf-clause-first : goal.returns-in_err-leaf-clause-first
returns-in_err-leaf-clause-first g c =
    let before = c.loop-leaves.invariant in
    let p = err_from_is_err_and c.from_residual-in_err-leaf.result
    c.from_residual-in_err-leaf.ensures.1 in
    rw (p.1, p.2) (read_until g.S.ChunkSource.goes_over g.S.ChunkSource.stands c.args.version
    c.args.root.now.0 (g.O.Out.sent c.args.out.now) c.args.source.now
    (g.O.Out.sent c.loop-leaves.out) c.loop-leaves.leaves.due.items before.loading
    c.loop-leaves.source before.still c.loop-leaves.leaves.version before.version
    c.in_err-leaf.field-0.0 c.in_err-leaf.ensures.tells)

pub returns-clause-all : goal.returns-clause-all
returns-clause-all g c =
    let before = c.loop-leaves.invariant in
    let end = none_more g.S.ChunkSource.goes_over g.S.ChunkSource.stands c.args.version
    c.args.root.now.0 (g.O.Out.sent c.args.out.now) c.args.source.now c.loop-leaves.source
    before.still (g.O.Out.sent c.loop-leaves.out) c.loop-leaves.leaves.due.items
    c.next_leaf.new.leaves.due.items before.loading c.loop-leaves.leaves.version before.version
    c.in_ok-leaf.field-0 c.in_default.is c.in_ok-leaf.ensures.gives in
    all_read g.S.ChunkSource.goes_over g.S.ChunkSource.stands c.args.version c.args.root.now.0
    (g.O.Out.sent c.args.out.now) c.args.source.now (g.O.Out.sent c.loop-leaves.out)
    c.next_leaf.new.leaves.due.items end.0 end.1

pub returns-clause-ok : goal.returns-clause-ok
returns-clause-ok g c =
    let before = c.loop-leaves.invariant in
    let end = none_more g.S.ChunkSource.goes_over g.S.ChunkSource.stands c.args.version
    c.args.root.now.0 (g.O.Out.sent c.args.out.now) c.args.source.now c.loop-leaves.source
    before.still (g.O.Out.sent c.loop-leaves.out) c.loop-leaves.leaves.due.items
    c.next_leaf.new.leaves.due.items before.loading c.loop-leaves.leaves.version before.version
    c.in_ok-leaf.field-0 c.in_default.is c.in_ok-leaf.ensures.gives in
    all_loaded g.S.ChunkSource.goes_over g.S.ChunkSource.stands c.args.version c.args.root.now.0
    (g.O.Out.sent c.args.out.now) c.args.source.now (g.O.Out.sent c.loop-leaves.out)
    c.next_leaf.new.leaves.due.items end.0 c.leaves_are_right.ensures.all end.1
