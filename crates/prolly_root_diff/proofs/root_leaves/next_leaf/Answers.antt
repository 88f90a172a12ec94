use Rattle.std.proofs.Common.{◌≡◌, ◌==◌, ◌<◌, ◌∙◌, [], ap, arith, length, refl, rules, sym}
use Rattle.std.proofs.lemmas.List.{nil_from_length}
use Rattle.std.proofs.lemmas.Result.{err_from_is_err_and}
use Rattle.prolly_look_up.specs.HeldPairs.{pairs_held}
use Rattle.prolly_root_diff.specs.DueTrees.{all_due}
use Rattle.prolly_root_diff.proofs.Lists.{some_due}
use Rattle.prolly_root_diff.proofs.LeafSteps.{gives_leaf, leaves_end, no_pairs, node_read}
use Rattle.prolly_root_diff.proofs.LeafSteps.{none_read, reads_lighter, some_pairs}
use Rattle.prolly_root_diff.proofs.FileSteps.{stops_behind}
use Rattle.prolly_root_diff.proofs.root_leaves.next_leaf.Goals as goal

pub read_first-requires : goal.read_first-requires
read_first-requires g c = some_due c.nodes.due.items (search rules)

pub returns-then-not-is_empty-clause-gives : goal.returns-then-not-is_empty-clause-gives
returns-then-not-is_empty-clause-gives g c =
    let chunk = c.in_ok-reference.chunk.items in
    let reads = c.in_ok-reference.ensures.reads in
    let held = c.pairs_of.ensures ∙ ap pairs_held c.deref.ensures.value in
    let some : 0 < length (pairs_held chunk) = some_pairs (pairs_held chunk)
    c.is_empty-in-nodes.result (c.is_empty-in-nodes.ensures ∙ ap (λ ps. length ps == 0) held)
    c.if-not-is_empty.true in
    gives_leaf g.S.ChunkSource.goes_over g.S.ChunkSource.stands c.args.version c.args.source.now
    c.args.due.now.items c.nodes.source c.nodes.invariant.goes c.nodes.due.items
    c.read_first.new.due.items c.nodes.invariant.nodes c.in_ok-reference.reference.0 chunk reads
    c.in_ok-reference.ensures.tells _ refl (record {
      whole = reads.named.ordered.whole;
      some = some;
      reference = reads.reference_is ∙ sym reads.named.is;
    })

pub returns-then-not-is_empty-clause-nearer : goal.returns-then-not-is_empty-clause-nearer
returns-then-not-is_empty-clause-nearer g c = omega (
  arith,
  c.nodes.invariant.nearer,
  reads_lighter c.args.version (all_due c.nodes.due.items) (all_due c.read_first.new.due.items)
      c.in_ok-reference.reference.0 c.in_ok-reference.chunk.items c.in_ok-reference.ensures.reads,
)

pub returns-in_err-reference-clause-tells : goal.returns-in_err-reference-clause-tells
returns-in_err-reference-clause-tells g c file old goes st =
    let nodes = c.nodes.invariant.nodes in
    let on = nodes.comes file old goes st in
    let p = err_from_is_err_and c.from_residual.result c.from_residual.ensures.1 in
    rw (p.1, p.2) (stops_behind (record { read = nodes.read; comes = on.1 })
    (c.in_err-reference.ensures.tells file on.0 (c.nodes.invariant.goes file goes) on.2))

pub nodes-init : goal.nodes-init
nodes-init g c = record {
  nodes = none_read g.S.ChunkSource.goes_over g.S.ChunkSource.stands c.args.version
      c.args.source.now c.args.due.now.items;
  nearer = omega arith;
  goes = λ file goes. goes;
  failures = refl;
}

pub nodes-smaller : goal.nodes-smaller
nodes-smaller g c = reads_lighter c.args.version (all_due c.nodes.due.items)
    (all_due c.read_first.new.due.items) c.in_ok-reference.reference.0
    c.in_ok-reference.chunk.items c.in_ok-reference.ensures.reads

pub nodes-preserved : goal.nodes-preserved
nodes-preserved g c =
    let chunk = c.in_ok-reference.chunk.items in
    let reads = c.in_ok-reference.ensures.reads in
    let before = c.nodes.invariant in
    let held = c.pairs_of.ensures ∙ ap pairs_held c.deref.ensures.value in
    let none : pairs_held chunk ≡ [] = no_pairs (pairs_held chunk)
    c.is_empty-in-nodes.result (c.is_empty-in-nodes.ensures ∙ ap (λ ps. length ps == 0) held)
    c.if-not-is_empty.false in
    record {
      nodes = node_read g.S.ChunkSource.goes_over g.S.ChunkSource.stands c.args.version
          c.args.source.now c.args.due.now.items c.nodes.source before.goes c.nodes.due.items
          c.read_first.new.due.items before.nodes c.in_ok-reference.reference.0 chunk reads
          c.in_ok-reference.ensures.tells none;
      nearer = omega (
        arith,
        before.nearer,
        reads_lighter c.args.version (all_due c.nodes.due.items)
            (all_due c.read_first.new.due.items) c.in_ok-reference.reference.0 chunk reads,
      );
      goes = λ file goes. c.in_ok-reference.ensures.asked.0 file (before.goes file goes);
      failures = c.in_ok-reference.ensures.asked.1 ∙ before.failures;
    }

pub returns-clause-gives : goal.returns-clause-gives
returns-clause-gives g c =
    let none : c.nodes.due.items ≡ [] = nil_from_length c.nodes.due.items (search rules) in
    leaves_end g.S.ChunkSource.goes_over g.S.ChunkSource.stands c.args.version c.args.source.now
    c.args.due.now.items c.nodes.due.items c.nodes.invariant.nodes (ap all_due none)
