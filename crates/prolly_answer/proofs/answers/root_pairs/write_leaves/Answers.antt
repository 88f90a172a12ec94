use Rattle.std.proofs.Common.{ap, arith, refl, sym, ◌∙◌, subst}
use Rattle.std.proofs.lemmas.Bool.{false≢true}
use Rattle.std.proofs.lemmas.Result.{err_from_is_err_and}
use Rattle.prolly_look_up.specs.ScanWay.{next_key}
use Rattle.prolly_answer.proofs.KeyRanks.{AreBytes, all_bytes, next_bytes}
use Rattle.prolly_answer.proofs.Readers.{fault_told, leaf_found, looks_first, looks_on}
use Rattle.prolly_answer.proofs.RootSteps.{begins, goes_on, leaf_fills, leaf_unwritten}
use Rattle.prolly_answer.proofs.RootSteps.{leaf_wants, less_room_behind, seek_ends, seek_fails}
use Rattle.prolly_answer.proofs.RootSteps.{wants_first}
use Rattle.prolly_answer.proofs.answers.root_pairs.write_leaves.Goals as goal

pub returns-in_err-next-clause-written : goal.returns-in_err-next-clause-written
returns-in_err-next-clause-written g c =
    let p = err_from_is_err_and c.from_residual.result c.from_residual.ensures.1 in
    rw (p.1, p.2) wants_first

pub loop-next-init : goal.loop-next-init
loop-next-init g c = record {
  looks = looks_first;
  reads = refl;
  way = begins c.in_ok-next.ensures.items c.requires;
  bytes = subst AreBytes (sym c.in_ok-next.ensures.items) (λ i.
      omega (arith, c.type_inv.from i));
}

pub returns-in_err-seek_on-clause-written : goal.returns-in_err-seek_on-clause-written
returns-in_err-seek_on-clause-written g c =
    let inv = c.loop-next.invariant in
    let p = err_from_is_err_and c.from_residual-in_err-seek_on.result
    c.from_residual-in_err-seek_on.ensures.1 in
    rw (p.1, p.2) (seek_fails inv.way
    (fault_told inv.looks c.in_err-seek_on.ensures.looked c.deref.ensures.value))

pub returns-in_default-clause-written : goal.returns-in_default-clause-written
returns-in_default-clause-written g c =
    let inv = c.loop-next.invariant in
    let found = leaf_found inv.looks c.in_ok-seek_on.ensures.looked c.deref.ensures.value
    c.deref-in-loop-next.ensures.value c.in_ok-seek_on.ensures.found c.leaf_from-leaf.ensures in
    seek_ends inv.way found c.in_default.ensures.key

pub returns-in_err-left-clause-written : goal.returns-in_err-left-clause-written
returns-in_err-left-clause-written g c =
    let inv = c.loop-next.invariant in
    let found = leaf_found inv.looks c.in_ok-seek_on.ensures.looked c.deref.ensures.value
    c.deref-in-loop-next.ensures.value c.in_ok-seek_on.ensures.found c.leaf_from-leaf.ensures in
    let p = err_from_is_err_and c.from_residual-in_err-left.result
    c.from_residual-in_err-left.ensures.1 in
    rw (p.1, p.2) (leaf_unwritten inv.way found c.in_err-left.ensures.err)

pub returns-then-is_empty-clause-written : goal.returns-then-is_empty-clause-written
returns-then-is_empty-clause-written g c =
    let inv = c.loop-next.invariant in
    let found = leaf_found inv.looks c.in_ok-seek_on.ensures.looked c.deref.ensures.value
    c.deref-in-loop-next.ensures.value c.in_ok-seek_on.ensures.found c.leaf_from-leaf.ensures in
    leaf_fills inv.way found c.in_ok-left.ensures.ok c.write_leaf.ensures.keeping
    c.in_ok-left.ensures.left (c.is_empty.ensures.0 c.if-is_empty.true)

pub returns-in_err-next-2-clause-written : goal.returns-in_err-next-2-clause-written
returns-in_err-next-2-clause-written g c =
    let inv = c.loop-next.invariant in
    let found = leaf_found inv.looks c.in_ok-seek_on.ensures.looked c.deref.ensures.value
    c.deref-in-loop-next.ensures.value c.in_ok-seek_on.ensures.found c.leaf_from-leaf.ensures in
    let p = err_from_is_err_and c.from_residual-in_err-next-2.result
    c.from_residual-in_err-next-2.ensures.1 in
    rw (p.1, p.2) (leaf_wants inv.way found c.in_ok-left.ensures.ok c.write_leaf.ensures.keeping)

pub loop-next-smaller : goal.loop-next-smaller
loop-next-smaller g c =
    let inv = c.loop-next.invariant in
    let found = leaf_found inv.looks c.in_ok-seek_on.ensures.looked c.deref.ensures.value
    c.deref-in-loop-next.ensures.value c.in_ok-seek_on.ensures.found c.leaf_from-leaf.ensures in
    less_room_behind found c.in-Some.ensures.key c.in-Some.ensures.short inv.bytes
    (all_bytes c.in-Some.last.now c.key_behind.ensures.bytes) c.in_ok-next-2.ensures.behind

pub loop-next-preserved : goal.loop-next-preserved
loop-next-preserved g c =
    let inv = c.loop-next.invariant in
    let found = leaf_found inv.looks c.in_ok-seek_on.ensures.looked c.deref.ensures.value
    c.deref-in-loop-next.ensures.value c.in_ok-seek_on.ensures.found c.leaf_from-leaf.ensures in
    record {
      looks = looks_on inv.looks c.in_ok-seek_on.ensures.looked;
      reads = c.in_ok-seek_on.ensures.looked.asked.1 ∙ inv.reads;
      way = goes_on inv.way found c.in_ok-left.ensures.ok c.write_leaf.ensures.keeping
          c.in_ok-left.ensures.left (λ enough. absurd (false≢true
          (sym c.if-is_empty.false ∙ c.is_empty.ensures.1 enough))) c.in-Some.ensures.key.0
          (c.in_ok-next-2.ensures.behind ∙ ap next_key c.in-Some.ensures.key.1);
      bytes = subst AreBytes (sym c.in_ok-next-2.ensures.behind)
          (next_bytes c.in-Some.last.now (all_bytes c.in-Some.last.now c.key_behind.ensures.bytes));
    }
