use Rattle.std.proofs.Common.{◌≡◌, ap, inr, length, sym, ◌∙◌, true}
use Rattle.std.proofs.lemmas.List.{with_items_is}
use Rattle.prolly_entry.specs.Cut.{sha512_cut}
use Rattle.prolly_chunk.specs.LeafLevel.{is_whole_leaf}
use Rattle.prolly_look_up.specs.HeldPairs.{pairs_held}
use Rattle.prolly_check.proofs.FollowerSteps.{leaf_is_cut, leaf_taken, some_held}
use Rattle.prolly_check.proofs.verdict.follower.Follower.go_on.Goals as goal

pub returns-then-digest-clause-takes : goal.returns-then-digest-clause-takes
returns-then-digest-clause-takes c = λ read n h.
    let bits = c.args.self.now.cut in
    let version = c.args.self.now.version in
    let nodes = c.args.self.now.nodes in
    let due = c.args.self.now.due.items in
    let g = rw c.requires.going at h in
    let is : is_whole_leaf (sha512_cut bits) (pairs_held c.args.chunk.now) ≡ true =
    sym c.requires.digest.pairs.counted.whole ∙ c.if-digest.true in
    let size : length c.pass_leaf.new.levels ≡ length nodes.items =
    c.pass_leaf.ensures.size ∙ ap length c.deref_mut.ensures.value in
    rw (c.requires.going, with_items_is nodes c.pass_leaf.new.levels (size ∙ sym nodes.ok.0))
    (leaf_taken bits version read nodes.items due g c.args.chunk.now c.requires.digest.whole
    c.pass_leaf.new.levels c.pass_leaf.new.due.items c.event-event.result c.requires.none
    c.event-event.ensures.event
    (some_held bits version read nodes.items due g c.args.chunk.now c.requires.digest.whole is)
    (rw c.deref_mut.ensures.value at c.in_ok-pass_leaf.ensures.passes) is size)

pub returns-then-digest-2-clause-takes : goal.returns-then-digest-2-clause-takes
returns-then-digest-2-clause-takes c = λ read n h.
    rw (c.requires.going, n) (inr (leaf_is_cut c.args.self.now.cut c.args.self.now.version read
    c.args.self.now.nodes.items c.args.self.now.due.items (rw c.requires.going at h)
    c.args.chunk.now c.requires.digest.whole c.requires.none
    (sym c.requires.digest.pairs.counted.whole ∙ c.if-digest.false)
    (sym c.requires.digest.pairs.counted.some ∙ c.if-digest-2.true)))
