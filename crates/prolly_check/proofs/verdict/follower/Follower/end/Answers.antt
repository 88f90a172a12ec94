use Rattle.std.proofs.Common.{◌≡◌, Some, ap, arith, length, refl, sym, ◌∙◌}
use Rattle.std.proofs.lemmas.List.{nil_from_length, with_items_is}
use Rattle.prolly_entry.specs.Cut.{sha512_cut}
use Rattle.prolly_look_up.specs.HeldPairs.{bytes_in, pairs_held}
use Rattle.prolly_check.proofs.FollowerSteps.{all_behind, expected_first, leaf_closes, leaf_ends}
use Rattle.prolly_check.proofs.NextLeaf.{open_not_whole}
use Rattle.prolly_check.proofs.verdict.follower.Follower.end.Goals as goal

pub returns-then-digest-eq0-clause-takes : goal.returns-then-digest-eq0-clause-takes
returns-then-digest-eq0-clause-takes c = λ read n h.
    let bits = c.args.self.now.cut in
    let version = c.args.self.now.version in
    let nodes = c.args.self.now.nodes.items in
    let due = c.args.self.now.due.items in
    let g = rw c.requires.going at h in
    let none_cut = sym c.requires.digest.pairs.counted.some ∙ c.requires.open in
    rw c.requires.going (expected_first bits version read nodes due g c.args.chunk.now c.requires.digest.whole
    c.requires.none (open_not_whole (sha512_cut bits) (pairs_held c.args.chunk.now) none_cut)
    (nil_from_length (pairs_held c.args.chunk.now)
    (omega (arith, c.requires.digest.pairs.counted.count, c.if-digest-eq0.true))) (record {
      cut = bits;
      version = version;
      nodes = c.close_behind.new.nodes;
      due = c.close_behind.new.due;
      ending = Some c.args.number;
    }) c.expect.new.self c.args.number c.expect.result n refl refl refl
    (all_behind bits version read nodes due g c.args.number c.close_behind.new.due.items
    c.requires.none n c.in_ok-close_behind.ensures) c.expect.ensures.due c.expect.ensures.other
    c.expect.ensures.alike.0 c.expect.ensures.alike.1 c.expect.ensures.alike.2)

pub returns-clause-takes : goal.returns-clause-takes
returns-clause-takes c = λ read n h.
    let bits = c.args.self.now.cut in
    let version = c.args.self.now.version in
    let nodes = c.args.self.now.nodes in
    let due = c.args.self.now.due.items in
    let g = rw c.requires.going at h in
    let none_cut = sym c.requires.digest.pairs.counted.some ∙ c.requires.open in
    let size : length c.pass_leaf.new.levels ≡ length nodes.items =
    c.pass_leaf.ensures.size ∙ ap length c.deref_mut.ensures.value in
    rw n (leaf_ends bits version read nodes.items due g c.args.chunk.now c.requires.digest.whole
    c.close_all.new.due.items c.requires.none
    (open_not_whole (sha512_cut bits) (pairs_held c.args.chunk.now) none_cut)
    (leaf_closes bits version read nodes.items due g c.args.chunk.now c.requires.digest.whole
    c.pass_leaf.new.levels c.pass_leaf.new.due.items c.event-event.result c.requires.none
    c.event-event.ensures.event
    (λ none. absurd (omega (
      arith,
      ap length none,
      c.requires.digest.pairs.counted.count,
      c.if-digest-eq0.false,
    )))
    (rw c.deref_mut.ensures.value at c.in_ok-pass_leaf.ensures.passes)
    (bytes_in c.close_all.new.due.items) none_cut size
    (rw (with_items_is nodes c.pass_leaf.new.levels (size ∙ sym nodes.ok.0))
    at c.in_ok-close_all.ensures)))
