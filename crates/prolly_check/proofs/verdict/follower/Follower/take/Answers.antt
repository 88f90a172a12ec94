use Rattle.std.proofs.Common.{rules, ◌≡◌, [], ap, arith, inr, length}
use Rattle.std.proofs.lemmas.List.{nil_from_length}
use Rattle.prolly_look_up.specs.HeldPairs.{pairs_held}
use Rattle.prolly_check.proofs.FollowerSteps.{expected_ending, expected_going, leaf_behind_end}
use Rattle.prolly_check.proofs.verdict.follower.Follower.take.Goals as goal

pub returns-then-digest-gt0-clause-takes : goal.returns-then-digest-gt0-clause-takes
returns-then-digest-gt0-clause-takes c = λ read n h.
    rw c.in-Some.is (inr (leaf_behind_end c.args.self.now.cut c.args.self.now.version read
    c.args.self.now.due.items c.in-Some.from (rw c.in-Some.is at h) c.args.chunk.now
    c.requires.digest.whole
    (λ none. absurd (omega (
      arith,
      ap length none,
      c.requires.digest.pairs.counted.count,
      c.if-digest-gt0.true,
    )))))

pub returns-else-is_empty-clause-takes : goal.returns-else-is_empty-clause-takes
returns-else-is_empty-clause-takes c = λ read n h.
    let some : c.args.self.now.due.items ≡ [] → ⊥ = λ e. search rules in
    expected_going c.args.self.now c.expect.new.self read c.args.number c.args.chunk.now c.expect.result
    c.in-None.is some c.requires.digest.whole c.expect.ensures.due c.expect.ensures.other
    c.expect.ensures.alike.0 c.expect.ensures.alike.1 c.expect.ensures.alike.2 n h

pub returns-else-digest-gt0-clause-takes : goal.returns-else-digest-gt0-clause-takes
returns-else-digest-gt0-clause-takes c = λ read n h.
    expected_ending c.args.self.now c.expect-in-Some.new.self read c.args.number c.in-Some.from c.args.chunk.now
    c.expect-in-Some.result c.in-Some.is
    (nil_from_length (pairs_held c.args.chunk.now)
    (omega (arith, c.requires.digest.pairs.counted.count, c.if-digest-gt0.false))) c.requires.digest.whole c.expect-in-Some.ensures.due
    c.expect-in-Some.ensures.other c.expect-in-Some.ensures.alike.0
    c.expect-in-Some.ensures.alike.1 c.expect-in-Some.ensures.alike.2 n h
