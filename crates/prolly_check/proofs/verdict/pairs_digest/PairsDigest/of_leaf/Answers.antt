use Rattle.std.proofs.Common.{Some, length, arith, ap, sym, ◌∙◌}
use Rattle.std.proofs.Math.Bool.{and-true}
use Rattle.std.proofs.lemmas.List.{nil_from_length}
use Rattle.prolly_look_up.specs.lemmas.EntryLists.{leaf_apart, shorter, spelling_is}
use Rattle.prolly_entry.specs.Pair.{IsPair}
use Rattle.prolly_entry.specs.Position.{is_before}
use Rattle.prolly_entry.specs.Spelling.{pair_spelling}
use Rattle.prolly_check.proofs.PairCounts.{few_read, read_begins, read_leaf, read_more, read_none}
use Rattle.prolly_check.proofs.PairCounts.{read_tells}
use Rattle.prolly_check.proofs.verdict.pairs_digest.PairsDigest.of_leaf.Goals as goal

pub loop-key-init : goal.loop-key-init
loop-key-init c = read_begins c.args.cut c.args.entries.now c.of_none-digest.result
    (c.of_none-digest.ensures.pairs c.args.cut) c.of_none-digest.ensures.end

pub push-requires : goal.push-requires
push-requires c = omega (
  arith,
  c.loop-key.invariant.counted.count,
  few_read _ c.args.entries.now c.loop-key.rest.now _ c.loop-key.digest c.loop-key.invariant,
  shorter pair_spelling IsPair leaf_apart _ _ _ c.in-Some.ensures.some,
)

pub loop-key-preserved : goal.loop-key-preserved
loop-key-preserved c =
    let r = c.loop-key.invariant in
    let rest = c.loop-key.rest.now in
    let begins = c.in-Some.ensures.some in
    let spelled = c.split_at.ensures.front ∙ spelling_is rest c.in-Some.behind.now _ _ begins
    (omega arith) in
    let rises = c.key_rises.ensures ∙ ap (λ last. is_before last (Some c.in-Some.key.now)) r.key ∙
    sym (and-true _) in
    read_more c.args.cut c.args.entries.now rest _ c.loop-key.digest r c.in-Some.behind.now _
    c.push.new.self begins (c.push.ensures.pairs r.done _ rises spelled r.counted)
    (c.push.ensures.start)

pub returns-then-rest-gt0-clause-none : goal.returns-then-rest-gt0-clause-none
returns-then-rest-gt0-clause-none c = read_none c.args.cut c.args.entries.now c.loop-key.rest.now _
    c.loop-key.digest c.loop-key.invariant c.in_default.ensures.none
    (λ none. absurd (omega (arith, ap length none, c.if-rest-gt0.true)))

pub returns-clause-leaf : goal.returns-clause-leaf
returns-clause-leaf c = read_leaf c.args.cut c.args.entries.now c.loop-key.rest.now _
    c.loop-key.digest c.loop-key.invariant (nil_from_length _ (omega (arith, c.if-rest-gt0.false)))

pub returns-clause-some : goal.returns-clause-some
returns-clause-some c = read_tells c.args.cut c.args.entries.now c.loop-key.rest.now _
    c.loop-key.digest c.loop-key.invariant (nil_from_length _ (omega (arith, c.if-rest-gt0.false)))
