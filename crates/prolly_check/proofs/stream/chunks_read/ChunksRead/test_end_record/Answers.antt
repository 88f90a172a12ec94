use Rattle.std.proofs.Common.{ap, arith, inr, sym, ◌∙◌, ◌++◌}
use Rattle.std.proofs.Math.Logic.{⊎_map}
use Rattle.std.proofs.lemmas.Result.{err_from_is_err_and}
use Rattle.prolly_entry.specs.Overlay.{or_else}
use Rattle.prolly_check.specs.FirstFlaw.{end_flaw}
use Rattle.prolly_look_up.specs.lemmas.SameBytes.{equal, unequal}
use Rattle.prolly_check.proofs.ChunkSteps.{ends_as_difference, none_differs, is_bad, is_cut}
use Rattle.prolly_check.proofs.ChunkSteps.{is_right, is_trailing, record_is, root_is, taken_record}
use Rattle.prolly_check.proofs.stream.chunks_read.ChunksRead.test_end_record.Goals as goal

pub returns-in_err-finish-clause-ends : goal.returns-in_err-finish-clause-ends
returns-in_err-finish-clause-ends c = λ chunks more r few decided.
    let p = err_from_is_err_and c.from_residual.result c.from_residual.ensures.1 in
    let follower = c.args.self.follower in
    rw (p.1, p.2)
    (⊎_map (λ memory. memory) (λ short.
    ap (λ d. or_else d (end_flaw follower.version follower.cut chunks (c.args.rest.now ++ more)))
    (ends_as_difference follower.cut follower.version chunks _ few short))
    (c.in_err-finish.ensures.ends chunks r.count r.follows))

pub returns-then-rest-clause-ends : goal.returns-then-rest-clause-ends
returns-then-rest-clause-ends c = λ chunks more r few decided.
    let follower = c.args.self.follower in
    let all = c.in_ok-finish.ensures.ends chunks r.count r.follows in
    inr (ap (λ d. or_else d (end_flaw follower.version follower.cut chunks
    (c.args.rest.now ++ more)))
    (none_differs follower.cut follower.version chunks few all) ∙
    is_cut follower.version follower.cut chunks c.args.rest.now more _
    (record_is follower.cut follower.version chunks few all c.args.self.reference.0
    c.args.self.count r.last r.count) decided c.if-rest.true)

pub returns-then-ne-clause-ends : goal.returns-then-ne-clause-ends
returns-then-ne-clause-ends c = λ chunks more r few decided.
    let follower = c.args.self.follower in
    let all = c.in_ok-finish.ensures.ends chunks r.count r.follows in
    let is = taken_record follower.cut follower.version chunks few all c.args.self.reference.0
    c.args.self.count c.end_record.result r.last r.count c.end_record.ensures in
    inr (ap (λ d. or_else d (end_flaw follower.version follower.cut chunks
    (c.args.rest.now ++ more)))
    (none_differs follower.cut follower.version chunks few all) ∙
    is_bad follower.version follower.cut chunks c.args.rest.now more _ is decided
    (omega (arith, c.if-rest.false)) (unequal _ _ (sym c.if-ne.true ∙ c.ne.ensures)))

pub returns-then-rest-ge-END_SIZE-clause-ends : goal.returns-then-rest-ge-END_SIZE-clause-ends
returns-then-rest-ge-END_SIZE-clause-ends c = λ chunks more r few decided.
    let follower = c.args.self.follower in
    let all = c.in_ok-finish.ensures.ends chunks r.count r.follows in
    let is = taken_record follower.cut follower.version chunks few all c.args.self.reference.0
    c.args.self.count c.end_record.result r.last r.count c.end_record.ensures in
    inr (ap (λ d. or_else d (end_flaw follower.version follower.cut chunks
    (c.args.rest.now ++ more)))
    (none_differs follower.cut follower.version chunks few all) ∙
    is_trailing follower.version follower.cut chunks c.args.rest.now more _ is decided
    (omega (arith, c.if-rest-ge-END_SIZE.true)) (equal _ _ (sym c.if-ne.false ∙ c.ne.ensures)))

pub returns-clause-ends : goal.returns-clause-ends
returns-clause-ends c = λ chunks more r few decided.
    let follower = c.args.self.follower in
    let all = c.in_ok-finish.ensures.ends chunks r.count r.follows in
    let is = taken_record follower.cut follower.version chunks few all c.args.self.reference.0
    c.args.self.count c.end_record.result r.last r.count c.end_record.ensures in (
      ap (λ d. or_else d (end_flaw follower.version follower.cut chunks (c.args.rest.now ++ more)))
          (none_differs follower.cut follower.version chunks few all) ∙
          is_right follower.version follower.cut chunks c.args.rest.now more _ is decided
          (omega (arith, c.if-rest.false)) (omega (arith, c.if-rest-ge-END_SIZE.false))
          (equal _ _ (sym c.if-ne.false ∙ c.ne.ensures)),
      r.count,
      root_is follower.cut follower.version chunks few all c.args.self.reference.0 r.last,
    )
