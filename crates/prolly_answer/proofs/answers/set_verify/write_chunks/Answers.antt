use Rattle.std.proofs.Common.{◌≡◌, ◌∷◌, ◌∙◌, [], None, map, rules, subst, sym}
use Rattle.std.specs.Prelude.{MatchOption}
use Rattle.std.proofs.lemmas.Result.{err_from_is_err_and}
use Rattle.prolly_io.specs.Writer.{next_count}
use Rattle.prolly_range.specs.KeySet.{set_of}
use Rattle.prolly_range.specs.SetProof.{root_due}
use Rattle.prolly_range.specs.Verifier.{IsNextFault, IsRestOf}
use Rattle.prolly_answer.proofs.SetSteps.{chunk_came, chunk_fits, chunk_unwritten, end_came, is_opened}
use Rattle.prolly_answer.proofs.SetSteps.{lines_tell, range_begins, range_ends, range_fails}
use Rattle.prolly_answer.proofs.SetSteps.{range_goes_on, range_refused, range_unwritten, unfailed}
use Rattle.prolly_answer.proofs.answers.set_verify.write_chunks.Goals as goal

pub returns-in_err-verifier-clause-ended : goal.returns-in_err-verifier-clause-ended
returns-in_err-verifier-clause-ended g c =
    let p = err_from_is_err_and c.from_residual.result c.from_residual.ensures.1 in
    rw (p.1, p.2) (range_refused g.W.Sink.seen c.args.notation c.args.version c.args.root.now.0
    (set_of c.args.set) (g.S.Source.seen c.args.source.now).is_honest
    (g.S.Source.seen c.args.source.now).left c.in_err-verifier.field-0.0 c.args.sink.now
    c.in_err-verifier.ensures.fault)

pub loop-lines-init : goal.loop-lines-init
loop-lines-init g c =
    let verifier = c.in_ok-verifier.verifier in
    let is = is_opened verifier c.args.version
    (root_due c.args.root.now.0 (set_of c.args.set) ∷ []) c.in_ok-verifier.ensures.begins in
    record {
      version = is.version_is;
      going = is.going;
      reading = range_begins g.W.Sink.seen c.args.notation c.args.version c.args.root.now.0
          (set_of c.args.set) (g.S.Source.seen c.args.source.now).is_honest
          (g.S.Source.seen c.args.source.now).left verifier.due verifier.count
          (g.S.Source.seen c.open.new.source).left (map (λ k. k.items) c.keys_of-left.result.now)
          c.args.sink.now c.shown_in_order.ensures c.keys_of-left.ensures.rise
          c.keys_of-left.ensures.keys is.due_is is.count_is c.in_ok-verifier.ensures.start;
      honest = c.in_ok-verifier.ensures.honest;
      failures = unfailed verifier (g.S.Source.seen c.args.source.now).failures
          (g.S.Source.seen c.open.new.source).failures c.in_ok-verifier.ensures.read;
    }

pub returns-in_err-chunk-clause-ended : goal.returns-in_err-chunk-clause-ended
returns-in_err-chunk-clause-ended g c =
    let p = err_from_is_err_and c.from_residual-in_err-chunk.result
    c.from_residual-in_err-chunk.ensures.1 in
    let inv = c.loop-lines.invariant in
    let verifier = c.loop-lines.verifier in
    let left = (g.S.Source.seen c.loop-lines.source).left in
    rw (p.1, p.2) (range_fails g.W.Sink.seen c.args.notation c.args.version c.args.root.now.0
    (set_of c.args.set) (g.S.Source.seen c.args.source.now).is_honest
    (g.S.Source.seen c.args.source.now).left verifier.due verifier.count left
    (map (λ k. k.items) c.loop-lines.left.now) c.args.sink.now c.loop-lines.sink inv.reading
    c.in_err-chunk.field-0.0
    (λ honest. subst (λ v. IsNextFault v verifier.due verifier.count left c.in_err-chunk.field-0.0)
    inv.version (c.in_err-chunk.ensures.fault (inv.honest honest) inv.going))
    (λ honest rest. c.in_err-chunk.ensures.accepts (inv.honest honest) inv.going
    (subst (λ v. IsRestOf v verifier.due left) (sym inv.version) rest)))

pub returns-in_err-left-clause-ended : goal.returns-in_err-left-clause-ended
returns-in_err-left-clause-ended g c =
    let p = err_from_is_err_and c.from_residual-in_err-left.result
    c.from_residual-in_err-left.ensures.1 in
    let inv = c.loop-lines.invariant in
    let verifier = c.loop-lines.verifier in
    let first = (g.S.Source.seen c.args.source.now).is_honest in
    let left = (g.S.Source.seen c.loop-lines.source).left in
    let next = c.next.new.self.due in
    let after = (g.S.Source.seen c.next.new.source).left in
    let keys = map (λ k. k.items) c.loop-lines.left.now in
    rw (p.1, p.2) (chunk_unwritten g.W.Sink.seen c.args.notation c.args.version c.args.root.now.0
    (set_of c.args.set) first (g.S.Source.seen c.args.source.now).left verifier.due
    verifier.count left keys c.args.sink.now c.loop-lines.sink inv.reading c.in-Some.chunk next after
    (chunk_came c.args.version verifier.due next left after first
    (g.S.Source.seen c.loop-lines.source).is_honest inv.honest c.in-Some.chunk
    c.in_ok-chunk.field-0 c.in-Some.is verifier.version inv.version c.in_ok-chunk.ensures.comes)
    c.write_chunk.new.sink _ c.in_err-left.field-0.0 c.in_err-left.ensures.wrote)

pub returns-in_err-left-clause-reads : goal.returns-in_err-left-clause-reads
returns-in_err-left-clause-reads g c =
    let p = err_from_is_err_and c.from_residual-in_err-left.result
    c.from_residual-in_err-left.ensures.1 in
    let first = (g.S.Source.seen c.args.source.now).failures in
    let now = (g.S.Source.seen c.next.new.source).failures in
    rw (p.1, p.2) (lines_tell first now c.in_err-left.field-0.0
    (unfailed c.in_ok-chunk.field-0 (g.S.Source.seen c.loop-lines.source).failures now
    c.in_ok-chunk.ensures.read ∙ c.loop-lines.invariant.failures))

pub loop-lines-preserved : goal.loop-lines-preserved
loop-lines-preserved g c =
    let inv = c.loop-lines.invariant in
    let verifier = c.loop-lines.verifier in
    let first = (g.S.Source.seen c.args.source.now).is_honest in
    let left = (g.S.Source.seen c.loop-lines.source).left in
    let next = c.next.new.self.due in
    let after = (g.S.Source.seen c.next.new.source).left in
    let keys = map (λ k. k.items) c.loop-lines.left.now in
    record {
      version = c.in_ok-chunk.ensures.version ∙ inv.version;
      going = c.in_ok-chunk.ensures.goes_on;
      reading = range_goes_on g.W.Sink.seen c.args.notation c.args.version c.args.root.now.0
          (set_of c.args.set) first (g.S.Source.seen c.args.source.now).left verifier.due
          verifier.count left keys c.args.sink.now c.loop-lines.sink inv.reading c.in-Some.chunk next
          after (chunk_came c.args.version verifier.due next left after first
          (g.S.Source.seen c.loop-lines.source).is_honest inv.honest c.in-Some.chunk
          c.in_ok-chunk.field-0 c.in-Some.is verifier.version inv.version
          c.in_ok-chunk.ensures.comes) c.write_chunk.new.sink c.in_ok-left.left
          c.next.new.self.count (map (λ k. k.items) c.in_ok-left.left.now)
          (subst (λ chunk. MatchOption chunk (c.next.new.self.count ≡ verifier.count)
          (λ _. c.next.new.self.count ≡ next_count verifier.count)) c.in-Some.is
          c.in_ok-chunk.ensures.count) c.in_ok-left.ensures.left c.in_ok-left.ensures.wrote;
      honest = λ honest. c.in_ok-chunk.ensures.honest (inv.honest honest);
      failures = unfailed c.in_ok-chunk.field-0 (g.S.Source.seen c.loop-lines.source).failures
          (g.S.Source.seen c.next.new.source).failures c.in_ok-chunk.ensures.read ∙ inv.failures;
    }

pub write_chunk-requires : goal.write_chunk-requires
write_chunk-requires g c =
    let inv = c.loop-lines.invariant in
    let verifier = c.loop-lines.verifier in
    let first = (g.S.Source.seen c.args.source.now).is_honest in
    let left = (g.S.Source.seen c.loop-lines.source).left in
    let next = c.next.new.self.due in
    let after = (g.S.Source.seen c.next.new.source).left in
    let keys = map (λ k. k.items) c.loop-lines.left.now in
    chunk_fits g.W.Sink.seen c.args.notation c.args.version c.args.root.now.0
    (set_of c.args.set) first (g.S.Source.seen c.args.source.now).left verifier.due
    verifier.count left keys c.args.sink.now c.loop-lines.sink inv.reading c.in-Some.chunk next after
    (chunk_came c.args.version verifier.due next left after first
    (g.S.Source.seen c.loop-lines.source).is_honest inv.honest c.in-Some.chunk
    c.in_ok-chunk.field-0 c.in-Some.is verifier.version inv.version c.in_ok-chunk.ensures.comes)

pub returns-in_err-write_alone-clause-ended : goal.returns-in_err-write_alone-clause-ended
returns-in_err-write_alone-clause-ended g c =
    let p = err_from_is_err_and c.from_residual-in_err-write_alone.result
    c.from_residual-in_err-write_alone.ensures.1 in
    let inv = c.loop-lines.invariant in
    let verifier = c.loop-lines.verifier in
    let first = (g.S.Source.seen c.args.source.now).is_honest in
    let left = (g.S.Source.seen c.loop-lines.source).left in
    let next = c.next.new.self.due in
    let none : c.in_ok-chunk.field-0 ≡ None = search rules in
    rw (p.1, p.2) (range_unwritten g.W.Sink.seen c.args.notation c.args.version c.args.root.now.0
    (set_of c.args.set) first (g.S.Source.seen c.args.source.now).left verifier.due
    verifier.count left (map (λ k. k.items) c.loop-lines.left.now) c.args.sink.now c.loop-lines.sink
    inv.reading next
    (end_came c.args.version verifier.due next left (g.S.Source.seen c.next.new.source).left first
    (g.S.Source.seen c.loop-lines.source).is_honest inv.honest c.in_ok-chunk.field-0 none
    verifier.version c.in_ok-chunk.ensures.comes) c.write_alone.new.sink
    c.in_err-write_alone.field-0.0 c.in_err-write_alone.ensures)

pub returns-in_err-write_alone-clause-reads : goal.returns-in_err-write_alone-clause-reads
returns-in_err-write_alone-clause-reads g c =
    let p = err_from_is_err_and c.from_residual-in_err-write_alone.result
    c.from_residual-in_err-write_alone.ensures.1 in
    let first = (g.S.Source.seen c.args.source.now).failures in
    let now = (g.S.Source.seen c.next.new.source).failures in
    rw (p.1, p.2) (lines_tell first now c.in_err-write_alone.field-0.0
    (unfailed c.in_ok-chunk.field-0 (g.S.Source.seen c.loop-lines.source).failures now
    c.in_ok-chunk.ensures.read ∙ c.loop-lines.invariant.failures))

pub returns-clause-ended : goal.returns-clause-ended
returns-clause-ended g c =
    let inv = c.loop-lines.invariant in
    let verifier = c.loop-lines.verifier in
    let first = (g.S.Source.seen c.args.source.now).is_honest in
    let left = (g.S.Source.seen c.loop-lines.source).left in
    let next = c.next.new.self.due in
    let none : c.in_ok-chunk.field-0 ≡ None = search rules in
    range_ends g.W.Sink.seen c.args.notation c.args.version c.args.root.now.0
    (set_of c.args.set) first (g.S.Source.seen c.args.source.now).left verifier.due
    verifier.count left (map (λ k. k.items) c.loop-lines.left.now) c.args.sink.now c.loop-lines.sink
    inv.reading next
    (end_came c.args.version verifier.due next left (g.S.Source.seen c.next.new.source).left first
    (g.S.Source.seen c.loop-lines.source).is_honest inv.honest c.in_ok-chunk.field-0 none
    verifier.version c.in_ok-chunk.ensures.comes) c.write_alone.new.sink
    c.in_ok-write_alone.field-0 c.in_ok-write_alone.ensures
