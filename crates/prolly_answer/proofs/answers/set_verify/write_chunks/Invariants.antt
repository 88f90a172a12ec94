use Rattle.std.proofs.Common.{◌≡◌, true, false, map}
use Rattle.prolly_range.specs.KeySet.{set_of}
use Rattle.prolly_range.specs.ToGo.{to_go}
use Rattle.prolly_answer.proofs.SetSteps.{IsReading}
use Rattle.prolly_answer.proofs.answers.set_verify.write_chunks.Given as goal

abbrev pub invariant-loop-lines : goal.invariant-loop-lines
invariant-loop-lines g l = record {
  version : l.verifier.version ≡ l.fn.version;
  going : l.verifier.stopped ≡ false;
  reading : IsReading g.W.Sink.seen l.notation l.fn.version l.fn.root.0 (set_of l.fn.set)
      (g.S.Source.seen l.fn.source).is_honest (g.S.Source.seen l.fn.source).left l.verifier.due
      l.verifier.count (g.S.Source.seen l.source).left (map (λ k. k.items) l.left)
      l.initial.sink l.sink;
  honest : (g.S.Source.seen l.fn.source).is_honest ≡ true →
      (g.S.Source.seen l.source).is_honest ≡ true;
  failures : (g.S.Source.seen l.source).failures ≡ (g.S.Source.seen l.fn.source).failures;
}

abbrev pub decreases-loop-lines : goal.decreases-loop-lines
decreases-loop-lines g l = to_go l.verifier.due
