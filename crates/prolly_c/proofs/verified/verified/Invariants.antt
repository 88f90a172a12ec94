use Rattle.std.proofs.Common.{◌≡◌, true, false}
use Rattle.prolly_io.specs.Bytes.{are_bytes}
use Rattle.prolly_range.specs.KeySet.{set_of}
use Rattle.prolly_range.specs.ToGo.{to_go}
use Rattle.prolly_c.proofs.Verifying.{IsReading}
use Rattle.prolly_c.proofs.verified.verified.Given as goal

abbrev pub invariant-loop-verifier : goal.invariant-loop-verifier
invariant-loop-verifier l = record {
  version : l.verifier.version ≡ l.fn.version;
  going : l.verifier.stopped ≡ false;
  honest : are_bytes l.source.left.now ≡ true;
  reading : IsReading l.fn.version l.fn.root.0 (set_of l.fn.set) l.fn.proof l.verifier.due
      l.verifier.count l.source.left.now;
}

abbrev pub decreases-loop-verifier : goal.decreases-loop-verifier
decreases-loop-verifier l = to_go l.verifier.due
