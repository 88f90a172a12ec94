use Rattle.std.proofs.Common.{◌≡◌, ◌-◌, ◌*◌, ◌≤◌, ℕ, List, length, drop}
use Rattle.std.specs.Option.{option_copied}
use Rattle.prolly_entry.specs.Pair.{Pair}
use Rattle.prolly_entry.specs.declared.version.Version.{Version}
use Rattle.prolly_range.specs.KeySet.KeySet.{Range}
use Rattle.prolly_range.specs.SetProof.{IsSetProof}
use Rattle.prolly_c.proofs.ShownPairs.{IsShownTo}
use Rattle.prolly_c.specs.RangeProofs.{runs_shown}
use Rattle.prolly_c.proofs.shown.write_shown.Given as goal

abbrev pub invariant-loop-chunk : goal.invariant-loop-chunk
invariant-loop-chunk l = record {
  within : length l.rest ≤ length l.proof;
  few : 6 * l.written.pairs ≤ length l.proof - length l.rest;
  fewer : l.written.runs ≤ l.written.pairs;
  room : length l.out ≡ length l.fn.out;
  behind : drop l.written.runs l.out ≡ drop l.written.runs l.fn.out;
  indexed : (version : Version) (root : List ℕ) (pairs : List Pair) →
      (p : IsSetProof version root (Range l.from (option_copied l.fn.to)) l.proof pairs) →
      IsShownTo version l.from (option_copied l.fn.to) l.proof l.rest pairs l.out l.written
      (runs_shown version (Range l.from (option_copied l.fn.to)) p.chunks);
}

abbrev pub decreases-loop-chunk : goal.decreases-loop-chunk
decreases-loop-chunk l = length l.rest
