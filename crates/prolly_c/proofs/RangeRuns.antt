-- How many runs the pairs of a range's proof need.
use Rattle.std.proofs.Common.{◌≡◌, ℕ, List, subst}
use Rattle.prolly_entry.specs.Version.{version_byte}
use Rattle.prolly_entry.specs.declared.version.Version.{Version}
use Rattle.prolly_range.specs.KeySet.{KeySet}
use Rattle.prolly_c.specs.RangeProofs.{HasRuns, HasShown}
use Rattle.prolly_c.specs.declared.run.Run.{Run}

-- Where the runs of what a proof shows are counted, they are so by the number of the version.
pub has_runs : (version : ℕ) (root : List ℕ) (set other : KeySet) (bytes : List ℕ) (out : List Run)
    (runs : ℕ) (format : Version) → version_byte format ≡ version → set ≡ other →
    HasShown format root set bytes out runs → HasRuns version root other bytes runs
has_runs version root set other bytes out runs format same is shown =
    let s = subst (λ x. HasShown format root x bytes out runs) is shown in record {
      format = format;
      format_is = same;
      pairs = s.pairs;
      proof = s.proof;
      many = s.many;
    }
