-- Leaves with pairs.
use Rattle.std.proofs.Common.{ℕ, zero, suc, ◌<◌, List, [], ◌∷◌, length, arith}
use Rattle.prolly_entry.specs.declared.version.Version.{Version}
use Rattle.prolly_entry.specs.declared.version.Version.TheVariants.{One}
use Rattle.prolly_look_up.specs.Entries.{IsWhole}
use Rattle.prolly_look_up.specs.HeldPairs.{pairs_held}

-- A leaf that is whole in one version is whole in the other.
pub whole_one : (version : Version) (chunk : List ℕ) → IsWhole version chunk →
    0 < length (pairs_held chunk) → IsWhole One chunk
whole_one version [] w some = absurd w.holds
whole_one version (zero ∷ entries) w some = record { pairs = w.pairs; holds = w.holds }
whole_one version (suc level ∷ entries) w some = absurd (omega arith)
