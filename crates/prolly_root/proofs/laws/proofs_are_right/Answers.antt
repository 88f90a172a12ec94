use Rattle.std.proofs.Common.{◌≡◌, ◌⊎◌, inl, inr}
use Rattle.prolly_look_up.specs.Content.{chunk_bytes}
use Rattle.prolly_look_up.specs.Way.{Clash}
use Rattle.prolly_tree.specs.LookUp.{find}
use Rattle.prolly_root.specs.ProofFile.{ShowsClash}
use Rattle.prolly_root.proofs.OneProof.{proofs_are_one}
use Rattle.prolly_root.proofs.Passing.{proofs_say_one}
use Rattle.prolly_root.proofs.laws.proofs_are_right.Goals as goal

pub returns-clause-right : goal.returns-clause-right
returns-clause-right c version bits m key bytes value rising lawful p =
    tell (c.ways_are_right.ensures.found version bits m key p.chunks value rising lawful p.way)
  where
    tell : (value ≡ find m key) ⊎ Clash p.chunks (chunk_bytes version bits m) →
        (value ≡ find m key) ⊎ ShowsClash version bytes (chunk_bytes version bits m)
    tell (inl e) = inl e
    tell (inr clash) = inr (record { chunks = p.chunks; is = p.is; clash = clash })

pub returns-clause-one : goal.returns-clause-one
returns-clause-one c = proofs_say_one

pub returns-clause-same : goal.returns-clause-same
returns-clause-same c = proofs_are_one
