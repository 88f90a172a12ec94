-- The frames of a proof, as they come.
use Rattle.std.specs.Prelude.{◌≡◌, ℕ, List}
use Rattle.prolly_io.specs.Frame.{framed, IsSmall}
use Rattle.prolly_root.specs.ProofFault.{IsFrameFault}
use Rattle.prolly_range.specs.declared.fault.SetFault.{SetFault}
use Rattle.prolly_range.specs.declared.fault.SetFault.TheVariants.{Memory, Proof, Read, Stopped}

-- The bytes are the frame of the chunk.
pub record IsFrameOf (chunk bytes : List ℕ) : Type 0 where
  pub small : IsSmall chunk
  pub is : bytes ≡ framed chunk

-- Why no frame was read where the chunk of this number is due and these bytes are left: they begin
-- with no whole frame, unless memory was refused or a read failed.
abbrev pub IsNoFrame : ℕ → List ℕ → SetFault → Type 0
IsNoFrame number left Memory = Unit {0}
IsNoFrame number left Read = Unit {0}
IsNoFrame number left (Proof fault) = IsFrameFault number left fault
IsNoFrame number left Stopped = ⊥
