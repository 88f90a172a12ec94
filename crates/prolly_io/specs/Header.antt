-- The header of a chunk file, its first six bytes.
use Rattle.std.specs.Prelude.{ℕ, Bool, true, nat_le, ◌||◌, ◌==◌, get_or, List, [], ◌∷◌, Option}
use Rattle.std.specs.Prelude.{Some, None, if◌then◌else◌}
use Rattle.prolly_entry.specs.declared.version.Version.{Version}
use Rattle.prolly_entry.specs.declared.version.Version.TheVariants.{One, Two}
use Rattle.prolly_io.specs.declared.format.header.HeaderFault.{HeaderFault}
use Rattle.prolly_io.specs.declared.format.header.HeaderFault.TheVariants.{BadByte, Truncated}

-- Which bytes may stand at each of its offsets: the letters PRLY, a version, at most 24 bits.
abbrev pub header_tests : List (ℕ → Bool)
header_tests = (λ b. b == 0x50) ∷ (λ b. b == 0x52) ∷ (λ b. b == 0x4C) ∷ (λ b. b == 0x59)
    ∷ (λ b. (b == 1) || (b == 2)) ∷ (λ b. nat_le b 24) ∷ []

-- Which bytes may stand at an offset.
abbrev pub test_at : ℕ → ℕ → Bool
test_at offset = get_or header_tests offset (λ b. true)

-- What is wrong: a byte that may not stand at its offset, or else that the bytes end before the last
-- offset.
abbrev pub header_fault : List (ℕ → Bool) → List ℕ → Option HeaderFault
header_fault [] bytes = None
header_fault (test ∷ tests) [] = Some Truncated
header_fault (test ∷ tests) (b ∷ bytes) = if test b then header_fault tests bytes else Some
    BadByte

-- The version that the byte of a lawful header stands for.
abbrev pub version_of : ℕ → Version
version_of byte = if byte == 1 then One else Two
