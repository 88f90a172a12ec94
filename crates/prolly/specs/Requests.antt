-- What is asked of a build, and of a run over an old tree.
use Rattle.std.specs.Prelude.{◌≡◌, ◌≤◌, ℕ, Option, Some, None}
use Rattle.prolly_entry.specs.Version.{version_byte}
use Rattle.prolly_io.specs.declared.format.header.Header.{Header}
use Rattle.prolly_build.specs.Config.{Settings, settings_of}
use Rattle.prolly_answer.specs.ChunkBytes.{IsChoice, Sampled}
use Rattle.prolly_answer.specs.declared.chunk_bytes.chosen_bits.ChosenBits.{ChosenBits}
use Rattle.prolly.specs.declared.commands.build.BuildRequest.{BuildRequest}

-- Each number of a build is within its range.
pub record AreInRange (request : BuildRequest) : Type 0 where
  pub bits : request.bits ≤ 24
  pub stages : (1 ≤ request.stages) × (request.stages ≤ 12)
  pub capacity : (1 ≤ request.capacity) × (request.capacity ≤ 4096)
  pub max_records : (1 ≤ request.max_records) × (request.max_records ≤ 16777216)
  pub batch : (1 ≤ request.batch) × (request.batch ≤ 1024)
  pub version : (1 ≤ request.version) × (request.version ≤ 2)

-- The bits that are used: those that were chosen by a sample, or the default where none were.
abbrev pub bits_used : ℕ → Option ChosenBits → ℕ
bits_used default None = default
bits_used default (Some chosen) = chosen.bits

-- These bits are used where chunks are to have so many bytes, by what was sampled.
pub record AreChosen (sampled : Sampled) (chunk_bytes default bits : ℕ) : Type 0 where
  pub choice : Option ChosenBits
  pub is_choice : IsChoice sampled chunk_bytes choice
  pub used : bits ≡ bits_used default choice

-- The settings have the bits and the version of this header, and all else as a build has it by
-- default.
pub record IsSetBy (header : Header) (settings : Settings) : Type 0 where
  pub same : settings ≡ settings_of header.bits 12 64 16777216 16 settings.version
  pub version : version_byte settings.version ≡ version_byte header.version
