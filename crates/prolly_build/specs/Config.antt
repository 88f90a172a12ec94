-- What a build is set to.
use Rattle.std.specs.Prelude.{◌≡◌, ℕ, ◌<◌, ◌≤◌, ◌⊎◌}
use Rattle.prolly_entry.specs.declared.version.Version.{Version}
use Rattle.prolly_entry.specs.declared.version.Version.TheVariants.{One}
use Rattle.prolly_build.specs.declared.config.ConfigFault.{ConfigFault}
use Rattle.prolly_build.specs.declared.config.ConfigFault.TheVariants.{BadBits, BadStages}
use Rattle.prolly_build.specs.declared.config.ConfigFault.TheVariants.{BadCapacity, BadMaxRecords}
use Rattle.prolly_build.specs.declared.config.ConfigFault.TheVariants.{BadBatch, BadVersion}

-- The bits of the cut, the greatest number of levels, how many messages a link holds, how many
-- records a file has at most, how many items a message has at most, and the version of the chunk
-- file.
pub record Settings : Type 0 where
  pub bits : ℕ
  pub stages : ℕ
  pub capacity : ℕ
  pub max_records : ℕ
  pub batch : ℕ
  pub version : Version

-- Each number is within its range.
pub record AreLawful (settings : Settings) : Type 0 where
  pub bits : settings.bits ≤ 24
  pub stages : (1 ≤ settings.stages) × (settings.stages ≤ 12)
  pub capacity : (1 ≤ settings.capacity) × (settings.capacity ≤ 4096)
  pub max_records : (1 ≤ settings.max_records) × (settings.max_records ≤ 16777216)
  pub batch : (1 ≤ settings.batch) × (settings.batch ≤ 1024)

-- The settings of these numbers and this version.
abbrev pub settings_of : ℕ → ℕ → ℕ → ℕ → ℕ → Version → Settings
settings_of bits stages capacity max_records batch version = record {
  bits = bits;
  stages = stages;
  capacity = capacity;
  max_records = max_records;
  batch = batch;
  version = version;
}

-- The settings of these four numbers, with messages of one item and version One.
abbrev pub first_settings : ℕ → ℕ → ℕ → ℕ → Settings
first_settings bits stages capacity max_records = settings_of bits stages capacity max_records 1 One

-- The number lies outside the range from 1 to `most`.
abbrev pub IsOutside : ℕ → ℕ → Type 0
IsOutside most n = (n ≡ 0) ⊎ (most < n)

-- The number is in the range from 1 to `most`.
abbrev pub IsInRange : ℕ → ℕ → Type 0
IsInRange most n = (1 ≤ n) × (n ≤ most)

-- Which number is outside its range; the first of the four is told.
abbrev pub IsConfigFault : ℕ → ℕ → ℕ → ℕ → ConfigFault → Type 0
IsConfigFault bits stages capacity max_records BadBits = 24 < bits
IsConfigFault bits stages capacity max_records BadStages = (bits ≤ 24) × IsOutside 12 stages
IsConfigFault bits stages capacity max_records BadCapacity = (bits ≤ 24) × IsInRange 12 stages ×
    IsOutside 4096 capacity
IsConfigFault bits stages capacity max_records BadMaxRecords =
    (bits ≤ 24) × IsInRange 12 stages × IsInRange 4096 capacity × IsOutside 16777216 max_records
IsConfigFault bits stages capacity max_records BadBatch = ⊥
IsConfigFault bits stages capacity max_records BadVersion = ⊥
