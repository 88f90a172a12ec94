-- Versions of the chunk file. (This project's format.)
use Rattle.std.specs.Prelude.{ℕ}
use Rattle.prolly_entry.specs.declared.version.Version.{Version}
use Rattle.prolly_entry.specs.declared.version.Version.TheVariants.{One, Two}

-- The byte that stands for the version in a file's header.
abbrev pub version_byte : Version → ℕ
version_byte One = 1
version_byte Two = 2
