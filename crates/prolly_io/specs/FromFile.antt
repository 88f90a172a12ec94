-- What a contract sees of a `FromFile`.
use Rattle.std.specs.Prelude.{ℕ, List, Option}
use Rattle.prolly_io.specs.Device.{DeviceView}
use Rattle.prolly_io.specs.Known.{known_bytes, are_known_bytes}

-- A file as a device, of the bytes that it tells, and of so many calls that failed. It is honest where
-- it tells its bytes, and each of them is a byte.
abbrev pub view_of : Option (List ℕ) → ℕ → DeviceView
view_of known failures = record {
  is_honest = are_known_bytes known;
  bytes = known_bytes known;
  failures = failures;
}
