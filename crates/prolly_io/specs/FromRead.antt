-- What a clause reads of a `FromRead`.
use Rattle.std.specs.Prelude.{ℕ, Bool, false, List, [], Option, if◌then◌else◌}
use Rattle.prolly_io.specs.Known.{known_bytes, are_known_bytes}
use Rattle.prolly_io.specs.Source.{SourceView}
use Rattle.prolly_io.specs.declared.device.from_read.FromRead.{FromRead}

-- The reader said that it has no more bytes, so it is asked no more.
abbrev pub has_ended : {R : Type 0} → FromRead R → Bool
has_ended source = source.has_ended

-- A reader as a source, where `remaining` says what it tells of its bytes. It is honest where it
-- tells them, and each of them is a byte. That no read fails is told of none.
abbrev pub seen_of : {R : Type 0} → (R → Option (List ℕ)) → FromRead R → SourceView
seen_of remaining source = record {
  is_honest = are_known_bytes (remaining source.reader);
  is_steady = false;
  left = if source.has_ended then [] else known_bytes (remaining source.reader);
  failures = source.failures;
}
