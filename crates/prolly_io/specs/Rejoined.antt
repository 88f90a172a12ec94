-- A source of which the first bytes were taken off.
use Rattle.std.specs.Prelude.{◌&&◌, ◌++◌, drop}
use Rattle.prolly_io.specs.Bytes.{are_bytes}
use Rattle.prolly_io.specs.Source.{SourceView}
use Rattle.prolly_io.specs.declared.device.rejoined.Rejoined.{Rejoined}

-- What a contract sees of it, by what one sees of the rest: the bytes of the front that were not given
-- yet come first.
abbrev pub rejoined_view : {S : Type 0} → (S → SourceView) → Rejoined S → SourceView
rejoined_view seen source = record {
  is_honest = are_bytes (drop source.given source.front.items) && (seen source.rest).is_honest;
  is_steady = (seen source.rest).is_steady;
  left = drop source.given source.front.items ++ (seen source.rest).left;
  failures = (seen source.rest).failures;
}
