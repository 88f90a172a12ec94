-- What a clause reads of a `ToWrite`.
use Rattle.std.specs.Prelude.{ℕ, List, Option, is_some}
use Rattle.prolly_io.specs.Known.{known_bytes}
use Rattle.prolly_io.specs.Sink.{SinkView}
use Rattle.prolly_io.specs.declared.device.to_write.ToWrite.{ToWrite}

-- A writer as a sink, where `contents` says what it tells of its bytes: it keeps them where it
-- tells them, and the sink holds none back.
abbrev pub seen_of : {W : Type 0} → (W → Option (List ℕ)) → ToWrite W → SinkView
seen_of contents sink =
    record {
      is_keeping = is_some (contents sink.writer);
      taken = known_bytes (contents sink.writer);
      settled = known_bytes (contents sink.writer);
      failures = sink.failures;
    }
