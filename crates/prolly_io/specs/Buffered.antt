-- What a clause reads of a `Buffered`.
use Rattle.std.specs.Prelude.{◌≡◌, ℕ, ◌+◌, ◌-◌, ◌≤◌, Bool, true, List, [], ◌++◌, length, drop}
use Rattle.std.specs.Prelude.{vec_capacity, vec_len, Result, Ok, IfOk, OnOk, OnErr}
use Rattle.prolly_io.specs.declared.device.sink.SinkFault.{SinkFault}
use Rattle.prolly_io.specs.Failures.{CountsFailure}
use Rattle.prolly_io.specs.Sink.{SinkView, Takes, CountsWriteFailure}
use Rattle.prolly_io.specs.declared.device.buffered.Buffered.{Buffered}

-- The sink behind the buffer.
abbrev pub sink_of : {W : Type 0} → Buffered W → W
sink_of buffer = buffer.sink

-- The bytes that were taken: those that the sink behind it took, of which `seen` is what a contract
-- sees, and those that are held.
abbrev pub bytes_taken : {W : Type 0} → (W → SinkView) → Buffered W → List ℕ
bytes_taken seen buffer = (seen buffer.sink).taken ++ drop buffer.sent buffer.held.items

-- A buffer as a contract sees it. It keeps what it takes where the sink behind it does, holds back
-- what that one does not have or holds back itself, and counts its own failures.
abbrev pub seen_before : {W : Type 0} → (W → SinkView) → Buffered W → SinkView
seen_before seen buffer = record {
  is_keeping = (seen buffer.sink).is_keeping;
  taken = bytes_taken seen buffer;
  settled = (seen buffer.sink).settled;
  failures = buffer.failures;
}

-- The sink behind it failed, so it is asked no more.
abbrev pub has_failed : {W : Type 0} → Buffered W → Bool
has_failed buffer = buffer.has_failed

-- How many bytes it has room for while it holds none.
abbrev pub buffer_size : {W : Type 0} → Buffered W → ℕ
buffer_size buffer = vec_capacity buffer.held

-- How many bytes it still has room for.
abbrev pub room_of : {W : Type 0} → Buffered W → ℕ
room_of buffer = vec_capacity buffer.held - vec_len buffer.held

-- All of these bytes were taken and are held: the sink behind the buffer is as it was, and there is
-- room for at most so many fewer.
pub record AreHeld {W : Type 0} (old new : Buffered W) (result : Result ℕ SinkFault)
    (buf : List ℕ) : Type 0 where
  pub all : result ≡ Ok (length buf)
  pub sink : sink_of new ≡ sink_of old
  pub room : room_of old ≤ room_of new + length buf

-- What a call of a buffer that had not failed tells of the sink behind it: at an error that sink
-- failed once, so it was not called again, and at an `Ok` it did not fail.
abbrev pub FailsWithSink : {W T : Type 0} → (W → SinkView) → Buffered W → Buffered W →
    Result T SinkFault → Type 0
FailsWithSink seen old new result =
    CountsFailure (seen old.sink).failures (seen new.sink).failures result

-- All that was held was handed on, and nothing else changed.
pub record IsEmptied {W : Type 0} (old new : Buffered W) : Type 0 where
  pub held : new.held.items ≡ []
  pub len : vec_len new.held ≡ 0
  pub sent : new.sent ≡ 0
  pub room : vec_capacity new.held ≡ vec_capacity old.held
  pub has_failed : new.has_failed ≡ old.has_failed

-- What comes of handing on all that is held.
pub record Empties {W : Type 0} (seen : W → SinkView) (old new : Buffered W)
    (result : Result Unit SinkFault) : Type 0 where
  pub bytes : (seen old.sink).is_keeping ≡ true → bytes_taken seen new ≡ bytes_taken seen old
  pub keeping : (seen old.sink).is_keeping ≡ true → (seen new.sink).is_keeping ≡ true
  pub failures : CountsFailure old.failures new.failures result
  pub cause : FailsWithSink seen old new result
  pub empty : OnOk result (IsEmptied old new)
  pub failed : OnErr result (has_failed new ≡ true)

-- What comes of keeping `buf`: nothing else changed.
pub record KeepsBytes {W : Type 0} (old new : Buffered W) (buf : List ℕ) : Type 0 where
  pub held : new.held.items ≡ old.held.items ++ buf
  pub len : vec_len new.held ≡ vec_len old.held + length buf
  pub room : vec_capacity old.held ≤ vec_capacity new.held
  pub sink : new.sink ≡ old.sink
  pub sent : new.sent ≡ old.sent
  pub has_failed : new.has_failed ≡ old.has_failed
  pub failures : new.failures ≡ old.failures

-- What comes of a write of `buf` past the buffer, which holds nothing, to the sink behind it: as
-- much as of any write, and a failure is noted.
pub record WritesPast {W : Type 0} (seen : W → SinkView) (old new : Buffered W)
    (result : Result ℕ SinkFault) (buf : List ℕ) : Type 0 where
  pub bound : IfOk result (λ n. n ≤ length buf)
  pub bytes : (seen old.sink).is_keeping ≡ true →
      Takes (bytes_taken seen old) (bytes_taken seen new) result buf
  pub keeping : (seen old.sink).is_keeping ≡ true → (seen new.sink).is_keeping ≡ true
  pub failures : CountsWriteFailure old.failures new.failures result buf
  pub cause : FailsWithSink seen old new result
  pub same : OnOk result (new ≡ record old { sink = new.sink })
  pub failed : OnErr result (has_failed new ≡ true)
