-- The flush behind what was written to a sink.
use Rattle.std.specs.Prelude.{◌≡◌, ◌⊎◌, true, Result}
use Rattle.prolly_io.specs.Failures.{after_failure}
use Rattle.prolly_io.specs.Sink.{IsSettled, SinkView}

-- The sink was flushed, which takes no more bytes, and keeps what it takes, if it did. It holds nothing
-- back then, and the outcome is answered; or else the flush failed, and what is to be said of that.
pub record IsFlushedAs {W T F : Type 0} (seen : W → SinkView) (failed : Result T F) (old new : W)
    (outcome answered : Result T F) : Type 0 where
  pub same : (seen old).is_keeping ≡ true → (seen new).taken ≡ (seen old).taken
  pub keeping : (seen old).is_keeping ≡ true → (seen new).is_keeping ≡ true
  pub tells : ((answered ≡ outcome) × ((seen new).failures ≡ (seen old).failures) ×
      IsSettled (seen new))
      ⊎ ((answered ≡ failed) × ((seen new).failures ≡ after_failure (seen old).failures))
