-- What a writer of a record file wrote, once it is closed.
use Rattle.std.proofs.Common.{◌≡◌, ℕ, Bool, true, false, List, ◌++◌, ap, ◌∙◌}
use Rattle.std.proofs.Common.{subst, append-nil, OnOk, OnErr}
use Rattle.prolly_io.specs.Failures.{after_failure, CountsFailure}
use Rattle.prolly_io.specs.Sink.{SinkView, TakesPrefix}
use Rattle.prolly_link.specs.Identity.{sink_link}
use Rattle.prolly_load.specs.Writer.{HasFile, HasPart, IsWritten, Writing, link_to}
use Rattle.prolly_load.specs.Writer.{outcome, spellings}

-- Links to sinks are the same where the sinks kept the same at first, and failed as often.
pub record SameAtFirst (a b : SinkView) : Type 0 where
  pub keeping : a.is_keeping ≡ b.is_keeping
  pub taken : a.taken ≡ b.taken
  pub failures : a.failures ≡ b.failures

same_keeping : (a b : Bool) (xs ys : List ℕ) (m n : ℕ) → sink_link a xs m ≡ sink_link b ys n → a ≡ b
same_keeping a b xs ys m n e = cc

same_taken : (a b : Bool) (xs ys : List ℕ) (m n : ℕ) → sink_link a xs m ≡ sink_link b ys n → xs ≡ ys
same_taken a b xs ys m n e = cc

same_failures : (a b : Bool) (xs ys : List ℕ) (m n : ℕ) → sink_link a xs m ≡ sink_link b ys n → m ≡ n
same_failures a b xs ys m n e = cc

pub same_at_first : (a b : SinkView) → link_to a ≡ link_to b → SameAtFirst a b
same_at_first a b e = record {
  keeping = same_keeping a.is_keeping b.is_keeping a.taken b.taken a.failures b.failures e;
  taken = same_taken a.is_keeping b.is_keeping a.taken b.taken a.failures b.failures e;
  failures = same_failures a.is_keeping b.is_keeping a.taken b.taken a.failures b.failures e;
}

module _ (sink : SinkView) (w : Writing) (h : IsWritten w) (link : link_to w.begun ≡ link_to sink)
  where
    first : SameAtFirst w.begun sink
    first = same_at_first w.begun sink link

    kept : sink.is_keeping ≡ true → w.begun.is_keeping ≡ true
    kept k = first.keeping ∙ k

    -- A sink that keeps what it takes keeps it still.
    pub keeps_on : sink.is_keeping ≡ true → w.sink.is_keeping ≡ true
    keeps_on k = h.written.writes.keeping (kept k)

    -- Where no call failed, it has the whole file of the records that were sent.
    pub has_file : w.has_failed ≡ false → sink.is_keeping ≡ true → HasFile w.records sink w.sink
    has_file e k =
        let all : w.sink.taken ≡ w.begun.taken ++ spellings (w.records ++ h.written.more) =
        subst (λ b. OnOk (outcome b) (w.sink.taken ≡ w.begun.taken ++
        spellings (w.records ++ h.written.more))) e (h.written.writes.written (kept k)) in record {
          taken = all ∙ (ap (λ xs. xs ++ spellings (w.records ++ h.written.more)) first.taken ∙
              ap (λ more. sink.taken ++ spellings (w.records ++ more)) (h.written.no_more e) ∙
              ap (λ rs. sink.taken ++ spellings rs) (append-nil w.records));
          settled = h.settled e (keeps_on k);
        }

    -- Where one failed, it has a part of it.
    pub has_part : w.has_failed ≡ true → sink.is_keeping ≡ true → HasPart w.records sink w.sink
    has_part e k =
        let part : TakesPrefix w.begun.taken w.sink.taken (spellings (w.records ++ h.written.more)) =
        subst (λ b. OnErr (outcome b) (TakesPrefix w.begun.taken w.sink.taken
        (spellings (w.records ++ h.written.more)))) e (h.written.writes.part (kept k)) in record {
          more = h.written.more;
          one_at_most = h.written.one_at_most;
          part = subst (λ taken. TakesPrefix taken w.sink.taken
              (spellings (w.records ++ h.written.more))) first.taken part;
        }

    -- No failure is passed over: where no call failed, the sink counts none more.
    pub none_failed : w.has_failed ≡ false → w.sink.failures ≡ sink.failures
    none_failed e =
        subst (λ b. CountsFailure w.begun.failures w.sink.failures (outcome b)) e
        h.written.writes.failures ∙ first.failures

    -- And where one failed, it counts one more.
    pub one_failed : w.has_failed ≡ true → w.sink.failures ≡ after_failure sink.failures
    one_failed e =
        subst (λ b. CountsFailure w.begun.failures w.sink.failures (outcome b)) e
        h.written.writes.failures ∙ ap after_failure first.failures
