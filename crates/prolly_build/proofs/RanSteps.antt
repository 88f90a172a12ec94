-- What the driver's parts give back.
use Rattle.std.proofs.Common.{◌≡◌, ℕ, ◌-◌, List, [], ◌++◌, ◌≢◌, inl, inr, refl, sym, subst, ap, ◌∙◌}
use Rattle.std.proofs.Common.{Result, Ok, Err, true}
use Rattle.std.proofs.lemmas.List.{append-nil}
use Rattle.std.proofs.lemmas.Result.{err_from_is_err_and}
use Rattle.std.specs.Prelude.{IsErrAnd, IfOk, IfErr, OnOk}
use Rattle.prolly_tree.specs.Chunk.{Chunk}
use Rattle.prolly_tree.specs.File.{header}
use Rattle.prolly_tree.specs.Pipeline.{before_second}
use Rattle.prolly_io.specs.Sink.{SinkView, TakesPrefix}
use Rattle.prolly_link.specs.Views.{Receiving}
use Rattle.prolly_link.specs.Progress.{end_given}
use Rattle.prolly_link.specs.declared.message.End.{End}
use Rattle.prolly_link.specs.Progress.{HasEnded}
use Rattle.prolly_link.specs.Growth.{items_between}
use Rattle.prolly_link.specs.declared.message.End.TheVariants.{Clean, Fault}
use Rattle.prolly_link.specs.declared.fault.RunFault.{RunFault}
use Rattle.prolly_link.specs.declared.fault.RunFault.TheVariants.{Write}
use Rattle.prolly_report.specs.declared.report.Report.{Report}
use Rattle.prolly_build.specs.Config.{Settings}
use Rattle.prolly_build.specs.BuiltFile.{IsBegun}
use Rattle.prolly_build.specs.WriterState.{HasWritten, IsEndFault, IsEndWritten, frames_of}
use Rattle.prolly_build.specs.RunResult.{IsWriterDone, HandsOn}
use Rattle.prolly_build.specs.declared.end.Halt.{Halt}
use Rattle.prolly_build.specs.declared.end.Halt.TheVariants.{NoThread, Lost}
use Rattle.prolly_build.specs.declared.run.writer.WriterState.{WriterState}
use Rattle.prolly_build.specs.declared.run.writer.WriterState.TheVariants.{Writing, TooTall, Failed}
use Rattle.prolly_build.specs.declared.run.writer.WriterResult.{WriterResult}

-- a sink that was left alone
pub nothing_begun : (settings : Settings) (old : SinkView) → IsBegun settings old old
nothing_begun settings old = record {
  chunks_begun = [];
  small = tt;
  taken = λ k. record {
    part = [];
    grown = sym (append-nil old.taken);
    is_prefix = (frames_of (header settings.version settings.bits) [], refl);
  };
  keeps = λ k. k;
}

pub all_taken : {old new wanted : List ℕ} → new ≡ old ++ wanted → TakesPrefix old new wanted
all_taken {wanted} h = record {
  part = wanted;
  grown = h;
  is_prefix = ([], sym (append-nil wanted));
}

-- a sink that the writer wrote to
pub written_begun : (settings : Settings) (level : ℕ) (events : List Chunk) (old new : SinkView)
    (written : WriterState) →
    HasWritten (header settings.version settings.bits) level events old new written →
    IsBegun settings old new
written_begun settings level events old new (Writing begun) h =
    record {
      chunks_begun = events;
      small = h.small;
      taken = λ k. all_taken (h.taken_is k);
      keeps = h.keeps;
    }
written_begun settings level events old new TooTall h =
    record {
      chunks_begun = before_second level events;
      small = h.small;
      taken = λ k. all_taken (h.taken_is k);
      keeps = h.keeps;
    }
written_begun settings level events old new Failed h =
    record { chunks_begun = h.tried; small = h.small; taken = h.taken_is; keeps = h.keeps }

-- and once the build has ended with another fault than a failed write
pub ended_begun : (settings : Settings) (level : ℕ) (events : List Chunk)
    (old before after : SinkView) (written : WriterState) (end : End) (fault : RunFault) →
    HasWritten (header settings.version settings.bits) level events old before written →
    IsEndFault (header settings.version settings.bits) level events old before after end fault →
    fault ≢ Write → IsBegun settings old after
ended_begun settings level events old before after written (Fault f) fault h end_is other =
    subst (λ (s : SinkView). IsBegun settings old s) (sym end_is.1)
    (written_begun settings level events old before written h)
ended_begun settings level events old before after written Clean fault h (inl failed) other =
    absurd (other failed.0)
ended_begun settings level events old before after written Clean fault h (inr (inl tall)) other =
    record {
      chunks_begun = before_second level events;
      small = tall.1.small;
      taken = λ k. all_taken (tall.1.taken_is k);
      keeps = tall.1.keeps;
    }
ended_begun settings level events old before after written Clean fault h (inr (inr lost)) other =
    subst (λ (s : SinkView). IsBegun settings old s) (sym lost.1)
    (written_begun settings level events old before written h)

-- the writer's sink keeps what it takes, if it did
written_keeps : (head : List ℕ) (level : ℕ) (events : List Chunk) (old new : SinkView)
    (written : WriterState) → HasWritten head level events old new written →
    old.is_keeping ≡ true → new.is_keeping ≡ true
written_keeps head level events old new (Writing begun) h = h.keeps
written_keeps head level events old new TooTall h = h.keeps
written_keeps head level events old new Failed h = h.keeps

-- and so it does once the build has ended
pub ended_keeps : (head : List ℕ) (level : ℕ) (events : List Chunk) (old before after : SinkView)
    (written : WriterState) (end : End) (result : Result Report RunFault) →
    HasWritten head level events old before written →
    IfOk result (IsEndWritten head level events old after) →
    IfErr result (λ fault. IsEndFault head level events old before after end fault) →
    old.is_keeping ≡ true → after.is_keeping ≡ true
ended_keeps head level events old before after written end (Ok report) h ok err = ok.keeps
ended_keeps head level events old before after written (Fault f) (Err fault) h ok err =
    subst (λ (s : SinkView). old.is_keeping ≡ true → s.is_keeping ≡ true) (sym err.1)
    (written_keeps head level events old before written h)
ended_keeps head level events old before after written Clean (Err fault) h ok (inl (is, inl part)) =
    part.keeps
ended_keeps head level events old before after written Clean (Err fault) h ok (inl (is, inr part)) =
    part.keeps
ended_keeps head level events old before after written Clean (Err fault) h ok (inr (inl tall)) =
    tall.1.keeps
ended_keeps head level events old before after written Clean (Err fault) h ok (inr (inr lost)) =
    subst (λ (s : SinkView). old.is_keeping ≡ true → s.is_keeping ≡ true) (sym lost.1)
    (written_keeps head level events old before written h)

pub all_begun : (settings : Settings) (last : Receiving Chunk) (old new : SinkView)
    (wrote : WriterResult) → IsWriterDone settings last old new wrote → IsBegun settings old new
all_begun settings last old new wrote h = written_begun settings (settings.stages - 1)
    wrote.last.items old new wrote.written h.written

-- a level that could not meet a link, above a writer that wrote
pub unmet_hands_on : {T : Type 0} (settings : Settings) (last : Receiving Chunk)
    (old new : SinkView) (untouched : Type 0) (got : WriterResult) (wrote : T → WriterResult)
    (result : Result T Halt) (halt : Halt) → IsWriterDone settings last old new got →
    IsErrAnd result (λ h. h ≡ halt) → halt ≡ Lost →
    HandsOn settings last old new untouched result wrote
unmet_hands_on settings last old new untouched got wrote result halt h is lost =
    let e = err_from_is_err_and result is in
    subst (λ r. HandsOn settings last old new untouched r wrote) (sym e.1) (record {
      written = tt;
      refused = λ none. absurd (lost_is_started (sym (e.2 ∙ lost) ∙ none));
      begun = all_begun settings last old new got h;
    })
  where
    lost_is_started : Lost ≡ NoThread → ⊥
    lost_is_started e = cc

-- a level that met its link, or could not meet it, above a writer that wrote
pub met_hands_on : {T : Type 0} (settings : Settings) (last : Receiving Chunk)
    (old new : SinkView) (untouched : Type 0) (got : WriterResult) (wrote : T → WriterResult)
    (result : Result T Halt) → IsWriterDone settings last old new got →
    IfOk result (λ t. wrote t ≡ got) → IfErr result (λ h. h ≡ Lost) →
    HandsOn settings last old new untouched result wrote
met_hands_on settings last old new untouched got wrote (Ok t) h same lost = record {
  written = subst (λ w. IsWriterDone settings last old new w) (sym same) h;
  refused = tt;
  begun = tt;
}
met_hands_on settings last old new untouched got wrote (Err halt) h same lost =
    unmet_hands_on settings last old new untouched got wrote (Err halt) halt h refl lost

-- what holds of a value holds of a result that is this value
pub of_made : {T E : Type 0} (P : T → Type 0) (met : Type 0) (made : T) (result : Result T E) →
    IfOk result (λ t. t ≡ made) → OnOk result met → (met → P made) → IfOk result P
of_made P met made (Ok t) is shown holds = subst P (sym is) (holds shown)
of_made P met made (Err e) is shown holds = tt

-- a receiver that had given nothing has given all that it gave since
between_all : (before after : List Chunk) → before ≡ [] → items_between before after ≡ after
between_all before after e = ap (λ (xs : List Chunk). items_between xs after) e

-- the writer received all of the last link
pub all_written : (settings : Settings) (last : Receiving Chunk) (old new : SinkView)
    (after : Receiving Chunk) (end : End) (written : WriterState)
    (bits level : ℕ) → after.link ≡ last.link → HasEnded after.progress →
    end ≡ end_given after.progress → bits ≡ settings.bits → level ≡ settings.stages - 1 →
    last.items ≡ [] → HasWritten (header settings.version bits) level
    (items_between last.items after.items) old new written →
    IsWriterDone settings last old new (record { last = after; end = end; written = written })
all_written settings last old new after end written bits level link ended end_is bits_are level_is
    none h = record {
      link = link;
      has_ended = ended;
      end_is = end_is;
      written = subst (λ l. HasWritten (header settings.version settings.bits) l after.items old new
          written) level_is
          (subst (λ b. HasWritten (header settings.version b) level after.items old new written)
          bits_are
          (subst (λ (es : List Chunk). HasWritten (header settings.version bits) level es old new
          written) (between_all last.items after.items none) h));
    }
