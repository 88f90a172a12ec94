-- What the writer has written of the pairs before a fault, and before want of memory.
use Rattle.std.proofs.Common.{◌≡◌, ◌≤◌, ◌<◌, ◌-◌, ◌^◌, ℕ, suc, true, List, ◌++◌, length, inl, inr}
use Rattle.std.proofs.Common.{ap, sym, subst, ◌∙◌, arith}
use Rattle.std.specs.List.{filter}
use Rattle.prolly_tree.specs.Chunk.{Chunk, begun_chunks}
use Rattle.prolly_entry.specs.Cut.{sha512_cut}
use Rattle.prolly_tree.specs.Events.{faulty, has_level}
use Rattle.prolly_tree.specs.File.{header}
use Rattle.prolly_entry.specs.Pair.{Pair}
use Rattle.prolly_tree.specs.Pipeline.{pipeline_events, before_second, within_stages}
use Rattle.prolly_laws.specs.Stages.{composition}
use Rattle.prolly_io.specs.Sink.{SinkView, TakesPrefix}
use Rattle.prolly_link.specs.Views.{Whole}
use Rattle.prolly_link.specs.declared.message.End.{End}
use Rattle.prolly_link.specs.declared.message.End.TheVariants.{Clean, Fault}
use Rattle.prolly_link.specs.declared.fault.RunFault.{RunFault}
use Rattle.prolly_link.specs.declared.fault.RunFault.TheVariants.{Memory, Write}
use Rattle.prolly_link.specs.declared.fault.RunFault.TheVariants.{TooTall as TooTall_fault, Lost}
use Rattle.prolly_build.specs.declared.run.writer.WriterState.{WriterState}
use Rattle.prolly_build.specs.declared.run.writer.WriterState.TheVariants.{Writing, TooTall, Failed}
use Rattle.prolly_build.specs.Config.{Settings}
use Rattle.prolly_build.specs.End.{IsRefusedAt, IsStoppedAt}
use Rattle.prolly_build.specs.InputFaults.{IsFileFault, TookBegun, begun_of}
use Rattle.prolly_build.specs.WriterState.{HasWritten, IsEndFault, frames_of}
use Rattle.prolly_build.proofs.Makings.{at_most_one}
use Rattle.prolly_build.proofs.RanSteps.{all_taken}
use Rattle.prolly_build.proofs.Tops.{second_all}
use Rattle.prolly_build.proofs.WritingSteps.{failed_part}

module _ (settings : Settings) (some : 1 ≤ settings.stages) (p : List Pair)
    (few : length p < 2 ^ 64) (events : List Chunk)
    (sent : events ≡ pipeline_events (settings.stages - 1) (sha512_cut settings.bits)
    settings.version faulty p) (old new : SinkView) where
  abbrev level : ℕ
  level = settings.stages - 1

  abbrev file_head : List ℕ
  file_head = header settings.version settings.bits

  begun_is : frames_of file_head (before_second level events) ≡ begun_of settings p
  begun_is =
      let stages_are : suc level ≡ settings.stages = omega (arith, some) in
      let taken : before_second level events ≡
      before_second level (begun_chunks (sha512_cut settings.bits) settings.version p) =
      ap (before_second level) sent ∙ (composition (sha512_cut settings.bits) settings.version p few
      level).2 in
      ap (frames_of file_head) (taken ∙ ap (λ (n : ℕ). within_stages n
      (begun_chunks (sha512_cut settings.bits) settings.version p)) stages_are)

  took_all : (old.is_keeping ≡ true → new.taken ≡ old.taken ++
      frames_of file_head (before_second level events)) → TookBegun settings p old new
  took_all h = record { all = λ u k. all k; part = λ k. all_taken (all k) }
    where
      all : old.is_keeping ≡ true → new.taken ≡ old.taken ++ begun_of settings p
      all k = h k ∙ ap (λ (bytes : List ℕ). old.taken ++ bytes) begun_is

  pub took_begun : (written : WriterState) → HasWritten file_head level events old new written →
      TookBegun settings p old new
  took_begun (Writing begun) h =
      let one = at_most_one begun.has_last_level in
      let count = h.few in
      let few : length (filter (has_level level) events) ≤ 1 = omega (arith, one, count) in
      took_all (λ k. h.taken_is k ∙ ap (λ (es : List Chunk). old.taken ++ frames_of file_head es)
      (sym (second_all level events few)))
  took_begun TooTall h = took_all h.taken_is
  took_begun Failed h = record {
    all = λ u k. absurd (h.failed u);
    part = λ k. subst (λ (bytes : List ℕ). TakesPrefix old.taken new.taken bytes) begun_is
        (failed_part h k);
  }

-- what the sink took of events, of which the writer takes those before the second one of the last
-- stage's level
took_events : (head : List ℕ) (level : ℕ) (events : List Chunk) (old new : SinkView)
    (written : WriterState) → HasWritten head level events old new written →
    old.is_keeping ≡ true → TakesPrefix old.taken new.taken
    (frames_of head (before_second level events))
took_events head level events old new (Writing begun) h keeps =
    let one = at_most_one begun.has_last_level in
    let count = h.few in
    let few : length (filter (has_level level) events) ≤ 1 = omega (arith, one, count) in
    all_taken (h.taken_is keeps ∙ ap (λ (es : List Chunk). old.taken ++ frames_of head es)
    (sym (second_all level events few)))
took_events head level events old new TooTall h keeps = all_taken (h.taken_is keeps)
took_events head level events old new Failed h keeps = failed_part h keeps

pub lost_is_no_memory : Lost ≡ Memory → ⊥
lost_is_no_memory e = cc

-- what is known where a build names want of memory
refused_at : (head : List ℕ) (level : ℕ) (events : List Chunk) (old before after : SinkView)
    (written : WriterState) (end : End) (fault : RunFault) →
    HasWritten head level events old before written →
    IsEndFault head level events old before after end fault → fault ≡ Memory →
    (end ≡ Fault Memory) × (old.is_keeping ≡ true →
    TakesPrefix old.taken after.taken (frames_of head (before_second level events)))
refused_at head level events old before after written (Fault f) fault h is memory = (
  ap Fault (sym is.0 ∙ memory),
  subst (λ (s : SinkView). old.is_keeping ≡ true →
      TakesPrefix old.taken s.taken (frames_of head (before_second level events))) (sym is.1)
      (took_events head level events old before written h),
)
refused_at head level events old before after written Clean fault h (inl failed) memory =
    absurd (apart (sym failed.0 ∙ memory))
  where
    apart : Write ≡ Memory → ⊥
    apart e = cc
refused_at head level events old before after written Clean fault h (inr (inl tall)) memory =
    absurd (apart (sym tall.0 ∙ memory))
  where
    apart : TooTall_fault ≡ Memory → ⊥
    apart e = cc
refused_at head level events old before after written Clean fault h (inr (inr lost)) memory =
    absurd (lost_is_no_memory (sym lost.0 ∙ memory))

-- what is known where a build names the fault of a file
stopped_at : (settings : Settings) (some : 1 ≤ settings.stages) (events : List Chunk)
    (old before after : SinkView) (written : WriterState) (end : End) (fault : RunFault) →
    HasWritten (header settings.version settings.bits) (settings.stages - 1) events old before
    written →
    IsEndFault (header settings.version settings.bits) (settings.stages - 1) events old before after
    end fault → IsFileFault fault →
    (end ≡ Fault fault) × ((p : List Pair) → length p < 2 ^ 64 →
    events ≡ pipeline_events (settings.stages - 1) (sha512_cut settings.bits) settings.version
    faulty p → TookBegun settings p old after)
stopped_at settings some events old before after written (Fault f) fault h is file = (
  ap Fault (sym is.0),
  λ p few sent. subst (λ (s : SinkView). TookBegun settings p old s)
      (sym is.1) (took_begun settings some p few events sent old before written h),
)
stopped_at settings some events old before after written Clean fault h (inl failed) file =
    absurd (subst IsFileFault failed.0 file)
stopped_at settings some events old before after written Clean fault h (inr (inl tall)) file =
    absurd (subst IsFileFault tall.0 file)
stopped_at settings some events old before after written Clean fault h (inr (inr lost)) file =
    absurd (subst IsFileFault lost.0 file)

pub is_refused_at : (settings : Settings) (sent : Whole Chunk) (old before after : SinkView)
    (written : WriterState) (fault : RunFault) →
    HasWritten (header settings.version settings.bits) (settings.stages - 1) sent.items old before
    written →
    IsEndFault (header settings.version settings.bits) (settings.stages - 1) sent.items old before
    after sent.end fault → fault ≡ Memory → IsRefusedAt settings sent old after
is_refused_at settings sent old before after written fault h is memory =
    let k = refused_at (header settings.version settings.bits) (settings.stages - 1) sent.items old
    before after written sent.end fault h is memory in
    record { told = k.0; took = k.1 }

pub is_stopped_at : (settings : Settings) (some : 1 ≤ settings.stages) (sent : Whole Chunk)
    (old before after : SinkView) (written : WriterState) (fault : RunFault) →
    HasWritten (header settings.version settings.bits) (settings.stages - 1) sent.items old before
    written →
    IsEndFault (header settings.version settings.bits) (settings.stages - 1) sent.items old before
    after sent.end fault → IsFileFault fault → IsStoppedAt settings sent old after fault
is_stopped_at settings some sent old before after written fault h is file =
    let k = stopped_at settings some sent.items old before after written sent.end fault h is file in
    record { told = k.0; took = k.1 }
