-- What is told of the reads of an old tree whose source is given back.
use Rattle.std.proofs.Common.{◌≡◌, ◌≢◌, ℕ, Bool, List, Option, Some, None, Result}
use Rattle.std.proofs.Common.{Ok, Err, OnOk, inl, inr, ap, sym, subst, ◌∙◌, arith}
use Rattle.prolly_io.specs.Failures.{after_failure}
use Rattle.prolly_apply.specs.OldLoaded.{TellsReadsOf, load_end}
use Rattle.prolly_entry.specs.Pair.{Pair}
use Rattle.prolly_entry.specs.Record.{Record}
use Rattle.prolly_entry.specs.declared.version.Version.{Version}
use Rattle.prolly_io.specs.Sink.{SinkView}
use Rattle.prolly_link.specs.Identity.{LinkId}
use Rattle.prolly_link.specs.Progress.{end_given}
use Rattle.prolly_link.specs.Views.{Receiving, Whole}
use Rattle.prolly_link.specs.declared.fault.RunFault.{RunFault}
use Rattle.prolly_link.specs.declared.fault.RunFault.TheVariants.{Lost, Memory, NoThread}
use Rattle.prolly_link.specs.declared.message.End.TheVariants.{Clean, Fault}
use Rattle.prolly_merge.specs.Inputs.{fault_in}
use Rattle.prolly_report.specs.declared.apply_fault.ApplyFault.{ApplyFault}
use Rattle.prolly_report.specs.declared.apply_fault.ApplyFault.TheVariants as answers
use Rattle.prolly_report.specs.declared.report.Report.{Report}
use Rattle.prolly_root.specs.ChunkFile.{ChunkFile}
use Rattle.prolly_root.specs.RootFault.{TellsFailure}
use Rattle.prolly_root.specs.declared.root_fault.RootFault.{RootFault}
use Rattle.prolly_root.specs.declared.root_fault.RootFault.TheVariants.{Read}
use Rattle.prolly_tree.specs.Chunk.{Chunk}
use Rattle.prolly_build.specs.Config.{Settings}
use Rattle.prolly_build.specs.End.{IsFinished}
use Rattle.prolly_build.specs.GivenBack.{IsGivenBack, IsTrueOfReads, TellsOldReads}
use Rattle.prolly_build.specs.OldEnd.{IsOldEnded, TellsOf}
use Rattle.prolly_build.specs.OldWorkers.{IsAppliedTo, IsOldLoadedFrom}
use Rattle.prolly_build.specs.RunResult.{IsHaltFault}
use Rattle.prolly_build.specs.Stages.{HasRun}
use Rattle.prolly_build.specs.declared.end.Halt.{Halt}
use Rattle.prolly_build.specs.declared.end.Halt.TheVariants as halts
use Rattle.prolly_build.proofs.Applying.{no_fault}

-- a source that went away with its loader
pub gone : {D : Type 0} (goes_over : D → ChunkFile → Type 0) (failures : D → ℕ) (source : D) (halt : Halt)
    (fault : RunFault) → IsHaltFault halt fault →
    IsGivenBack goes_over failures source None (Err (answers.Run fault))
gone goes_over failures source halts.NoThread fault is = inl (ap (λ f. Err (answers.Run f)) is)
gone goes_over failures source halts.Lost fault is = inr (ap (λ f. Err (answers.Run f)) is)

-- where an answer is a report the loader told no fault
module _ (cut : ℕ) (leaves_in : Receiving (List Pair)) (changes_in : Receiving Record)
    (over : LinkId) (leaves : Receiving (List Pair)) (changes : Receiving Record) (refused : Bool)
    (settings : Settings) (Made : Whole Chunk → Type 0) (level : ℕ) (out : Whole Chunk)
    (run : HasRun Made settings level out.items out.end)
    (applied : IsAppliedTo cut leaves_in changes_in over leaves changes refused run.leaves)
    (old new : SinkView) (fault : Option RootFault) where
  -- a clean end at the top is one of the leaves
  clean_below : out.end ≡ Clean → run.leaves.end ≡ Clean
  clean_below e = elim run.end_is [
    | inl is ↦ sym is ∙ e
    | inr memory ↦ absurd (apart (sym memory ∙ e))
  ]
    where
      apart : Fault Memory ≡ Clean → ⊥
      apart e = cc

  pub none_at_ok : (answer : Result Report RunFault) → IsFinished settings out old new answer →
      end_given leaves.progress ≡ load_end fault → OnOk answer (fault ≡ None)
  none_at_ok (Ok report) finished ended =
      no_fault fault (ap fault_in (sym ended ∙ applied.clean (clean_below finished.clean)))
  none_at_ok (Err run_fault) finished ended = tt

module _ {D : Type 0} (goes_over : D → ChunkFile → Type 0) (failures : D → ℕ) (version : Version)
    (root : List ℕ) (source : D) (link : LinkId) (source' : D) (fault : Option RootFault)
    (sent : Whole (List Pair))
    (loaded : IsOldLoadedFrom goes_over failures version root source link source' fault sent) where
  -- no fault of it was told
  unfailed : fault ≡ None → failures source' ≡ failures source
  unfailed none = subst (λ f. TellsReadsOf (failures source) (failures source') f) none loaded.reads

  module _ (cut : ℕ) (leaves_in : Receiving (List Pair)) (changes_in : Receiving Record)
      (over : LinkId) (leaves : Receiving (List Pair)) (changes : Receiving Record) (refused : Bool)
      (settings : Settings) (Made : Whole Chunk → Type 0) (level : ℕ) (out : Whole Chunk)
      (run : HasRun Made settings level out.items out.end)
      (applied : IsAppliedTo cut leaves_in changes_in over leaves changes refused run.leaves)
      (senders : List (Whole Record)) (old new : SinkView) where
    same : (answer : Result Report RunFault) → OnOk answer (fault ≡ None) →
        OnOk answer (failures source' ≡ failures source)
    same (Ok report) none = unfailed none
    same (Err run_fault) none = tt

    tells : (answer : Result Report RunFault) (result : Result Report ApplyFault) →
        TellsOf refused fault answer result → OnOk answer (failures source' ≡ failures source) →
        TellsOldReads (failures source) (failures source') result
    tells (Ok report) (Ok told) is ok = ok
    tells (Ok report) (Err told) is ok = absurd is
    tells (Err run_fault) (Ok told) is ok = absurd is
    tells (Err run_fault) (Err (answers.Run told)) is ok = tt
    tells (Err run_fault) (Err (answers.Old told)) is ok =
        subst (λ f. TellsReadsOf (failures source) (failures source') f) is.2 loaded.reads
    tells (Err run_fault) (Err answers.WrongBits) is ok = tt

    pub given_back : (result : Result Report ApplyFault) →
        IsOldEnded settings leaves changes refused fault sent senders out old new result →
        IsGivenBack goes_over failures source (Some source') result
    given_back result (inl met) = (
      loaded.keeps,
      tells met.answer result met.told (same met.answer (none_at_ok cut leaves_in changes_in over
          leaves changes refused settings Made level out run applied old new fault met.answer
          met.finished (ap end_given (met.leaves_met applied.old_ended).1 ∙ loaded.end_is))),
    )
    given_back result (inr lost) = (
      loaded.keeps,
      subst (λ r. TellsOldReads (failures source) (failures source') r) (sym lost.0) tt,
    )

-- ---- where no call failed

no_read : (n m : ℕ) (told : RootFault) → m ≡ n → TellsFailure n m told → told ≢ Read
no_read n m told same tells is =
    one_more (sym same ∙ subst (TellsFailure n m) is tells)
  where
    one_more : n ≢ after_failure n
    one_more e = omega (arith, e)

pub true_of_reads : {D : Type 0} (goes_over : D → ChunkFile → Type 0) (failures : D → ℕ) →
    IsTrueOfReads goes_over failures
true_of_reads goes_over failures old given (Ok report) back same = tt
true_of_reads goes_over failures old given (Err (answers.Run fault)) back same = λ e. absurd (apart e)
  where
    apart : answers.Run fault ≡ answers.Old Read → ⊥
    apart e = cc
true_of_reads goes_over failures old given (Err answers.WrongBits) back same = λ e. absurd (apart e)
  where
    apart : answers.WrongBits ≡ answers.Old Read → ⊥
    apart e = cc
true_of_reads goes_over failures old (Some source) (Err (answers.Old told)) back same =
    λ e. no_read (failures old) (failures source) told same back.1 (same_told e)
  where
    same_told : answers.Old told ≡ answers.Old Read → told ≡ Read
    same_told e = cc
true_of_reads goes_over failures old None (Err (answers.Old told)) (inl e) same = absurd (apart e)
  where
    apart : ◌≡◌ {A = Result Report ApplyFault} (Err (answers.Old told)) (Err (answers.Run NoThread)) → ⊥
    apart e = cc
true_of_reads goes_over failures old None (Err (answers.Old told)) (inr e) same = absurd (apart e)
  where
    apart : ◌≡◌ {A = Result Report ApplyFault} (Err (answers.Old told)) (Err (answers.Run Lost)) → ⊥
    apart e = cc
