-- What is told where no call of a source of chunks failed.
use Rattle.std.proofs.Common.{◌≡◌, ◌≢◌, inl, inr, ℕ, Result, Ok, Err, sym, subst, arith}
use Rattle.std.specs.Prelude.{IfErr}
use Rattle.prolly_io.specs.Failures.{after_failure}
use Rattle.prolly_root.specs.RootFault.{MayFail, TellsFailure}
use Rattle.prolly_root.specs.declared.root_fault.RootFault.{RootFault}
use Rattle.prolly_root.specs.declared.root_fault.RootFault.TheVariants.{Memory, Read}
use Rattle.prolly_range.specs.Prover.{MayFailTo, MayStop, TellsSource}
use Rattle.prolly_range.specs.declared.prove_fault.ProveFault.{ProveFault}
use Rattle.prolly_range.specs.declared.prove_fault.ProveFault.TheVariants as faults

-- One failure more is another number of them.
pub other_failures : (n : ℕ) → after_failure n ≢ n
other_failures n e = omega (arith, e)

-- Where no call failed, no failed read is told.
pub no_read : (failures : ℕ) (fault : RootFault) → TellsFailure failures failures fault → fault ≢ Read
no_read failures fault tells is =
    other_failures failures (sym (subst (TellsFailure failures failures) is tells))

-- So there is no fault but want of memory.
pub only_memory : (failures : ℕ) (fault : RootFault) → TellsFailure failures failures fault →
    MayFail fault → fault ≡ Memory
only_memory failures fault tells (inl memory) = memory
only_memory failures fault tells (inr read) = absurd (no_read failures fault tells read)

-- Nor is there another one of writing a proof, but a failed write.
pub may_stop : {T : Type 0} → (failures : ℕ) (result : Result T ProveFault) →
    TellsSource failures failures result → IfErr result MayFailTo → IfErr result MayStop
may_stop failures (Ok done) tells may = tt
may_stop failures (Err (faults.Chunks fault)) tells may = only_memory failures fault tells may
may_stop failures (Err faults.Write) tells may = tt
