-- Which failed reads of files are told.
use Rattle.std.proofs.Common.{◌≡◌, ◌≢◌, ◌⊎◌, ◌+◌, ℕ, zero, suc, List, [], ◌∷◌, Option, Some, None}
use Rattle.std.proofs.Common.{Result, Ok, Err, inl, inr, ap, sym, subst, ◌∙◌, arith}
use Rattle.std.specs.Prelude.{IfErr, IfSome}
use Rattle.std.specs.List.{AllByRecursion}
use Rattle.prolly_entry.specs.Pair.{Pair}
use Rattle.prolly_entry.specs.declared.next.Flaw.{Flaw}
use Rattle.prolly_entry.specs.declared.next.Flaw.TheVariants as flaws
use Rattle.prolly_tree.specs.Merge.{Input}
use Rattle.prolly_tree.specs.Passing.{map_input}
use Rattle.prolly_io.specs.Sink.{SinkView}
use Rattle.prolly_io.specs.Source.{SourceView}
use Rattle.prolly_link.specs.declared.fault.RunFault.{RunFault}
use Rattle.prolly_link.specs.declared.fault.RunFault.TheVariants.{Lost, Memory, NoThread, Read}
use Rattle.prolly_load.specs.Fault.{fault_of as fault_of_flaw}
use Rattle.prolly_root.specs.ChunkFile.{ChunkFile}
use Rattle.prolly_apply.specs.Applied.{old_tree_fault}
use Rattle.prolly_report.specs.declared.apply_fault.ApplyFault.{ApplyFault}
use Rattle.prolly_report.specs.declared.apply_fault.ApplyFault.TheVariants as answers
use Rattle.prolly_report.specs.declared.report.Report.{Report}
use Rattle.prolly_build.specs.Applied.{IsApplyOutcome, IsOldFault, IsStoppedOver, OfMaps}
use Rattle.prolly_build.specs.Applied.{fault_told}
use Rattle.prolly_build.specs.BuiltFile.{AreKept}
use Rattle.prolly_build.specs.Config.{Settings}
use Rattle.prolly_build.specs.FailedReads.{AreSteady, HasFailed}
use Rattle.prolly_build.specs.InputFaults.{CountFor, IsFailureOf, IsReadingOf, IsFileFault}
use Rattle.prolly_build.specs.InputFaults.{ending_told}
use Rattle.prolly_build.specs.Outcome.{IsOutcome}
use Rattle.prolly_build.proofs.Mergings.{FaultsOnly, IfFault, Inputs, stop_only}

same_file : (m n : ℕ) → Read m ≡ Read n → m ≡ n
same_file m n e = cc

no_read : (file place number : ℕ) (flaw : Flaw) → fault_of_flaw file place flaw ≡ Read number → ⊥
no_read file place number flaws.Truncated e = cc
no_read file place number flaws.KeyTooLong e = cc
no_read file place number flaws.ValueTooLong e = cc
no_read file place number flaws.OutOfOrder e = cc
no_read file place number flaws.TooManyRecords e = cc

no_thread : (file : ℕ) → Read file ≡ NoThread → ⊥
no_thread file e = cc

no_lost : (file : ℕ) → Read file ≡ Lost → ⊥
no_lost file e = cc

no_memory : (file : ℕ) → Memory ≡ Read file → ⊥
no_memory file e = cc

-- what holds of the faults of inputs, also where it says less
weaker : (P Q : RunFault → Type 0) → ((f : RunFault) → P f → Q f) → (is : Inputs) →
    AllByRecursion (FaultsOnly P) is → AllByRecursion (FaultsOnly Q) is
weaker P Q h [] all = tt
weaker P Q h (i ∷ is) all = (one i.fault all.0, weaker P Q h is all.1)
  where
    one : (f : Option RunFault) → IfFault P f → IfFault Q f
    one None p = tt
    one (Some f) p = h f p

module _ {S : Type 0} (seen : S → SourceView) where
  -- where the fault is a failed read, the source of its file failed, the first one being of this
  -- number
  abbrev IsTrue : ℕ → List S → List S → RunFault → Type 0
  IsTrue file ss ts fault = (number : ℕ) → fault ≡ Read number →
      (place : ℕ) × (number ≡ file + place) × HasFailed seen place ss ts

  -- from file 0 on the place is the number
  in_place : (ss ts : List S) (number : ℕ) →
      (place : ℕ) × (number ≡ 0 + place) × HasFailed seen place ss ts → HasFailed seen number ss ts
  in_place ss ts number k =
      let is = k.1 in
      let same : k.0 ≡ number = omega (arith, is) in
      subst (λ n. HasFailed seen n ss ts) same k.2

  told_true : (file limit : ℕ) (s t : S) (ss ts : List S) (i : Input RunFault) →
      IsReadingOf seen file limit s t i ⊎ IsFailureOf seen file limit s t i →
      FaultsOnly (IsTrue file (s ∷ ss) (t ∷ ts)) i
  told_true file limit s t ss ts i (inl r) =
      subst (λ f. IfFault (IsTrue file (s ∷ ss) (t ∷ ts)) f) (sym r.told)
      (none_told _ r.ending)
    where
      none_told : (place : ℕ) (ending : Option Flaw) →
          IfFault (IsTrue file (s ∷ ss) (t ∷ ts)) (ending_told file place ending)
      none_told place None = tt
      none_told place (Some flaw) = λ number e. absurd (no_read file place number flaw e)
  told_true file limit s t ss ts i (inr f) =
      subst (λ fault. IfFault (IsTrue file (s ∷ ss) (t ∷ ts)) fault) (sym f.told)
      (λ number e.
      let is : file ≡ number = same_file file number e in (0, omega (arith, is), f.failed))

  next_true : (file : ℕ) (s t : S) (ss ts : List S) (fault : RunFault) →
      IsTrue (file + 1) ss ts fault → IsTrue file (s ∷ ss) (t ∷ ts) fault
  next_true file s t ss ts fault h number e =
      let k = h number e in
      let is = k.1 in (suc k.0, omega (arith, is), k.2)

  all_true : (file limit : ℕ) (ss ts : List S) (inputs : Inputs) →
      CountFor seen file limit ss ts inputs → AllByRecursion (FaultsOnly (IsTrue file ss ts)) inputs
  all_true file limit [] [] [] h = tt
  all_true file limit [] [] (i ∷ is) h = absurd h
  all_true file limit [] (t ∷ ts) is h = absurd h
  all_true file limit (s ∷ ss) [] is h = absurd h
  all_true file limit (s ∷ ss) (t ∷ ts) [] h = absurd h
  all_true file limit (s ∷ ss) (t ∷ ts) (i ∷ is) h = (
    told_true file limit s t ss ts i h.0,
    weaker (IsTrue (file + 1) ss ts) (IsTrue file (s ∷ ss) (t ∷ ts))
        (next_true file s t ss ts) is (all_true (file + 1) limit ss ts is h.1),
  )

  pub reads_true : (settings : Settings) (before after : List S) (old new : SinkView)
      (untouched : Type 0) (result : Result Report RunFault) →
      IsOutcome seen settings before after old new untouched result →
      IfErr result (λ fault. (file : ℕ) → fault ≡ Read file → HasFailed seen file before after)
  reads_true settings before after old new untouched (Ok report) outcome = tt
  reads_true settings before after old new untouched (Err fault) outcome = λ file e.
      let h = outcome.stopped (subst IsFileFault (sym e) tt) in
      let named = subst (λ f. IfFault (IsTrue 0 before after) f) h.named
      (stop_only (IsTrue 0 before after) h.inputs
      (all_true 0 settings.max_records before after h.inputs h.count_for)) in
      let k = named file e in
      in_place before after file k

  none_failed : (number : ℕ) (ss ts : List S) → AreSteady seen ss → AreKept seen ss ts →
      HasFailed seen number ss ts → ⊥
  none_failed zero [] ts steady kept failed = absurd failed
  none_failed zero (s ∷ ss) [] steady kept failed = absurd failed
  none_failed zero (s ∷ ss) (t ∷ ts) steady kept failed = failed (kept.0.stays.never steady.0)
  none_failed (suc number) [] ts steady kept failed = absurd failed
  none_failed (suc number) (s ∷ ss) [] steady kept failed = absurd failed
  none_failed (suc number) (s ∷ ss) (t ∷ ts) steady kept failed =
      none_failed number ss ts steady.1 kept.1 failed

  pub no_read_is_told : (settings : Settings) (before after : List S) (old new : SinkView)
      (untouched : Type 0) (result : Result Report RunFault) → AreSteady seen before →
      IsOutcome seen settings before after old new untouched result →
      IfErr result (λ fault. (file : ℕ) → fault ≢ Read file)
  no_read_is_told settings before after old new untouched (Ok report) steady outcome = tt
  no_read_is_told settings before after old new untouched (Err fault) steady outcome = λ file e.
      none_failed file before after steady
      (outcome.left_behind (λ thread. no_thread file (sym e ∙ thread))
      (λ lost. no_lost file (sym e ∙ lost)))
      (reads_true settings before after old new untouched (Err fault) outcome file e)

  -- ---- changes that are applied

  -- the same, but for a fault of the old tree
  abbrev IsTrueOfFiles : List S → List S → RunFault → Type 0
  IsTrueOfFiles before after fault = fault ≢ old_tree_fault → IsTrue 0 before after fault

  old_true : (before after : List S) (old : Option RunFault) → IfSome old IsOldFault →
      IfFault (IsTrueOfFiles before after) old
  old_true before after None h = tt
  old_true before after (Some fault) (inl memory) =
      λ other number e. absurd (no_memory number (sym memory ∙ e))
  old_true before after (Some fault) (inr is) = λ other number e. absurd (other is)

  stop_true : (settings : Settings) (before after : List S) (old new : SinkView)
      (fault : RunFault) (m : List Pair) →
      IsStoppedOver seen settings before after old new fault m → IsTrueOfFiles before after fault
  stop_true settings before after old new fault m h =
      subst (λ f. IfFault (IsTrueOfFiles before after) f) h.named
      (stop_only (IsTrueOfFiles before after) (map_input h.first h.old_fault ∷ h.inputs) (
        old_true before after h.old_fault h.of_old,
        weaker (IsTrue 0 before after) (IsTrueOfFiles before after) (λ f is other. is) h.inputs
            (all_true 0 settings.max_records before after h.inputs h.count_for),
      ))

  pub reads_true_over : (goes : ChunkFile → Type 0) (settings : Settings) (root : List ℕ)
      (before after : List S) (old new : SinkView) (untouched : Type 0)
      (result : Result Report ApplyFault) →
      IsApplyOutcome seen goes settings root before after old new untouched result →
      IfErr result (λ fault. (file : ℕ) → fault ≡ answers.Run (Read file) →
      OfMaps goes settings root (λ m. HasFailed seen file before after))
  reads_true_over goes settings root before after old new untouched (Ok report) outcome = tt
  reads_true_over goes settings root before after old new untouched (Err fault) outcome =
      λ file e m of.
      elim (outcome.stopped (subst (λ f. IsFileFault (fault_told f)) (sym e) tt) m of) [
        | inl h ↦ inl (told file e m h)
        | inr clash ↦ inr clash
      ]
    where
      told : (file : ℕ) → fault ≡ answers.Run (Read file) → (m : List Pair) →
          IsStoppedOver seen settings before after old new (fault_told fault) m →
          HasFailed seen file before after
      told file e m h =
          let is : fault_told fault ≡ Read file = ap fault_told e in
          let k = stop_true settings before after old new (fault_told fault) m h
          (λ of_old. outcome.of_file (e ∙ ap answers.Run (sym is ∙ of_old))) file is in
          in_place before after file k

  pub no_read_is_told_over : (goes : ChunkFile → Type 0) (settings : Settings) (root : List ℕ)
      (before after : List S) (old new : SinkView) (untouched : Type 0)
      (result : Result Report ApplyFault) → AreSteady seen before →
      IsApplyOutcome seen goes settings root before after old new untouched result →
      IfErr result (λ fault. (file : ℕ) → fault ≡ answers.Run (Read file) →
      OfMaps goes settings root (λ m. ⊥))
  no_read_is_told_over goes settings root before after old new untouched (Ok report) steady
      outcome = tt
  no_read_is_told_over goes settings root before after old new untouched (Err fault) steady
      outcome = λ file e m of.
      elim (reads_true_over goes settings root before after old new untouched (Err fault) outcome
      file e m of) [
        | inl failed ↦ absurd (none_failed file before after steady
            (outcome.left_behind (λ thread. no_thread file (same (sym e ∙ thread)))
            (λ lost. no_lost file (same (sym e ∙ lost)))) failed)
        | inr clash ↦ inr clash
      ]
    where
      same : {f g : RunFault} → answers.Run f ≡ answers.Run g → f ≡ g
      same {f} {g} x = cc
