-- What is known of what loaders sent.
use Rattle.std.proofs.Common.{◌≡◌, ◌≢◌, ◌≤◌, ◌*◌, ℕ, Bool, true, false, List, [], ◌∷◌, map, length}
use Rattle.std.proofs.Common.{Option, None, refl, sym, subst, arith}
use Rattle.std.specs.List.{flat_map, AllByRecursion}
use Rattle.std.proofs.lemmas.List.{append-nil, length-append}
use Rattle.prolly_tree.specs.Merge.{Input}
use Rattle.prolly_entry.specs.Reading.{Begins, IsReading}
use Rattle.prolly_entry.specs.Record.{Record}
use Rattle.prolly_entry.specs.Spelling.{record_spelling}
use Rattle.prolly_laws.specs.Readings.{ends_clean}
use Rattle.prolly_io.specs.Source.{SourceView}
use Rattle.prolly_link.specs.Views.{Batching, Whole}
use Rattle.prolly_link.specs.declared.message.End.{End}
use Rattle.prolly_link.specs.declared.message.End.TheVariants.{Clean, Fault}
use Rattle.prolly_link.specs.declared.fault.RunFault.{RunFault}
use Rattle.prolly_link.specs.declared.fault.RunFault.TheVariants as faults
use Rattle.prolly_load.specs.Loaded.{FailsAs, EndsAs}
use Rattle.prolly_merge.specs.Inputs.{fault_in, lists_of}
use Rattle.prolly_build.specs.BuiltFile.{IsRead, AreRead, IsKept, AreKept, IsLoadFault}
use Rattle.prolly_build.specs.Mergers.{sent_input}
use Rattle.prolly_build.specs.RunResult.{AreLoaded}
use Rattle.prolly_build.specs.Workers.{IsLoadedFrom}
use Rattle.prolly_build.proofs.LoaderSteps.{of_all}
use Rattle.prolly_build.proofs.Mergings.{Rises, IfFault, FaultsOnly, EndsClean}

-- records that some bytes begin with
pub record IsBegunLoad (bytes : List ℕ) (limit : ℕ) (records : List Record) : Type 0 where
  pub rest : List ℕ
  pub begins : Begins bytes limit records rest

of_reading : {bytes : List ℕ} {limit : ℕ} {records : List Record} {ending : Option _} →
    IsReading bytes limit records ending → IsBegunLoad bytes limit records
of_reading h = record { rest = h.rest; begins = h.begins }

-- the fault of a loader is one of its input, and it sent what its bytes begin with
fault_told : (file limit : ℕ) (bytes : List ℕ) (records : List Record) (fault : RunFault) →
    FailsAs file limit bytes records fault → IsBegunLoad bytes limit records × IsLoadFault fault
fault_told file limit bytes records faults.Memory h =
    (record { rest = h.rest; begins = h.begins }, tt)
fault_told file limit bytes records (faults.Read f) h = (of_reading h.1.reading, tt)
fault_told file limit bytes records (faults.Truncated f place) h = (of_reading h.2, tt)
fault_told file limit bytes records (faults.KeyTooLong f place) h = (of_reading h.2, tt)
fault_told file limit bytes records (faults.ValueTooLong f place) h = (of_reading h.2, tt)
fault_told file limit bytes records (faults.OutOfOrder f place) h = (of_reading h.2, tt)
fault_told file limit bytes records (faults.TooManyRecords f) h = (of_reading h.1, tt)
fault_told file limit bytes records faults.Write h = absurd h
fault_told file limit bytes records faults.TooTall h = absurd h
fault_told file limit bytes records faults.NoThread h = absurd h
fault_told file limit bytes records faults.Lost h = absurd h
fault_told file limit bytes records faults.TooManyFiles h = absurd h

end_told : (file limit : ℕ) (bytes : List ℕ) (records : List Record) (end : End) →
    EndsAs file limit bytes records end → IsBegunLoad bytes limit records ×
    IfFault IsLoadFault (fault_in end)
end_told file limit bytes records Clean h = (of_reading h, tt)
end_told file limit bytes records (Fault fault) h = fault_told file limit bytes records fault h

-- records that some bytes begin with are all that their spellings hold
pub own_reading : {bytes : List ℕ} {limit : ℕ} {records : List Record} {rest : List ℕ} →
    Begins bytes limit records rest →
    IsReading (flat_map record_spelling records) limit records None
own_reading {bytes} {limit} {records} h =
    ends_clean (flat_map record_spelling records) limit records (record {
      spelled = sym (append-nil (flat_map record_spelling records));
      lawful = h.lawful;
      rising = h.rising;
      few = h.few;
    })

-- a source is honest, or not
pub not_both : (b : Bool) → b ≡ false → b ≡ true → ⊥
not_both b e f = cc

pub clean_end : (end : End) → fault_in end ≡ None → end ≡ Clean
clean_end Clean e = refl
clean_end (Fault f) e = absurd cc

module _ {S : Type 0} (seen : S → SourceView) (limit : ℕ) where
  abbrev One : ℕ → S → Batching Record → S → Whole Record → Type 0
  One file s o t c = IsLoadedFrom seen file limit s o.link t c

  pub begun : (file : ℕ) (s : S) (o : Batching Record) (t : S) (c : Whole Record)
      (h : One file s o t c) → IsBegunLoad h.loaded.handed limit c.items
  begun file s o t c h =
      subst (λ (rs : List Record). IsBegunLoad h.loaded.handed limit rs) (sym h.loaded.sent)
      (end_told file limit h.loaded.handed h.loaded.records c.end h.loaded.ends).0

  not_read : (file : ℕ) (end : End) → end ≡ Clean → end ≡ Fault (faults.Read file) → ⊥
  not_read file end e f = cc

  -- bytes that come to what was sent: all that an honest source had left, or what another one
  -- handed out
  pub record ComesOf (file : ℕ) (s : S) (records : List Record) (end : End) : Type 0 where
    pub bytes : List ℕ
    pub left : (seen s).is_honest ≡ true → bytes ≡ (seen s).left
    pub ends : end ≢ Fault (faults.Read file) → EndsAs file limit bytes records end

  pub comes_of : (file : ℕ) (s : S) (o : Batching Record) (t : S) (c : Whole Record) →
      One file s o t c → ComesOf file s c.items c.end
  comes_of file s o t c h =
      subst (λ (rs : List Record). ComesOf file s rs c.end) (sym h.loaded.sent)
      (go (seen s).is_honest refl)
    where
      go : (honest : Bool) → (seen s).is_honest ≡ honest → ComesOf file s h.loaded.records c.end
      go true is = record { bytes = (seen s).left; left = λ _. refl; ends = h.loaded.whole is }
      go false is = record {
        bytes = h.loaded.handed;
        left = λ honest. absurd (not_both (seen s).is_honest is honest);
        ends = λ _. h.loaded.ends;
      }

  pub one_read : (file : ℕ) (s : S) (o : Batching Record) (t : S) (c : Whole Record) →
      One file s o t c → c.end ≡ Clean → IsRead seen limit s t c.items
  one_read file s o t c h clean =
      let comes = comes_of file s o t c h in record {
        bytes = comes.bytes;
        left = comes.left;
        reading = subst (λ (e : End). EndsAs file limit comes.bytes c.items e) clean
            (comes.ends (not_read file c.end clean));
        unfailed = h.unfailed (not_read file c.end clean);
      }

  one_kept : (file : ℕ) (s : S) (o : Batching Record) (t : S) (c : Whole Record) →
      One file s o t c → IsKept seen s t
  one_kept file s o t c h = record {
    stays = h.stays;
    handed = h.loaded.handed;
    rest = h.loaded.kept;
  }

  -- ---- all loaders

  abbrev All : ℕ → List S → List (Batching Record) → List S → List (Whole Record) → Type 0
  All file ss os ts cs = AreLoaded seen limit file ss os ts cs

  -- what holds of one loader's output holds of all
  all_sent : (P : Input RunFault → Type 0) → ((file : ℕ) (s : S) (o : Batching Record) (t : S)
      (c : Whole Record) → One file s o t c → P (sent_input c)) →
      (file : ℕ) (ss : List S) (os : List (Batching Record)) (ts : List S)
      (cs : List (Whole Record)) → All file ss os ts cs → AllByRecursion P (map sent_input cs)
  all_sent P one = of_all seen limit (λ _ _ _ _ cs. AllByRecursion P (map sent_input cs)) (λ _. tt)
      (λ file s o t c _ _ _ _ h rest. (one file s o t c h, rest))

  pub all_rise : (file : ℕ) (ss : List S) (os : List (Batching Record)) (ts : List S)
      (cs : List (Whole Record)) → All file ss os ts cs → AllByRecursion Rises (map sent_input cs)
  all_rise = all_sent Rises (λ file s o t c h. (begun file s o t c h).begins.rising)

  pub all_only : (file : ℕ) (ss : List S) (os : List (Batching Record)) (ts : List S)
      (cs : List (Whole Record)) → All file ss os ts cs →
      AllByRecursion (FaultsOnly IsLoadFault) (map sent_input cs)
  all_only = all_sent (FaultsOnly IsLoadFault) (λ file s o t c h.
      (end_told file limit h.loaded.handed h.loaded.records c.end h.loaded.ends).1)

  pub all_kept : (file : ℕ) (ss : List S) (os : List (Batching Record)) (ts : List S)
      (cs : List (Whole Record)) → All file ss os ts cs → AreKept seen ss ts
  all_kept = of_all seen limit (λ _ ss _ ts _. AreKept seen ss ts) (λ _. tt)
      (λ file s o t c _ _ _ _ h rest. (one_kept file s o t c h, rest))

  pub all_read : (file : ℕ) (ss : List S) (os : List (Batching Record)) (ts : List S)
      (cs : List (Whole Record)) → All file ss os ts cs →
      AllByRecursion EndsClean (map sent_input cs) →
      AreRead seen limit ss ts (lists_of (map sent_input cs))
  all_read = of_all seen limit (λ _ ss _ ts cs. AllByRecursion EndsClean (map sent_input cs) →
      AreRead seen limit ss ts (lists_of (map sent_input cs))) (λ _ _. tt)
      (λ file s o t c _ _ _ _ h rest clean.
      (one_read file s o t c h (clean_end c.end clean.0), rest clean.1))

  -- the records of n files are at most n times as many as a file may have
  pub all_few : (file : ℕ) (ss : List S) (os : List (Batching Record)) (ts : List S)
      (cs : List (Whole Record)) → All file ss os ts cs → limit ≤ 16777216 →
      length (flat_map (λ records. records) (lists_of (map sent_input cs))) ≤ length ss * 16777216
  all_few = of_all seen limit (λ _ ss _ _ cs. limit ≤ 16777216 →
      length (flat_map (λ records. records) (lists_of (map sent_input cs))) ≤ length ss * 16777216)
      (λ _ _. omega arith) (λ file s o t c ss os ts cs h rest small.
      let one = (begun file s o t c h).begins.few in
      let fewer = rest small in
      let both = length-append c.items (flat_map (λ records. records)
      (lists_of (map sent_input cs))) in
      omega (arith, one, fewer, both, small))

-- sources that nobody read are there
pub same_kept : {S : Type 0} (seen : S → SourceView) (ss : List S) → AreKept seen ss ss
same_kept seen [] = tt
same_kept seen (s ∷ ss) = (
  record {
    stays = record { honest = λ h. h; steady = λ h. h; never = λ h. refl };
    handed = [];
    rest = λ h. refl;
  },
  same_kept seen ss,
)
