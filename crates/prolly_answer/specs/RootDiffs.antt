-- What `diff` answers to who names the roots.
use Rattle.std.specs.Prelude.{◌≡◌, ◌≢◌, ℕ, ◌⊎◌, List, [], ◌∷◌, ◌++◌, map, Option, Some, None, Result, Ok}
use Rattle.std.specs.Prelude.{Err, Bool, true, false}
use Rattle.std.specs.List.{AllByRecursion}
use Rattle.prolly_look_up.specs.Content.{chunks_of, Content}
use Rattle.prolly_entry.specs.Cut.{sha512_cut}
use Rattle.prolly_entry.specs.Pair.{IsPair, Pair}
use Rattle.prolly_entry.specs.Record.{Record}
use Rattle.prolly_entry.specs.declared.version.Version.{Version}
use Rattle.prolly_io.specs.Failures.{after_failure}
use Rattle.prolly_io.specs.Sink.{SinkView}
use Rattle.prolly_fault.specs.declared.output_fault.OutputFault.{OutputFault}
use Rattle.prolly_root.specs.ChunkFile.{ChunkFile}
use Rattle.prolly_root.specs.RootFault.{MayFail}
use Rattle.prolly_root.specs.declared.root_fault.RootFault.{RootFault}
use Rattle.prolly_root.specs.declared.root_fault.RootFault.TheVariants.{Read}
use Rattle.prolly_chunk.specs.declared.missing.Missing.{Missing}
use Rattle.prolly_root_diff.specs.FileWalks.{IsWalkFault, IsWalked}
use Rattle.prolly_root_diff.specs.Notes.{TellsMissing}
use Rattle.prolly_root_diff.specs.Walks.{Clashing, IsAtEnd, Lefts, Move, Walk, before_of, changes_on}
use Rattle.prolly_root_diff.specs.Walks.{lefts_of, read_on, record_of}
use Rattle.prolly_root_diff.specs.declared.change.RootChange.{RootChange}
use Rattle.prolly_root_diff.specs.declared.fault.RootDiffFault.{RootDiffFault}
use Rattle.prolly_root_diff.specs.declared.fault.RootDiffFault.TheVariants as walks
use Rattle.prolly_text.specs.RecordForms.{spelled}
use Rattle.prolly_text.specs.declared.lines.form.RecordForm.{RecordForm}
use Rattle.prolly_fault.specs.Answers.{Shows, ShowsFault}
use Rattle.prolly_answer.specs.Counts.{AreCounts, are_some, counts_line, stat_text}
use Rattle.prolly_answer.specs.Diff.{status_of}
use Rattle.prolly_answer.specs.Outputs.{WroteOwn}
use Rattle.prolly_answer.specs.RootFaults.{RefusesNone}
use Rattle.prolly_tree.specs.Difference.{IsMap}
use Rattle.prolly_tree.specs.File.{root_reference}
use Rattle.prolly_tree.specs.LookUp.{find}
use Rattle.prolly_fault.specs.declared.answer.Answer.{Answer}
use Rattle.prolly_answer.specs.declared.answers.diff.ChangeCounts.{ChangeCounts}
use Rattle.prolly_answer.specs.declared.answers.root_diff.Told.{Told}
use Rattle.prolly_fault.specs.declared.fault.Fault.{Fault}
use Rattle.prolly_fault.specs.declared.fault.Fault.TheVariants.{Memory, RootNew, RootOld}
use Rattle.prolly_fault.specs.declared.fault.Fault.TheVariants.{Write}

-- ---- what was given

-- The records that say the changes that are given on the way.
abbrev pub records_on : List Move → List Record
records_on way = map record_of (changes_on way)

-- A walk from the two roots went this way first, in the files that the two sources go over, and this
-- holds of its way.
pub record GaveFirst (goes_over goes_over' : ChunkFile → Type 0) (version : Version)
    (old new : List ℕ) (holds : List Move → Type 0) : Type 0 where
  pub way : List Move
  pub rest : Lefts
  pub walked : IsWalked goes_over goes_over' version old new way rest
  pub so : holds way

-- It went on until nothing was left of either tree.
pub record GaveAll (goes_over goes_over' : ChunkFile → Type 0) (version : Version)
    (old new : List ℕ) (holds : List Move → Type 0) : Type 0 where
  pub first : GaveFirst goes_over goes_over' version old new holds
  pub at_end : IsAtEnd first.rest.before × IsAtEnd first.rest.after

-- The record was written in the form that is given; where none is, nothing is written.
abbrev pub WroteIn : {W : Type 0} → (W → SinkView) → Option RecordForm → Record → W → W →
    Result (Unit {0}) OutputFault → Type 0
WroteIn seen None r old new (Ok done) = new ≡ old
WroteIn seen None r old new (Err fault) = ⊥
WroteIn seen (Some form) r old new result = WroteOwn seen (spelled form r) old new result

-- The fault of the command that a fault of the walk is.
abbrev pub fault_of : RootDiffFault → Fault
fault_of walks.Memory = Memory
fault_of walks.Stopped = Memory
fault_of (walks.Old fault) = RootOld fault
fault_of (walks.New fault) = RootNew fault

-- ---- the numbers

-- This holds of whatever contents of the version have these roots, whose pairs are maps. Or else a
-- chunk of their trees has the reference of a different chunk, which was read on the way or is one of
-- the trees, too.
abbrev pub OfRoots : Version → List ℕ → List ℕ → List Move → (Content → Content → Type 0) → Type 0
OfRoots version old new way holds = (bits bits' : ℕ) (m m' : List Pair) → IsMap m →
    AllByRecursion IsPair m → IsMap m' → AllByRecursion IsPair m' →
    old ≡ root_reference (sha512_cut bits) version m →
    new ≡ root_reference (sha512_cut bits') version m' →
    let before : Content = record { version = version; bits = bits; pairs = m } in
    let after : Content = record { version = version; bits = bits'; pairs = m' } in
    holds before after ⊎ Clashing (read_on way) (chunks_of before ++ chunks_of after)

-- One change more is counted.
abbrev pub Counts : RootChange → ChangeCounts → ChangeCounts → Type 0
Counts change before after = (old : List Pair) (records : List Record) →
    AreCounts old records before → find old (record_of change).key ≡ before_of change →
    AreCounts old (records ++ record_of change ∷ []) after

-- The line tells these counts, and what is missing where a walk came with its notes; where it is not
-- asked for, there is none.
abbrev pub TellsNumbers : {T U : Type 0} → Bool → Walk T U → ChangeCounts → List ℕ → Type 0
TellsNumbers false walk counts line = line ≡ []
TellsNumbers true walk counts line = (missing : Missing) ×
    TellsMissing walk.version (lefts_of walk) walk.notes missing ×
    (line ≡ stat_text counts.added counts.changed counts.removed missing.chunks missing.bytes)

-- The line is that of the numbers, where it is asked for.
abbrev pub IsStatLine : Bool → Version → List ℕ → List ℕ → List Move → List ℕ → Type 0
IsStatLine false version old new way line = line ≡ []
IsStatLine true version old new way line =
    OfRoots version old new way (λ before after. line ≡ counts_line before after (records_on way))

-- ---- why it stops

-- What is wrong first with the two files that the sources go over is told; or memory was refused, or
-- a read failed.
abbrev pub TellsWalkFault : (ChunkFile → Type 0) → (ChunkFile → Type 0) → Version → List ℕ →
    List ℕ → (RootFault → RootDiffFault) → RootFault → Type 0
TellsWalkFault goes_over goes_over' version old new side fault = (file file' : ChunkFile) →
    goes_over file → goes_over' file' →
    MayFail fault ⊎ IsWalkFault version file file' old new (side fault)

-- Why the walk stops in the old tree. (A lawful file is refused only for want of memory or a failed
-- read, whatever the other source does. Where the other one goes over no file, the second part says
-- nothing.)
abbrev pub MayStopInOld : (ChunkFile → Type 0) → (ChunkFile → Type 0) → Version → List ℕ →
    List ℕ → RootFault → Type 0
MayStopInOld goes_over goes_over' version old new fault = RefusesNone goes_over version old fault ×
    TellsWalkFault goes_over goes_over' version old new walks.Old fault

-- Why it stops in the new one.
abbrev pub MayStopInNew : (ChunkFile → Type 0) → (ChunkFile → Type 0) → Version → List ℕ →
    List ℕ → RootFault → Type 0
MayStopInNew goes_over goes_over' version old new fault = RefusesNone goes_over' version new fault ×
    TellsWalkFault goes_over goes_over' version old new walks.New fault

-- The faults that may stop a walk: want of memory, and those of the two trees.
abbrev pub MayStop : (ChunkFile → Type 0) → (ChunkFile → Type 0) → Version → List ℕ → List ℕ →
    Fault → Type 0
MayStop goes_over goes_over' version old new (RootOld fault) =
    MayStopInOld goes_over goes_over' version old new fault
MayStop goes_over goes_over' version old new (RootNew fault) =
    MayStopInNew goes_over goes_over' version old new fault
MayStop goes_over goes_over' version old new Memory = Unit {0}
MayStop goes_over goes_over' version old new fault = ⊥

-- ---- what comes of it

module _ (goes_over goes_over' : ChunkFile → Type 0) (version : Version) (old new : List ℕ)
    (took took_part : List Record → Type 0) where
  -- All changes were given, and `took` holds of their records; the flag tells whether there are
  -- some, and the line their numbers, where it is asked for.
  abbrev pub IsDoneDiff : Bool → Bool → List ℕ → Type 0
  IsDoneDiff stat changed line = GaveAll goes_over goes_over' version old new (λ way.
      took (records_on way) × (changed ≡ are_some (records_on way)) ×
      IsStatLine stat version old new way line)

  -- This fault stopped the walk, and what was given before was written; or writing failed, and a
  -- part of it was.
  abbrev pub IsStoppedDiff : Fault → Type 0
  IsStoppedDiff fault = (GaveFirst goes_over goes_over' version old new (λ way.
      took (records_on way)) × MayStop goes_over goes_over' version old new fault)
      ⊎ (GaveFirst goes_over goes_over' version old new (λ way. took_part (records_on way)) ×
      (fault ≡ Write))

  -- So it ends: all changes were given, or this fault stopped the walk.
  abbrev pub IsEndedDiff : Bool → Result Told Fault → Type 0
  IsEndedDiff stat (Ok told) = IsDoneDiff stat told.changed told.line.items
  IsEndedDiff stat (Err fault) = IsStoppedDiff fault

  -- The answer: all changes were written, the status tells whether there are some, and the line is
  -- shown where it is asked for; or the fault that stopped the walk is shown.
  abbrev pub IsRootDiff : Bool → (Result Bool Fault → Type 0) → Answer → Type 0
  IsRootDiff stat tells answer = ((changed : Bool) × (line : List ℕ) ×
      IsDoneDiff stat changed line × tells (Ok changed) ×
      Shows answer (status_of changed) line [])
      ⊎ ((fault : Fault) × IsStoppedDiff fault × tells (Err fault) × ShowsFault answer fault)

-- What is told of the calls of one of the sources, whose failures were so many before and after:
-- where none failed, no failed read of it is told, and where one did, that is told, or that writing
-- failed after it.
abbrev pub TellsDiffReads : {C : Type 0} → (RootFault → Fault) → ℕ → ℕ → Result C Fault → Type 0
TellsDiffReads own old new (Ok done) = new ≡ old
TellsDiffReads own old new (Err fault) =
    (((fault ≡ own Read) ⊎ (fault ≡ Write)) × (new ≡ after_failure old))
    ⊎ ((fault ≢ own Read) × (new ≡ old))
