-- What applying changes to an old tree has answered, and what it has made of its sources and of the
-- sink then.
use Rattle.std.specs.Prelude.{◌≡◌, ◌≢◌, ◌<◌, ◌^◌, ◌⊎◌, ℕ, Bool, true, false, List, ◌∷◌, length}
use Rattle.std.specs.Prelude.{Option, Some, None, Result, IfOk, IfErr, IfSome, OnOk}
use Rattle.std.specs.List.{AllByRecursion}
use Rattle.prolly_look_up.specs.Content.{Content, chunk_bytes}
use Rattle.prolly_entry.specs.Cut.{sha512_cut}
use Rattle.prolly_entry.specs.Overlay.{overlay}
use Rattle.prolly_entry.specs.declared.version.Version.{Version}
use Rattle.prolly_entry.specs.Pair.{IsPair, Pair}
use Rattle.prolly_entry.specs.Prefix.{IsPrefix}
use Rattle.prolly_entry.specs.Record.{Record}
use Rattle.prolly_tree.specs.Chunk.{chunks}
use Rattle.prolly_tree.specs.Difference.{IsMap, puts}
use Rattle.prolly_tree.specs.File.{header, root_reference}
use Rattle.prolly_tree.specs.Merge.{Input, stop, stop_fault, merged_part}
use Rattle.prolly_tree.specs.Passing.{map_input}
use Rattle.prolly_io.specs.Sink.{SinkView, TakesPrefix}
use Rattle.prolly_io.specs.Source.{SourceView}
use Rattle.prolly_link.specs.declared.fault.RunFault.{RunFault}
use Rattle.prolly_link.specs.declared.fault.RunFault.TheVariants.{Memory, Write, NoThread, Lost}
use Rattle.prolly_root.specs.ChunkFile.{ChunkFile, IsLawful, chunk_file}
use Rattle.prolly_root.specs.RootFault.{MayFail}
use Rattle.prolly_root.specs.declared.root_fault.RootFault.{RootFault}
use Rattle.prolly_root_diff.specs.FirstFault.{TellsLeafFault, TellsLeaves}
use Rattle.prolly_root_diff.specs.Leaves.{FoundClashIn}
use Rattle.prolly_apply.specs.Applied.{old_tree_fault}
use Rattle.prolly_build.specs.BuiltFile.{AreKept, AreRead, IsBegun, IsMadeFile, IsStartFault}
use Rattle.prolly_build.specs.BuiltFile.{IsUnmadeOf, IsWriterFault}
use Rattle.prolly_build.specs.Config.{Settings}
use Rattle.prolly_build.specs.InputFaults.{CountFor, IsFileFault, TookBegun}
use Rattle.prolly_build.specs.Refusals.{AreGood}
use Rattle.prolly_build.specs.WriterState.{frames_of}
use Rattle.prolly_report.specs.declared.apply_fault.ApplyFault.{ApplyFault}
use Rattle.prolly_report.specs.declared.apply_fault.ApplyFault.TheVariants as answers
use Rattle.prolly_report.specs.declared.report.Report.{Report}

-- ---- which fault is told

-- The answer to a fault of a run, where the old tree was refused or not, and its loader had a fault
-- or none: a fault of the old tree is told as its loader told it, or as wrong bits where it was
-- refused; and where a worker seems to tell a fault of its start, or of an old tree that was not
-- refused and had no fault, it is lost.
abbrev pub IsTold : RunFault → Bool → Option RootFault → ApplyFault → Type 0
IsTold fault refused old (answers.Run told) =
    ((told ≡ fault) × (IsStartFault told → ⊥) × (told ≢ old_tree_fault)) ⊎
    ((told ≡ Lost) × (IsStartFault fault ⊎
    ((fault ≡ old_tree_fault) × (refused ≡ false) × (old ≡ None))))
IsTold fault refused old (answers.Old told) = (fault ≡ old_tree_fault) × (refused ≡ false) ×
    (old ≡ Some told)
IsTold fault refused old answers.WrongBits = (fault ≡ old_tree_fault) × (refused ≡ true)

-- ---- what is answered

-- The map has lawful pairs, which rise, and its tree of these bits and this version has the root.
-- Any tree whose chunks have fewer than 2^64 bytes has fewer pairs than that.
pub record IsMapOf (settings : Settings) (root : List ℕ) (m : List Pair) : Type 0 where
  pub rising : IsMap m
  pub lawful : AllByRecursion IsPair m
  pub named : root ≡ root_reference (sha512_cut settings.bits) settings.version m
  pub few : length m < 2 ^ 63

-- Of any map of the root it is so. Or a chunk of its tree has the reference of a different chunk. That
-- was read on the way from the root down, in each chunk file that the old tree's source goes over; or
-- it is one of the tree, too.
abbrev pub OfMaps : (ChunkFile → Type 0) → Settings → List ℕ → (List Pair → Type 0) → Type 0
OfMaps goes_over settings root So = (m : List Pair) → IsMapOf settings root m →
    So m ⊎ FoundClashIn goes_over settings.version root
    (chunk_bytes settings.version settings.bits m)

-- What the loader of an old tree sends as its fault: want of memory, or that the old tree is at fault.
abbrev pub IsOldFault : RunFault → Type 0
IsOldFault fault = (fault ≡ Memory) ⊎ (fault ≡ old_tree_fault)

module _ {S : Type 0} (seen : S → SourceView) where
  -- The sources were read, each to its end, and the file of the map with their records laid over it
  -- was made.
  pub record IsApplied (settings : Settings) (before after : List S) (old new : SinkView)
      (report : Report) (m : List Pair) : Type 0 where
    pub goods : List (List Record)
    pub read : AreRead seen settings.max_records before after goods
    pub made : IsMadeFile settings (overlay (puts m ∷ goods)) old new report

  -- The sources were read, each to its end, and that file was not made, for this fault of the
  -- writer.
  pub record IsUnapplied (settings : Settings) (before after : List S) (old new : SinkView)
      (fault : RunFault) (m : List Pair) : Type 0 where
    pub goods : List (List Record)
    pub read : AreRead seen settings.max_records before after goods
    pub unmade : IsUnmadeOf settings (overlay (puts m ∷ goods)) old new fault

  -- The fault is the stop of the old tree and of what the files count for, and the sink took what
  -- the pairs before it begin.
  pub record IsStoppedOver (settings : Settings) (before after : List S) (old new : SinkView)
      (fault : RunFault) (m : List Pair) : Type 0 where
    pub first : List Pair
    pub is_first : IsPrefix first m
    pub old_fault : Option RunFault
    pub all : old_fault ≡ None → first ≡ m
    pub of_old : IfSome old_fault IsOldFault
    pub inputs : List (Input RunFault)
    pub count_for : CountFor seen 0 settings.max_records before after inputs
    pub named : stop_fault (stop (map_input first old_fault ∷ inputs)) ≡ Some fault
    pub took : TookBegun settings (merged_part (map_input first old_fault ∷ inputs)) old new

  -- The sink took a prefix of the header and of the frames of the tree's chunks, without the end
  -- record, of the first pairs of the overlay of the map and all good records.
  pub record IsRefusedOver (settings : Settings) (before : List S) (old new : SinkView)
      (m : List Pair) : Type 0 where
    pub goods : List (List Record)
    pub are_good : AreGood seen settings.max_records before goods
    pub pairs : List Pair
    pub first : IsPrefix pairs (overlay (puts m ∷ goods))
    pub taken : old.is_keeping ≡ true → TakesPrefix old.taken new.taken
        (frames_of (header settings.version settings.bits)
        (chunks (sha512_cut settings.bits) settings.version pairs))

-- The fault of a run that an answer tells of: the old tree's where that is at fault.
abbrev pub fault_told : ApplyFault → RunFault
fault_told (answers.Run fault) = fault
fault_told (answers.Old fault) = old_tree_fault
fault_told answers.WrongBits = old_tree_fault

-- Why an old tree with this root is refused: what is wrong first with the file that its source goes
-- over; or memory was refused, or a read failed. Where the file is lawful, it is one of the last two.
-- (That follows. It is told too, since it is what a user asks.)
pub record MayRefuseOld (goes_over : ChunkFile → Type 0) (version : Version) (root : List ℕ)
    (fault : RootFault) : Type 0 where
  pub first : TellsLeafFault goes_over version root fault
  pub lawful : (content : Content) → IsLawful content → goes_over (chunk_file content) →
      version ≡ content.version →
      root ≡ root_reference (sha512_cut content.bits) content.version content.pairs → MayFail fault

-- All that is promised of an answer with these settings: of the old tree's root, of the sources before
-- and after it, and of the sink as a contract sees it before and after. `goes_over` says which chunk
-- files the old tree's source goes over. `seen` is what a contract sees of a source. `untouched` says
-- that the sink is as it was.
pub record IsApplyOutcome {S : Type 0} (seen : S → SourceView) (goes_over : ChunkFile → Type 0)
    (settings : Settings) (root : List ℕ) (before after : List S) (old new : SinkView) (untouched : Type 0)
    (result : Result Report ApplyFault) : Type 0 where
  -- A report: of any map of the root, each source was read to its end, the sink took the chunk file
  -- of the overlay of the map and their records, and the report is that of its tree.
  pub applied : IfOk result (λ report. OfMaps goes_over settings root
      (IsApplied seen settings before after old new report))
  -- The sources are there then, each as its loader left it.
  pub kept : OnOk result (AreKept seen before after)
  -- A fault of the writer: of any map of the root, each source was read to its end, and that file was
  -- not made, for this fault.
  pub unmade : IfErr result (λ fault. (told : RunFault) → fault ≡ answers.Run told →
      IsWriterFault told → OfMaps goes_over settings root
      (IsUnapplied seen settings before after old new told))
  -- Every fault but a failed write: no end record is begun.
  pub begun : IfErr result (λ fault. fault ≢ answers.Run Write → IsBegun settings old new)
  -- A fault that comes before anything is started: the sink is as it was.
  pub unstarted : IfErr result (λ fault. (told : RunFault) → fault ≡ answers.Run told →
      IsStartFault told → untouched)
  -- Every fault but want of a thread and a lost worker: the sources are there, each as its loader
  -- left it.
  pub left_behind : IfErr result (λ fault. fault ≢ answers.Run NoThread →
      fault ≢ answers.Run Lost → AreKept seen before after)
  -- A fault of an input: of any map of the root, it is the one that the old tree and the files
  -- decide, the tree being the input before file 0, and the sink took the chunks that the pairs
  -- before it close.
  pub stopped : IfErr result (λ fault. IsFileFault (fault_told fault) →
      OfMaps goes_over settings root
      (IsStoppedOver seen settings before after old new (fault_told fault)))
  -- A fault of the old tree is never told as one of a file.
  pub of_file : IfErr result (λ fault. fault ≢ answers.Run old_tree_fault)
  -- Wrong bits are told of no map of the root.
  pub cut_so : IfErr result (λ fault. fault ≡ answers.WrongBits →
      OfMaps goes_over settings root (λ m. ⊥))
  -- A report: the file that the old tree's source goes over has all chunks of the tree.
  pub has_all : OnOk result (TellsLeaves goes_over settings.version root None)
  -- Of the old tree's file what is wrong first is told.
  pub of_old : IfErr result (λ fault. (told : RootFault) → fault ≡ answers.Old told →
      MayRefuseOld goes_over settings.version root told)
  -- Want of memory: of any map of the root, the sink took a prefix of the file, without its end
  -- record, of the first pairs of the overlay of the map and all good records.
  pub refused : IfErr result (λ fault. fault ≡ answers.Run Memory →
      OfMaps goes_over settings root (IsRefusedOver seen settings before old new))
  -- The sink keeps what it takes, if it did.
  pub keeps : old.is_keeping ≡ true → new.is_keeping ≡ true
