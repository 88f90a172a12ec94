-- What `prove` and `verify` answer of a set of keys.
use Rattle.std.specs.Prelude.{◌≡◌, ◌⊎◌, ℕ, min, Bool, true, List, [], ◌∷◌, ◌++◌, length}
use Rattle.std.specs.Prelude.{Option, Result, Ok, Err}
use Rattle.std.specs.List.{AllByRecursion, filter}
use Rattle.prolly_look_up.specs.Content.{Content, chunk_bytes}
use Rattle.prolly_look_up.specs.Way.{Clash}
use Rattle.prolly_root.specs.ChunkFile.{ChunkFile, IsLawful, chunk_file}
use Rattle.prolly_entry.specs.Cut.{sha512_cut}
use Rattle.prolly_entry.specs.Pair.{Pair, IsPair}
use Rattle.prolly_entry.specs.declared.version.Version.{Version}
use Rattle.prolly_io.specs.Frame.{IsSmall}
use Rattle.prolly_io.specs.Sink.{IsSettled, SinkView}
use Rattle.prolly_range.specs.FirstFault.{TellsFirstFault}
use Rattle.prolly_range.specs.KeySet.{KeySet, is_before}
use Rattle.prolly_range.specs.KeySet.KeySet.{Keys, Range}
use Rattle.prolly_range.specs.Prover.{MayFailTo, MayStop, TellsSink, TellsSource, WritesPart}
use Rattle.prolly_range.specs.Prover.{WritesProof}
use Rattle.prolly_range.specs.SetProof.{AreTaken, Due, IsSetProof, root_due, set_file, set_start}
use Rattle.prolly_range.specs.Start.{IsSetStartFault}
use Rattle.prolly_range.specs.Verifier.{IsProofFault}
use Rattle.prolly_range.specs.declared.fault.SetFault.{SetFault}
use Rattle.prolly_range.specs.declared.fault.SetFault.TheVariants as sets
use Rattle.prolly_range.specs.declared.prove_fault.ProveFault.{ProveFault}
use Rattle.prolly_root.specs.declared.proof.fault.ProofFault.{ProofFault}
use Rattle.prolly_text.specs.declared.notation.Notation.{Notation}
use Rattle.prolly_tree.specs.Difference.{IsMap}
use Rattle.prolly_tree.specs.Events.{greatest_count}
use Rattle.prolly_tree.specs.File.{root_reference}
use Rattle.prolly_tree.specs.LookUp.{scan}
use Rattle.prolly_fault.specs.Answers.{ShowsDone, ShowsFault}
use Rattle.prolly_answer.specs.KeyLookUps.{found_at}
use Rattle.prolly_answer.specs.LookUps.{IsLookedUp, IsNoFile}
use Rattle.prolly_answer.specs.SetLines.{keys_past, lines_at_end, lines_so_far}
use Rattle.prolly_fault.specs.declared.answer.Answer.{Answer}
use Rattle.prolly_fault.specs.declared.fault.Fault.{Fault}
use Rattle.prolly_fault.specs.SetFaults.{told_prove, told_set}
use Rattle.prolly_fault.specs.declared.fault.Fault.TheVariants.{Read, Write}

-- ---- proofs that are made

-- The bytes were read whole and are the file of a content, and the sink took a proof of what that
-- has at the keys of the set; it holds none of it back.
abbrev pub IsProvedSet : KeySet → List ℕ → Type 0 → SinkView → SinkView → Type 0
IsProvedSet set bytes failed old new =
    IsLookedUp bytes failed (λ content. WritesProof content.version
    (root_reference (sha512_cut content.bits) content.version content.pairs) set old new)
    × (new.failures ≡ old.failures) × IsSettled new

-- They were read whole and are such a file, and this fault stopped the proof: a failed write, which
-- the sink tells too, or want of memory; and the sink took a first part of a proof.
abbrev pub IsStoppedProof : KeySet → List ℕ → Type 0 → SinkView → SinkView → ProveFault → Type 0
IsStoppedProof set bytes failed old new fault =
    IsLookedUp bytes failed (λ content. MayStop fault × WritesPart content.version
    (root_due (root_reference (sha512_cut content.bits) content.version content.pairs) set ∷ [])
    (set_start content.version) old new)
    × TellsSink {T = Unit {0}} old.failures new.failures (Err fault)

-- The answer of `prove`: the proof was written; a fault stopped that; or the bytes are refused, and
-- the sink is as it was.
abbrev pub IsProveSet : KeySet → List ℕ → Type 0 → SinkView → SinkView → Type 0 → Answer → Type 0
IsProveSet set bytes failed old new untouched answer =
    (IsProvedSet set bytes failed old new × ShowsDone answer)
    ⊎ ((fault : ProveFault) × IsStoppedProof set bytes failed old new fault ×
    ShowsFault answer (told_prove fault))
    ⊎ (IsNoFile bytes failed answer × untouched)

-- ---- proofs that are made by the root

-- Where the source goes over the file of a tree of this version and with this root, the fault is
-- only a failed write, a failed read, or want of memory.
abbrev pub RefusesNoProof : (ChunkFile → Type 0) → Version → List ℕ → ProveFault → Type 0
RefusesNoProof goes_over version root fault = (content : Content) → IsLawful content →
    goes_over (chunk_file content) → version ≡ content.version →
    root ≡ root_reference (sha512_cut content.bits) content.version content.pairs → MayFailTo fault

-- Why the proof of a set of keys is refused to who names the root: of the file that the source goes
-- over what is wrong first is told, but for a failed write, a failed read, or want of memory; and a
-- lawful file of the root is not refused.
abbrev pub MayRefuseProof : (ChunkFile → Type 0) → Version → List ℕ → KeySet → ProveFault → Type 0
MayRefuseProof goes_over version root set fault = RefusesNoProof goes_over version root fault ×
    ((file : ChunkFile) → goes_over file → TellsFirstFault version file root set fault)

-- What happens to a source of chunks and to a sink: how many calls of the source had failed before
-- and after, and how the sink was seen before and after.
pub record Devices : Type 0 where
  pub reads_before : ℕ
  pub reads_after : ℕ
  pub sink_before : SinkView
  pub sink_after : SinkView

-- The sink took a proof of what the tree with this root has at the keys of the set, and holds none of
-- it back; no call failed.
abbrev pub IsProvedByRoot : Version → List ℕ → KeySet → Devices → Type 0
IsProvedByRoot version root set d = WritesProof version root set d.sink_before d.sink_after
    × IsSettled d.sink_after
    × TellsSource {T = Unit {0}} d.reads_before d.reads_after (Ok tt)
    × TellsSink {T = Unit {0}} d.sink_before.failures d.sink_after.failures (Ok tt)

-- This fault, which there may be, stopped the proof; of the sink a failed write is told, of the source
-- a failed read, and the sink took a first part of a proof.
abbrev pub IsStoppedByRoot : (ProveFault → Type 0) → Version → List ℕ → KeySet → Devices →
    ProveFault → Type 0
IsStoppedByRoot may version root set d fault = may fault
    × WritesPart version (root_due root set ∷ []) (set_start version) d.sink_before d.sink_after
    × TellsSource {T = Unit {0}} d.reads_before d.reads_after (Err fault)
    × TellsSink {T = Unit {0}} d.sink_before.failures d.sink_after.failures (Err fault)

-- The answer of `prove` to who names the root: the proof was written, or a fault stopped that.
abbrev pub IsProveSetByRoot : (ProveFault → Type 0) → Version → List ℕ → KeySet → Devices → Answer →
    Type 0
IsProveSetByRoot may version root set d answer =
    (IsProvedByRoot version root set d × ShowsDone answer)
    ⊎ ((fault : ProveFault) × IsStoppedByRoot may version root set d fault ×
    ShowsFault answer (told_prove fault))

-- ---- proofs that are verified

-- The bytes begin with the start of a proof, and the frames of these chunks.
pub record BeginsWithChunks (version : Version) (bytes : List ℕ) (chunks : List (List ℕ)) : Type 0
  where
    pub left : List ℕ
    pub is : bytes ≡ set_file version chunks ++ left

-- So they begin, so much is due behind the chunks, and what stands there is at fault. (The number
-- of a chunk is told as the greatest number of 64 bits where it is greater.)
pub record IsFaultBehind (version : Version) (bytes : List ℕ) (chunks : List (List ℕ))
    (due : List Due) (fault : ProofFault) : Type 0 where
  pub small : AllByRecursion IsSmall chunks
  pub front : BeginsWithChunks version bytes chunks
  pub so : IsProofFault version due (min greatest_count (length chunks)) front.left fault

-- The bytes are no proof of what the tree with this root has at the keys of the set, for this first
-- fault: they do not begin as a proof, and no chunk was taken; or the fault stands behind these
-- chunks, where so much is due. Or memory was refused, or a read failed.
abbrev pub IsNoSetProof : Version → List ℕ → KeySet → List ℕ → List (List ℕ) → List Due →
    SetFault → Type 0
IsNoSetProof version root set bytes chunks due sets.Memory = Unit {0}
IsNoSetProof version root set bytes chunks due sets.Read = Unit {0}
IsNoSetProof version root set bytes chunks due (sets.Proof fault) =
    (((chunks ≡ []) × IsSetStartFault version bytes fault)
    ⊎ IsFaultBehind version bytes chunks due fault)
    × ((pairs : List Pair) → IsSetProof version root set bytes pairs → ⊥)
IsNoSetProof version root set bytes chunks due sets.Stopped = ⊥

-- A proof was read whole, which is all that an honest source had, and the lines of what it shows were
-- written. Of the sink, `took_all` says that it took all of these bytes.
pub record IsVerifiedSet (notation : Notation) (version : Version) (root : List ℕ) (set : KeySet)
    (is_honest : Bool) (bytes : List ℕ) (took_all : List ℕ → Type 0) : Type 0 where
  pub proof : List ℕ
  pub pairs : List Pair
  pub proves : IsSetProof version root set proof pairs
  pub read : is_honest ≡ true → bytes ≡ proof
  pub took : took_all (lines_at_end notation set pairs)

-- The lines are those that are told when these pairs were shown and so much is due.
abbrev pub AreTold : Notation → KeySet → List Pair → List Due → List ℕ → Type 0
AreTold notation set pairs due lines = (lines ≡ lines_so_far notation set pairs)
    ⊎ ((due ≡ []) × (lines ≡ lines_at_end notation set pairs))

-- This fault stopped it, when these lines were to be written: it is one of the proof, or want of
-- memory, and they were all written; or writing them failed, and the sink took a part.
abbrev pub StoppedSet : (SetFault → Type 0) → (List ℕ → Type 0) → (List ℕ → Type 0) → List ℕ →
    Fault → Type 0
StoppedSet refused took_all took_part lines fault =
    ((of_proof : SetFault) × (fault ≡ told_set of_proof) × refused of_proof × took_all lines)
    ⊎ ((fault ≡ Write) × took_part lines)

-- Chunks of a proof were taken, with which the bytes of an honest source begin. They show pairs,
-- and then this fault stopped it; of the lines that are told of these all were written, or a part.
pub record IsStoppedSet (notation : Notation) (version : Version) (root : List ℕ) (set : KeySet)
    (is_honest : Bool) (bytes : List ℕ) (took_all took_part : List ℕ → Type 0) (fault : Fault)
    : Type 0 where
  pub chunks : List (List ℕ)
  pub pairs : List Pair
  pub due : List Due
  pub lines : List ℕ
  pub taken : AreTaken version (root_due root set ∷ []) chunks pairs due
  pub read : is_honest ≡ true → (chunks ≡ []) ⊎ BeginsWithChunks version bytes chunks
  pub told_are : AreTold notation set pairs due lines
  pub stopped : StoppedSet
      (λ of_proof. is_honest ≡ true → IsNoSetProof version root set bytes chunks due of_proof)
      took_all took_part lines fault

-- So it ends: it was all written, or this fault stopped it.
abbrev pub IsEndedSet : Notation → Version → List ℕ → KeySet → Bool → List ℕ → (List ℕ → Type 0) →
    (List ℕ → Type 0) → Result (Unit {0}) Fault → Type 0
IsEndedSet notation version root set is_honest bytes took_all took_part (Ok done) =
    IsVerifiedSet notation version root set is_honest bytes took_all
IsEndedSet notation version root set is_honest bytes took_all took_part (Err fault) =
    IsStoppedSet notation version root set is_honest bytes took_all took_part fault

-- What is told of the reads: a failed one is told as such, unless writing failed behind it; and
-- nothing else is told so.
abbrev pub TellsProofReads : Type 0 → Result (Unit {0}) Fault → Type 0
TellsProofReads failed (Ok done) = ¬ failed
TellsProofReads failed (Err fault) =
    (fault ≡ Read → failed) × (failed → (fault ≡ Read) ⊎ (fault ≡ Write))

-- The answer of `verify`: what the proof shows was written, or the fault is shown that stopped that;
-- and of this it is said what is told of the reads.
abbrev pub IsVerifySet : (Result (Unit {0}) Fault → Type 0) → (Result (Unit {0}) Fault → Type 0) →
    Answer → Type 0
IsVerifySet is_ended tells answer =
    (is_ended (Ok tt) × tells (Ok tt) × ShowsDone answer)
    ⊎ ((fault : Fault) × is_ended (Err fault) × tells (Err fault) × ShowsFault answer fault)

-- ---- what it proves

-- The pairs that a scan of the whole map from the one key on has before the other key, or all that it
-- has where there is no other.
abbrev pub scanned_range : List Pair → List ℕ → Option (List ℕ) → List Pair
scanned_range m from to = filter (λ p. is_before to p.key) (scan m from (length m))

-- The pairs are the first ones of those, and all of them where nothing is due any more.
pub record AreFirstScanned (m : List Pair) (from : List ℕ) (to : Option (List ℕ))
    (pairs : List Pair) (due : List Due) : Type 0 where
  pub others : List Pair
  pub are : scanned_range m from to ≡ pairs ++ others
  pub all : due ≡ [] → others ≡ []

-- Law: whoever knows the reference of a map's root knows of the pairs that chunks show which were
-- taken as those of a range's proof that they are the first ones which a scan has there, and all of
-- them where nothing is due any more, whatever the bits of the map's tree; or else one of the chunks
-- and a different one of the tree have one reference.
abbrev pub RangesAreRight : Type 0
RangesAreRight = (version : Version) (bits : ℕ) (m : List Pair) (from : List ℕ)
    (to : Option (List ℕ)) (chunks : List (List ℕ)) (pairs : List Pair) (due : List Due) → IsMap m →
    AllByRecursion IsPair m →
    AreTaken version (root_due (root_reference (sha512_cut bits) version m) (Range from to) ∷ [])
    chunks pairs due → AreFirstScanned m from to pairs due ⊎ Clash chunks (chunk_bytes version bits m)

-- What was shown of a list of keys is what the map has at those of them that are past, and at all of
-- them where nothing is due any more.
pub record AreRightKeys (m : List Pair) (keys : List (List ℕ)) (pairs : List Pair) (due : List Due)
    : Type 0 where
  pub past : found_at pairs (keys_past pairs keys) ≡ found_at m (keys_past pairs keys)
  pub all : due ≡ [] → found_at pairs keys ≡ found_at m keys

-- Law: whoever knows the reference of a map's root knows of what chunks show which were taken as those
-- of the proof of a list of keys that it is what the map has at the keys that are past, a value or
-- nothing, and at all of them where nothing is due any more, whatever the bits of the map's tree; or
-- else one of the chunks and a different one of the tree have one reference.
abbrev pub ShownKeysAreRight : Type 0
ShownKeysAreRight = (version : Version) (bits : ℕ) (m : List Pair) (keys : List (List ℕ))
    (chunks : List (List ℕ)) (pairs : List Pair) (due : List Due) → IsMap m →
    AllByRecursion IsPair m →
    AreTaken version (root_due (root_reference (sha512_cut bits) version m) (Keys keys) ∷ []) chunks
    pairs due → AreRightKeys m keys pairs due ⊎ Clash chunks (chunk_bytes version bits m)
