-- What the commands that read a chunk file print.
use Rattle.std.specs.Fmt.{decimal}
use Rattle.std.specs.Global.{Vec}
use Rattle.std.specs.Prelude.{◌≡◌, ◌↔◌, ◌⊎◌, ℕ, List, [], ◌∷◌, ◌++◌, length, Option, Some, None}
use Rattle.std.specs.Prelude.{codes, option_map, Result, Ok, Err, IfOk, ◌≢◌, true}
use Rattle.std.specs.declared.alloc.AllocError.{AllocError}
use Rattle.prolly_entry.specs.Cut.{sha512_cut}
use Rattle.prolly_entry.specs.Pair.{Pair}
use Rattle.prolly_entry.specs.Reference.{reference_text}
use Rattle.prolly_entry.specs.declared.version.Version.{Version}
use Rattle.prolly_entry.specs.declared.version.Version.TheVariants.{One, Two}
use Rattle.prolly_tree.specs.Chunk.{chunks}
use Rattle.prolly_tree.specs.Difference.{puts}
use Rattle.prolly_tree.specs.File.{root_reference}
use Rattle.prolly_tree.specs.LookUp.{find, nth, scan}
use Rattle.prolly_io.specs.Source.{SourceView}
use Rattle.prolly_look_up.specs.Content.{Content, IsFileOf}
use Rattle.prolly_check.specs.FirstFlaw.{IsFileOfRoot, IsStreamFault}
use Rattle.prolly_check.specs.Verdict.{IsRefusal}
use Rattle.prolly_check.specs.declared.stream.fault.StreamFault.{StreamFault}
use Rattle.prolly_check.specs.declared.stream.fault.StreamFault.TheVariants as streams
use Rattle.prolly_check.specs.declared.stream.root_checker.RootReport.{RootReport}
use Rattle.prolly_check.specs.declared.verdict.fault.CheckFault.{CheckFault}
use Rattle.prolly_check.specs.declared.verdict.fault.CheckFault.TheVariants.{Read}
use Rattle.prolly_root.specs.declared.root_fault.RootFault.{RootFault}
use Rattle.prolly_text.specs.Notations.{separator, written}
use Rattle.prolly_text.specs.RecordForms.{written_records}
use Rattle.prolly_text.specs.declared.lines.form.RecordForm.TheVariants.{Lines}
use Rattle.prolly_text.specs.declared.notation.Notation.{Notation}
use Rattle.prolly_fault.specs.Answers.{Shows, ShowsLine, ShowsNothing, ShowsFault}
use Rattle.prolly_answer.specs.Input.{IsReadWhole}
use Rattle.prolly_fault.specs.declared.answer.Answer.{Answer}
use Rattle.prolly_fault.specs.declared.fault.Fault.{Fault}
use Rattle.prolly_fault.specs.declared.fault.Fault.TheVariants.{Check, Root, NoCounts}
use Rattle.prolly_fault.specs.declared.fault.Fault.TheVariants.{Stream}

-- How many bytes a chunk file has at most that a command reads.
abbrev pub file_limit : ℕ
file_limit = 1073741824

-- The line of a file with this root, and so many bits and chunks.
abbrev pub ok_text : List ℕ → ℕ → ℕ → List ℕ
ok_text root bits count =
    codes "ok " ++ reference_text root ++ 0x20 ∷ decimal bits ++ 0x20 ∷ decimal count

-- The line of a file that is lawful: `ok`, the text of the root, the numbers of bits and of chunks.
abbrev pub check_text : Content → List ℕ
check_text content = ok_text
    (root_reference (sha512_cut content.bits) content.version content.pairs) content.bits
    (length (chunks (sha512_cut content.bits) content.version content.pairs))

-- The file is that of a map with this root, which the line says; or the answer shows why it is not,
-- and where a read failed, just that.
abbrev pub IsCheckByRoot : Version → List ℕ → List ℕ → Type 0 → Answer → Type 0
IsCheckByRoot version root bytes failed answer =
    ((report : RootReport) × IsFileOfRoot version root bytes report × (¬ failed) ×
    ShowsLine answer (ok_text root report.bits report.chunks))
    ⊎ ((fault : StreamFault) × IsStreamFault version root bytes fault ×
    ((fault ≡ streams.Check Read) ↔ failed) × ShowsFault answer (Stream fault))

-- A key and its value in this notation.
abbrev pub pair_text : Notation → Pair → List ℕ
pair_text notation p = written notation p.key ++ separator notation ∷ written notation p.value

-- The value in this notation, or that there is none.
abbrev pub ShowsValue : Notation → Answer → Option (List ℕ) → Type 0
ShowsValue notation answer None = ShowsNothing answer
ShowsValue notation answer (Some value) = ShowsLine answer (written notation value)

-- The bytes of the value and nothing else, or that there is none.
abbrev pub ShowsRaw : Answer → Option (List ℕ) → Type 0
ShowsRaw answer None = ShowsNothing answer
ShowsRaw answer (Some value) = Shows answer 0 value []

-- The pair in this notation, or that there is none.
abbrev pub ShowsPair : Notation → Answer → Option Pair → Type 0
ShowsPair notation answer None = ShowsNothing answer
ShowsPair notation answer (Some p) = ShowsLine answer (pair_text notation p)

-- A line for each pair.
abbrev pub pair_lines : Notation → List Pair → List ℕ
pair_lines notation pairs = written_records (Lines notation) (puts pairs)

-- A line for each pair, and nothing else.
abbrev pub ShowsPairs : Notation → Answer → List Pair → Type 0
ShowsPairs notation answer pairs = Shows answer 0 (pair_lines notation pairs) []

-- The pair; of a file of version One, that it has no counts.
abbrev pub ShowsNth : Notation → Answer → Version → Option Pair → Type 0
ShowsNth notation answer One found = ShowsFault answer NoCounts
ShowsNth notation answer Two found = ShowsPair notation answer found

-- What is shown of a lawful file's content by `check`: its root, its bits and its chunks.
abbrev pub ShowsCheck : Answer → Content → Type 0
ShowsCheck answer content = ShowsLine answer (check_text content)

-- By `get`: the value of the key.
abbrev pub ShowsGet : Notation → List ℕ → Answer → Content → Type 0
ShowsGet notation key answer content = ShowsValue notation answer (find content.pairs key)

-- By `get --raw`: the bytes of the value.
abbrev pub ShowsGetRaw : List ℕ → Answer → Content → Type 0
ShowsGetRaw key answer content = ShowsRaw answer (find content.pairs key)

-- By `scan`: the first pairs from the key on.
abbrev pub ShowsScan : Notation → List ℕ → ℕ → Answer → Content → Type 0
ShowsScan notation from limit answer content =
    ShowsPairs notation answer (scan content.pairs from limit)

-- By `nth`: the pair of the number.
abbrev pub ShowsPlace : Notation → ℕ → Answer → Content → Type 0
ShowsPlace notation n answer content =
    ShowsNth notation answer content.version (nth content.pairs n)

-- The bytes were read whole and are the file of this content, of which this is shown.
pub record IsLookedUp (bytes : List ℕ) (failed : Type 0) (shows : Content → Type 0) : Type 0 where
  pub whole : IsReadWhole bytes failed
  pub content : Content
  pub is : IsFileOf bytes content
  pub shown : shows content

-- The bytes were refused, or could not be read; a failed read is told as one, and nothing else is.
-- The fault is shown as that of one of the files that a command reads.
pub record IsNoFileAs (told : CheckFault → Fault) (bytes : List ℕ) (failed : Type 0)
    (answer : Answer) : Type 0 where
  pub fault : CheckFault
  pub is : IsRefusal bytes file_limit fault
  pub read : (fault ≡ Read) ↔ failed
  pub shows : ShowsFault answer (told fault)

-- The only file that a command reads is refused, and the answer shows why.
abbrev pub IsNoFile : List ℕ → Type 0 → Answer → Type 0
IsNoFile bytes failed answer = IsNoFileAs (λ fault. Check fault) bytes failed answer

-- The answer of a command of which `shows` says what it shows of a content.
abbrev pub IsLookUp : List ℕ → Type 0 → (Answer → Content → Type 0) → Answer → Type 0
IsLookUp bytes failed shows answer = IsLookedUp bytes failed (shows answer) ⊎
    IsNoFile bytes failed answer

-- The line of a failed read.
abbrev pub ShowsFailedRead : Answer → Type 0
ShowsFailedRead answer = ShowsFault answer (Check Read)

-- What a look-up answers to an honest source, of what that has left.
abbrev pub AnswersLookUp : {S : Type 0} → (S → SourceView) → S → S → (Answer → Content → Type 0) →
    Result Answer AllocError → Type 0
AnswersLookUp seen old new shows result = (seen old).is_honest ≡ true →
    IfOk result (IsLookUp (seen old).left ((seen new).failures ≢ (seen old).failures) shows)

-- A failed read of any source is told as one.
abbrev pub AnswersFailedRead : {S : Type 0} → (S → SourceView) → S → S → Result Answer AllocError →
    Type 0
AnswersFailedRead seen old new result = (seen new).failures ≢ (seen old).failures →
    IfOk result ShowsFailedRead

-- What a look-up by a root came to is shown: the value that it found, or none; or its fault.
abbrev pub ShowsFound : Notation → Answer → Result (Option (Vec ℕ)) RootFault → Type 0
ShowsFound notation answer (Ok found) =
    ShowsValue notation answer (option_map (λ value. value.items) found)
ShowsFound notation answer (Err fault) = ShowsFault answer (Root fault)

-- The same, where the bytes of the value are shown as they are.
abbrev pub ShowsFoundRaw : Answer → Result (Option (Vec ℕ)) RootFault → Type 0
ShowsFoundRaw answer (Ok found) = ShowsRaw answer (option_map (λ value. value.items) found)
ShowsFoundRaw answer (Err fault) = ShowsFault answer (Root fault)

-- What is shown of a look-up by a number: the pair that it found, or none, or its fault.
abbrev pub ShowsFoundPair : Notation → Answer → Result (Option Pair) RootFault → Type 0
ShowsFoundPair notation answer (Ok found) = ShowsPair notation answer found
ShowsFoundPair notation answer (Err fault) = ShowsFault answer (Root fault)
