-- Which fault is told of a chunk file of any bytes: by a reader, and by who opened it.
use Rattle.std.proofs.Common.{◌≡◌, ◌⊎◌, ℕ, List, [], ◌∷◌, Some, None, Result, Ok, Err, inl, inr}
use Rattle.std.proofs.Common.{subst}
use Rattle.std.specs.Prelude.{IfErr}
use Rattle.prolly_look_up.specs.Sought.{Sought}
use Rattle.prolly_look_up.specs.Sought.Sought.{Key}
use Rattle.prolly_entry.specs.declared.version.Version.{Version}
use Rattle.prolly_root.specs.ChunkFile.{ChunkFile, file_fault}
use Rattle.prolly_root.specs.ChunkFile.{chunk_file}
use Rattle.prolly_root.specs.LookUpFault.{LawfulFilesAreRead, MayTell, TellsWay}
use Rattle.prolly_root.specs.Reader.{IsReaderIn, ReaderView}
use Rattle.prolly_root.specs.RootFault.{MayFail, OnlyRead}
use Rattle.prolly_root.specs.lemmas.FirstFaults.{not_opened, only_may, opened_told}
use Rattle.prolly_root.specs.declared.root_fault.RootFault.{RootFault}
use Rattle.prolly_answer.specs.RootFaults.{MayRefuse, MayRefuseFirst, RefusesNone, TellsFirst}
use Rattle.prolly_answer.specs.RootFaults.{TellsFirstKeyOf}

-- what a reader tells that is of the same version and root as when it was opened
pub told_of : {T : Type 0} (begun now : ReaderView T) (next from : List ℕ) →
    now.version ≡ begun.version → now.root ≡ begun.root → from ≡ next → (file : ChunkFile) →
    {fault : RootFault} → MayTell now.version file now.root (Key from) fault →
    MayTell begun.version file begun.root (Key next) fault
told_of begun now next from version root sought file {fault = fault} told =
    subst (λ key. MayTell begun.version file begun.root (Key key) fault) sought
    (subst (λ v. MayTell v file begun.root (Key from) fault) version
    (subst (λ r. MayTell now.version file r (Key from) fault) root told))

-- ---- of a lawful file

-- it has no first fault, so it is not refused
pub none_refused : {goes_over : ChunkFile → Type 0} {version : Version} {root : List ℕ}
    {sought : Sought} {fault : RootFault} → LawfulFilesAreRead →
    TellsFirst goes_over version root sought fault →
    MayRefuse goes_over version root sought fault
none_refused {goes_over = goes_over} {version = version} {root = root} {sought = sought}
    {fault = fault} law first = (none, first)
  where
    none : RefusesNone goes_over version root fault
    none content lawful goes same named =
        only_may law lawful same named (first (chunk_file content) goes)

-- the one look-up of a reader that was opened is refused so
pub refuses_so : {T V : Type 0} (reader : ReaderView T) {version : Version} {root : List ℕ} →
    (reader.version ≡ version) × (reader.root ≡ root) → (sought : Sought) →
    (goes_over : ChunkFile → Type 0) → LawfulFilesAreRead → (result : Result V RootFault) →
    ((file : ChunkFile) → goes_over file →
    (file_fault version file ≡ None) × TellsWay reader.version file reader.root sought result) →
    IfErr result (MayRefuse goes_over version root sought)
refuses_so reader of sought goes_over law (Ok value) tells = tt
refuses_so reader of sought goes_over law (Err fault) tells = none_refused law
    (λ file goes. let told = tells file goes in opened_told reader of file told.0 told.1)

-- ---- many keys

pub keys_not_opened : {goes_over : ChunkFile → Type 0} (version : Version) (root : List ℕ) →
    LawfulFilesAreRead → (keys : List (List ℕ)) {fault : RootFault} →
    ((file : ChunkFile) → goes_over file →
    OnlyRead fault ⊎ (file_fault version file ≡ Some fault)) →
    MayRefuseFirst goes_over version root keys fault
keys_not_opened {goes_over = goes_over} version root law keys {fault = fault} told = by_keys keys
  where
    only : {A : Type 0} → OnlyRead fault ⊎ A → MayFail fault ⊎ A
    only (inl read) = inl (inr read)
    only (inr a) = inr a

    refused : (key : List ℕ) → MayRefuse goes_over version root (Key key) fault
    refused key = none_refused law (λ file goes. not_opened file (told file goes))

    by_keys : (keys : List (List ℕ)) → MayRefuseFirst goes_over version root keys fault
    by_keys [] = ((refused []).0, λ file goes. only (told file goes))
    by_keys (key ∷ keys) = refused key

pub keys_told_of : {T : Type 0} (reader : ReaderView T)
    {stands : ChunkFile → T → ℕ → ℕ → Type 0} {goes_over over : ChunkFile → Type 0}
    {version : Version} {root : List ℕ} → (reader.version ≡ version) × (reader.root ≡ root) →
    LawfulFilesAreRead → (left : List (List ℕ)) (fault : RootFault) →
    ((file : ChunkFile) → goes_over file → over file) → ((file : ChunkFile) → goes_over file →
    (file_fault version file ≡ None) × IsReaderIn stands file reader) →
    TellsFirstKeyOf stands over reader left fault →
    MayRefuseFirst goes_over version root left fault
keys_told_of reader of law [] fault goes opened may = absurd may
keys_told_of reader of law (key ∷ left) fault goes opened may = none_refused law (λ file over.
    let o = opened file over in
    opened_told reader of file o.0 (may file (goes file over) o.1))
