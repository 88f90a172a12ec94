-- Which fault is the first for a look-up, where a reader tells one or can't be opened.
use Rattle.std.proofs.Common.{◌≡◌, ◌⊎◌, List, ℕ, Some, None, inl, inr, subst}
use Rattle.prolly_look_up.specs.Content.{Content}
use Rattle.prolly_look_up.specs.Sought.{Sought}
use Rattle.prolly_entry.specs.Cut.{sha512_cut}
use Rattle.prolly_entry.specs.declared.version.Version.{Version}
use Rattle.prolly_tree.specs.File.{root_reference}
use Rattle.prolly_root.specs.ChunkFile.{ChunkFile, IsLawful, chunk_file, file_fault}
use Rattle.prolly_root.specs.LookUpFault.{IsFirstFault, LawfulFilesAreRead, MayTell}
use Rattle.prolly_root.specs.Reader.{ReaderView}
use Rattle.prolly_root.specs.RootFault.{MayFail, OnlyRead}
use Rattle.prolly_root.specs.declared.root_fault.RootFault.{RootFault}

-- No reader was opened.
pub not_opened : {version : Version} (file : ChunkFile) {root : List ℕ} {sought : Sought}
    {fault : RootFault} → OnlyRead fault ⊎ (file_fault version file ≡ Some fault) →
    MayFail fault ⊎ IsFirstFault version file root sought fault
not_opened file (inl only) = inl (inr only)
not_opened file (inr told) = inr (inl told)

-- One was opened, and it tells this.
pub opened_told : {T : Type 0} (reader : ReaderView T) {version : Version} {root : List ℕ} →
    (reader.version ≡ version) × (reader.root ≡ root) → (file : ChunkFile) →
    file_fault version file ≡ None → {sought : Sought} {fault : RootFault} →
    MayTell reader.version file reader.root sought fault →
    MayFail fault ⊎ IsFirstFault version file root sought fault
opened_told reader {version = version} {root = root} of file fine {sought = sought} {fault = fault}
    told = go (subst (λ v. MayTell v file root sought fault) of.0
    (subst (λ r. MayTell reader.version file r sought fault) of.1 told))
  where
    go : MayTell version file root sought fault →
        MayFail fault ⊎ IsFirstFault version file root sought fault
    go (inl may) = inl may
    go (inr why) = inr (inr (fine, why))

-- A lawful file has no first fault.
pub only_may : {version : Version} {root : List ℕ} {sought : Sought} {fault : RootFault} →
    LawfulFilesAreRead → {content : Content} → IsLawful content → version ≡ content.version →
    root ≡ root_reference (sha512_cut content.bits) content.version content.pairs →
    MayFail fault ⊎ IsFirstFault version (chunk_file content) root sought fault → MayFail fault
only_may law lawful same named (inl may) = may
only_may {version = version} {sought = sought} {fault = fault} law {content = content} lawful same
    named (inr told) = absurd (law content sought fault lawful
    (subst (λ v. IsFirstFault v (chunk_file content)
    (root_reference (sha512_cut content.bits) content.version content.pairs) sought fault) same
    (subst (λ r. IsFirstFault version (chunk_file content) r sought fault) named told)))
