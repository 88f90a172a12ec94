-- What is told of a chunk file in memory, of which no read fails.
use Rattle.std.proofs.Common.{◌≡◌, ◌≢◌, ℕ, List, None, Result, Ok, Err}
use Rattle.std.specs.Prelude.{IfErr}
use Rattle.prolly_look_up.specs.Content.{Content}
use Rattle.prolly_look_up.specs.Sought.Sought.{Key}
use Rattle.prolly_entry.specs.Cut.{sha512_cut}
use Rattle.prolly_entry.specs.declared.version.Version.{Version}
use Rattle.prolly_tree.specs.File.{root_reference}
use Rattle.prolly_root.specs.ChunkFile.{IsLawful, chunk_file, file_fault}
use Rattle.prolly_root.specs.LookUpFault.{LawfulFilesAreRead, TellsWay}
use Rattle.prolly_root.specs.Reader.{ReaderView}
use Rattle.prolly_root.specs.RootFault.{MayFail, TellsReads}
use Rattle.prolly_root.specs.declared.root_fault.RootFault.{RootFault}
use Rattle.prolly_root.specs.declared.root_fault.RootFault.TheVariants.{Memory, Read}
use Rattle.prolly_root.specs.lemmas.FirstFaults.{only_may, opened_told}
use Rattle.prolly_range.specs.lemmas.Unfailed.{no_read, only_memory}

-- Where no call failed, no failed read is told.
pub none_read : {T : Type 0} → (failures : ℕ) (result : Result T RootFault) →
    TellsReads failures failures result → IfErr result (λ fault. fault ≢ Read)
none_read failures (Ok done) tells = tt
none_read failures (Err fault) tells = no_read failures fault tells

-- So there is no fault but want of memory.
pub memory_alone : {T : Type 0} → (failures : ℕ) (result : Result T RootFault) →
    TellsReads failures failures result → IfErr result MayFail → IfErr result (λ fault. fault ≡ Memory)
memory_alone failures (Ok done) tells may = tt
memory_alone failures (Err fault) tells may = only_memory failures fault tells may

-- ---- a lawful file

-- A reader that was opened for it tells no more than that.
pub only_fails : {T R : Type 0} (reader : ReaderView R) {version : Version} {root : List ℕ}
    (key : List ℕ) {content : Content} → LawfulFilesAreRead → IsLawful content →
    version ≡ content.version →
    root ≡ root_reference (sha512_cut content.bits) content.version content.pairs →
    (reader.version ≡ version) × (reader.root ≡ root) →
    file_fault version (chunk_file content) ≡ None → (result : Result T RootFault) →
    TellsWay reader.version (chunk_file content) reader.root (Key key) result →
    IfErr result MayFail
only_fails reader key law lawful same named of fine (Ok done) told = tt
only_fails reader key {content = content} law lawful same named of fine (Err fault) told = only_may
    law lawful same named (opened_told reader of (chunk_file content) fine told)
