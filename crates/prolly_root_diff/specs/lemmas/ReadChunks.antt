-- That the chunks which a walk reads stand in the chunk file.
use Rattle.std.proofs.Common.{◌≡◌, ℕ, List, [], ◌∷◌, map, refl}
use Rattle.std.proofs.Common.{ap, subst}
use Rattle.std.specs.List.{AllByRecursion}
use Rattle.prolly_entry.specs.declared.version.Version.{Version}
use Rattle.prolly_tree.specs.Chunk.{IsIn}
use Rattle.prolly_root.specs.ChunkFile.{ChunkFile}
use Rattle.prolly_root.specs.lemmas.ReadChunks.{chunk_stands}
use Rattle.prolly_root_diff.specs.FirstFault.{ComesBy, DueAt, ReadsAt, ReadsEach, TreeStep, read_by}
use Rattle.prolly_root_diff.specs.Leaves.{FoundClashIn}

-- ---- in one file

module _ (version : Version) (file : ChunkFile) where
  pub read_stands : (chunk : List ℕ) (old new : List DueAt) →
      ReadsAt version file chunk old new → IsIn chunk file.chunks
  read_stands chunk old new reads =
      chunk_stands version file reads.number reads.first.reference chunk reads.chunk_is reads.named

  -- What is read by steps of any walk over the tree stands there.
  pub steps_stand : (steps : List TreeStep) (old new : List DueAt) →
      ComesBy version file steps old new →
      AllByRecursion (λ c. IsIn c file.chunks) (read_by steps)
  steps_stand [] old new comes = tt
  steps_stand (TreeStep.Reads chunk ∷ steps) old new comes = (
    read_stands chunk old comes.0 comes.1,
    steps_stand steps comes.0 new comes.2,
  )
  steps_stand (TreeStep.Passes ∷ steps) old new comes = steps_stand steps comes.1 new comes.3

  by_reads : (read : List (List ℕ)) → read_by (map (λ c. TreeStep.Reads c) read) ≡ read
  by_reads [] = refl
  by_reads (chunk ∷ read) = ap (λ cs. chunk ∷ cs) (by_reads read)

  -- So it is with the chunks that a walk over the leaves reads.
  pub each_stands : (read : List (List ℕ)) (old new : List DueAt) →
      ReadsEach version file read old new → AllByRecursion (λ c. IsIn c file.chunks) read
  each_stands read old new comes = subst (AllByRecursion (λ c. IsIn c file.chunks))
      (by_reads read) (steps_stand (map (λ c. TreeStep.Reads c) read) old new comes)

-- ---- in fewer files

-- A clash that was found in more files is found in these.
pub clash_in_fewer : (goes_over more : ChunkFile → Type 0) → ((file : ChunkFile) →
    goes_over file → more file) → (version : Version) (root : List ℕ) (chunks : List (List ℕ)) →
    FoundClashIn more version root chunks → FoundClashIn goes_over version root chunks
clash_in_fewer goes_over more are version root chunks found = record {
  read = found.read;
  due = found.due;
  lead = found.lead;
  comes = λ file goes. found.comes file (are file goes);
  clash = found.clash;
}
