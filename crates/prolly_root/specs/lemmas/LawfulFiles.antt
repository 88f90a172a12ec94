-- The chunk file of a lawful content: that nothing is wrong with it before a chunk is read, nor with
-- the chunks that stand where they are due.
use Rattle.std.proofs.Common.{◌≡◌, ◌≤◌, ◌<◌, ◌∙◌, ℕ, ◌-◌, List, [], ◌∷◌, length, Option, None}
use Rattle.std.proofs.Common.{refl, sym, ap, subst, arith, drop}
use Rattle.std.specs.Int.{w64, to_be_bytes}
use Rattle.std.proofs.lemmas.Bool.{le-leb, le-ltb}
use Rattle.std.proofs.lemmas.List.{length-append}
use Rattle.prolly_look_up.specs.Content.{chunks_of, Content}
use Rattle.prolly_look_up.specs.Kinds.{kind_of}
use Rattle.prolly_look_up.specs.MapTree.{IsTreeOf, RootIsTree, TopIsRead, entries_below}
use Rattle.prolly_look_up.specs.Way.{FallsTo, level_of}
use Rattle.prolly_look_up.specs.lemmas.Ways.{no_flaw}
use Rattle.prolly_entry.specs.Cut.{sha512_cut}
use Rattle.prolly_entry.specs.Overlay.{or_else}
use Rattle.prolly_entry.specs.Reference.{reference_of}
use Rattle.prolly_entry.specs.declared.version.Version.{Version}
use Rattle.prolly_entry.specs.declared.version.Version.TheVariants.{One, Two}
use Rattle.prolly_tree.specs.Chunk.{chunks}
use Rattle.prolly_tree.specs.File.{root_reference}
use Rattle.prolly_tree.specs.Tree.{Tree, bytes_of}
use Rattle.prolly_root.specs.ChunkFile.{ChunkFile, IsLawful, chunk_file, fault_at_end, file_fault}
use Rattle.prolly_root.specs.ChunkFile.{frames_fault, header_or_version_fault, nth_in}
use Rattle.prolly_root.specs.ChunkFile.{no_chunk_fault}
use Rattle.prolly_root.specs.FileTrees.{IsTreeAt, root_level, root_tree}
use Rattle.prolly_root.specs.LookUpFault.{IsFaultOfChunk}
use Rattle.prolly_root.specs.declared.root_fault.RootFault.{RootFault}
use Rattle.prolly_root.specs.lemmas.FileTrees.{level_is, root_at, root_length, some_chunk, top_is}

-- ---- before a chunk is read

lawful_header : (version : Version) (content : Content) → content.bits ≤ 24 →
    version ≡ content.version → header_or_version_fault version (chunk_file content) ≡ None
lawful_header One content few same = rw (sym same, le-leb content.bits 24 few) refl
lawful_header Two content few same = rw (sym same, le-leb content.bits 24 few) refl

no_frames_fault : (file : ChunkFile) → 0 < length file.chunks → fault_at_end file ≡ None →
    frames_fault file ≡ None
no_frames_fault file some ends = by_chunks file.chunks some
  where
    by_chunks : (cs : List (List ℕ)) → 0 < length cs →
        or_else (fault_at_end file) (no_chunk_fault cs) ≡ None
    by_chunks [] some = absurd (omega (arith, some))
    by_chunks (c ∷ cs) some = rw ends refl

lawful_frames : (content : Content) → frames_fault (chunk_file content) ≡ None
lawful_frames content = no_frames_fault (chunk_file content) (some_chunk content) ends
  where
    ends : fault_at_end (chunk_file content) ≡ None
    ends = rw (
      le-ltb (length record_end) 28 (omega (arith, long)),
      le-ltb 28 (length record_end) (omega (arith, long)),
    ) refl
      where
        record_end : List ℕ
        record_end = drop 1 (chunk_file content).rest

        long : length record_end ≡ 28
        long = omega (
          arith,
          root_length content,
          length-append (root_reference (sha512_cut content.bits) content.version content.pairs)
              (to_be_bytes w64 (length (chunks (sha512_cut content.bits) content.version
              content.pairs))),
        )

-- Nothing is wrong with it.
pub no_file_fault : {content : Content} → IsLawful content → {version : Version} →
    version ≡ content.version → file_fault version (chunk_file content) ≡ None
no_file_fault {content = content} f {version = version} same =
    rw (lawful_header version content f.bits same, lawful_frames content) refl

-- ---- where the trees stand

-- The chunk with this reference that is due below this level is the top of a tree of the content, and
-- stands there: as the chunk of this number, with the frames below it from that of the chunk `from`
-- on.
pub record IsTopDue (content : Content) (reference : List ℕ) (above : Option ℕ) (number from : ℕ)
    : Type 0 where
  pub level : ℕ
  pub t : Tree level
  pub below : IsTreeOf content.version (chunks_of content) level t
  pub named : reference ≡ reference_of (bytes_of content.version level t)
  pub stands : IsTreeAt content level t number from
  pub falls : FallsTo above (bytes_of content.version level t)

-- So is the root.
pub root_due : RootIsTree → {content : Content} → IsLawful content → IsTopDue content
    (root_reference (sha512_cut content.bits) content.version content.pairs) None
    (length (chunk_file content).chunks - 1) 0
root_due root_tree_is {content = content} f = record {
  level = root_level content;
  t = root_tree content;
  below = root_tree_is content.version content.bits content.pairs f.lawful f.rising;
  named = refl;
  stands = root_at content;
  falls = tt;
}

module _ {content : Content} {reference : List ℕ} {above : Option ℕ} {number from : ℕ}
    (due : IsTopDue content reference above number from) where
  abbrev pub there : List ℕ
  there = nth_in (chunk_file content) number

  pub top_there : there ≡ bytes_of content.version due.level due.t
  top_there = top_is due.stands

  pub level_there : level_of there ≡ due.level
  level_there = ap level_of top_there ∙ level_is content.version due.level due.t

  module _ (read : TopIsRead content.version) where
    pub entries_there : kind_of content.version there ≡
        entries_below content.version due.level due.t
    entries_there = ap (kind_of content.version) top_there ∙
        (read (chunks_of content) due.level due.t due.below).1

    -- Nothing is wrong with it.
    pub no_fault_there : (fault : RootFault) →
        IsFaultOfChunk content.version reference above there number fault → ⊥
    no_fault_there fault flawed = no_flaw content.version reference above there flawed.0
        (ap reference_of top_there ∙ sym due.named)
        (rw top_there (read (chunks_of content) due.level due.t due.below).0)
        (subst (FallsTo above) (sym top_there) due.falls) flawed.1
