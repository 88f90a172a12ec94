-- What is kept of a file that was accepted, and how its chunks are found by their references.
use Rattle.std.specs.Cmp.Lexicographic.{slice_cmp}
use Rattle.std.specs.List.{flat_map, AllByRecursion}
use Rattle.std.specs.List.Sorted.{IsPermutation, IsSortedByKey}
use Rattle.std.specs.Ordering.{nat_cmp}
use Rattle.std.specs.Prelude.{◌≡◌, ℕ, ◌<◌, get_or, List, [], length, map, ◌≤◌, ◌^◌, ◌∷◌, drop}
use Rattle.std.specs.declared.ops.Range.{Range}
use Rattle.prolly_entry.specs.Reference.{reference_of}
use Rattle.prolly_entry.specs.declared.reference.Ref.{Ref}
use Rattle.prolly_tree.specs.Chunk.{IsIn}
use Rattle.prolly_io.specs.declared.format.header.Header.{Header}
use Rattle.prolly_look_up.specs.Content.{Content, chunks_of, IsFileOf}
use Rattle.prolly_look_up.specs.Entries.{AreWhole}
use Rattle.prolly_check.specs.Frames.{IsWithin, chunks_in}
use Rattle.prolly_look_up.specs.HeldPairs.{pairs_held}
use Rattle.prolly_check.specs.FirstFault.{judged}
use Rattle.prolly_check.specs.Verdict.{IsVerdict}
use Rattle.prolly_check.specs.declared.chunks.Index.{Index}

-- The references of the chunks, in their order.
abbrev pub AreReferences : List (List ℕ) → List Ref → Type 0
AreReferences chunks references = map (λ r. r.0) references ≡ map reference_of chunks

-- The chunk of this number has the reference.
pub record HasAt (chunks : List (List ℕ)) (number : ℕ) (reference : List ℕ) : Type 0 where
  pub within : number < length chunks
  pub is : reference_of (get_or chunks number []) ≡ reference

-- The entries are the references with their numbers.
pub record AreNumbered (references : List Ref) (entries : List (Ref × ℕ)) : Type 0 where
  pub many : length entries ≡ length references
  pub each : (k : ℕ) (other : Ref × ℕ) → k < length references →
      get_or entries k other ≡ (get_or references k other.0, k)

-- The entries of the index are the references of the chunks with the chunks' numbers, in the order
-- of the references.
pub record IsIndex (index : Index) (chunks : List (List ℕ)) : Type 0 where
  pub references : List Ref
  pub are : AreReferences chunks references
  pub numbered : List (Ref × ℕ)
  pub in_turn : AreNumbered references numbered
  pub moved : IsPermutation numbered index.entries.items
  pub sorted : IsSortedByKey (λ e. e.0.0) (slice_cmp nat_cmp) index.entries.items

-- The bytes are the file of some map, no two of whose chunks have one reference.
pub record IsFile (bytes : List ℕ) : Type 0 where
  pub content : Content
  pub is : IsFileOf bytes content

-- What a file says that has this header and these chunks.
abbrev pub content_of : Header → List (List ℕ) → Content
content_of header chunks = record {
  version = header.version;
  bits = header.bits;
  pairs = flat_map pairs_held chunks;
}

-- The header, the frames up to the offset, the end record and the entries are as a file has them, so
-- the verdict on the bytes is what is judged of the chunks.
pub record IsLaidOut (bytes : List ℕ) (header : Header) (spans : List (Range ℕ)) (offset : ℕ)
    : Type 0 where
  pub within : AllByRecursion (IsWithin bytes) spans
  pub whole : AreWhole header.version (chunks_in bytes spans)
  pub few : length (flat_map pairs_held (chunks_in bytes spans)) ≤ length bytes
  pub bits : header.bits ≤ 24
  pub reached : offset ≤ length bytes
  pub ending : List ℕ
  pub behind : drop offset bytes ≡ 0x45 ∷ ending
  pub so : IsVerdict bytes (judged header.version header.bits (chunks_in bytes spans) ending
      (map pairs_held (chunks_in bytes spans)))

-- The header, the spans of the chunks and the index are those of the file.
pub record IsChecked (bytes : List ℕ) (header : Header) (spans : List (Range ℕ))
    (index : Index) : Type 0 where
  pub is : IsFileOf bytes (content_of header (chunks_in bytes spans))
  pub chunks_are : chunks_in bytes spans ≡ chunks_of (content_of header (chunks_in bytes spans))
  pub within : AllByRecursion (IsWithin bytes) spans
  pub whole : AreWhole header.version (chunks_in bytes spans)
  pub indexed : IsIndex index (chunks_in bytes spans)

-- Some file of fewer than 2^64 bytes is that of the content.
pub record HasFile (content : Content) : Type 0 where
  pub bytes : List ℕ
  pub short : length bytes < 2 ^ 64
  pub is : IsFileOf bytes content

-- One of the chunks has the reference.
pub record HasReference (chunks : List (List ℕ)) (reference : List ℕ) : Type 0 where
  pub chunk : List ℕ
  pub is_in : IsIn chunk chunks
  pub is : reference_of chunk ≡ reference
