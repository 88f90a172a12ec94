-- The bytes of a file before and behind a frame, and those of a chunk.
use Rattle.std.proofs.Common.{◌≡◌, ℕ, suc, ◌+◌, ◌^◌, ◌<◌, ◌≤◌, List, [], ◌++◌, length}
use Rattle.std.proofs.Common.{take, drop, get_or, sym, ap}
use Rattle.std.proofs.Common.{◌∙◌, subst, arith, append_assoc, take-append-drop}
use Rattle.std.specs.List.{flat_map}
use Rattle.std.proofs.Math.Seq.{drop-append_seam}
use Rattle.std.proofs.lemmas.List.{length-append}
use Rattle.std.proofs.lemmas.List.{length-take-le}
use Rattle.std.proofs.lemmas.List.Concat.{flat_map-append}
use Rattle.prolly_look_up.specs.Content.{Content, IsFileOf}
use Rattle.prolly_entry.specs.Cut.{sha512_cut}
use Rattle.prolly_io.specs.Frame.{framed}
use Rattle.prolly_io.specs.FrameLaws.{frames_bytes}
use Rattle.prolly_tree.specs.Chunk.{chunks}
use Rattle.prolly_io.specs.Device.{DeviceView}
use Rattle.prolly_root.specs.ChunkFile.{ChunkFile, HoldsChunks, IsCut}
use Rattle.prolly_root.specs.ChunkFile.{chunk_file}
use Rattle.prolly_root.specs.Walk.{HoldsFile}
use Rattle.prolly_root.specs.Walk.{IsFrame, IsWalk, offset_of}
use Rattle.prolly_root.specs.declared.file.walk.Frame.{Frame}
use Rattle.prolly_root.specs.declared.file.walk.Walk.{Walk}
use Rattle.prolly_root.specs.lemmas.FileTrees.{all_some}
use Rattle.std.proofs.Math.Seq.{drop-append-add, drop-cons, take-append_seam}
use Rattle.std.proofs.lemmas.List.{take_all}
use Rattle.prolly_root.specs.ChunkFile.{nth_in}

-- ---- the bytes of a file

-- the file of a content is cut into its chunks
pub is_cut : {bytes : List ℕ} {content : Content} → IsFileOf bytes content →
    length bytes < 2 ^ 64 → IsCut (chunk_file content)
is_cut {content = content} f small = record {
  is = ap (λ x. x ++ (chunk_file content).rest)
      (frames_bytes (chunks (sha512_cut content.bits) content.version content.pairs));
  some = all_some content;
  last = λ chunk more some few is.
      absurd (omega (arith, ap (λ bytes. get_or bytes 0 0) is));
  short = subst (λ bytes. length bytes < 2 ^ 64) f.is small;
}

pub holds_chunks : {device : DeviceView} {content : Content} → HoldsFile device content →
    HoldsChunks device (chunk_file content)
holds_chunks holds = record {
  honest = holds.honest;
  are = holds.is.is;
  cut = is_cut holds.is holds.short;
}

module _ {file : ChunkFile} (f : IsCut file) (n : ℕ) where
  -- those before the frame of the chunk of the number, and those from there on
  abbrev pub front : List ℕ
  front = take 6 file.bytes ++ flat_map framed (take n file.chunks)

  abbrev pub behind : List ℕ
  behind = flat_map framed (drop n file.chunks) ++ file.rest

  pub apart : file.bytes ≡ front ++ behind
  apart = sym (take-append-drop 6 file.bytes) ∙ ap (λ x. take 6 file.bytes ++ x)
      (f.is ∙ ap (λ x. x ++ file.rest) (ap (flat_map framed) (sym (take-append-drop n file.chunks)) ∙
      flat_map-append framed (take n file.chunks) (drop n file.chunks))) ∙ simp append_assoc

  module _ (header : 6 ≤ length file.bytes) where
    pub front_length : length front ≡ offset_of file n
    front_length = omega (
      arith,
      header,
      length-append (take 6 file.bytes) (flat_map framed (take n file.chunks)),
      length-take-le 6 file.bytes header,
    )

    -- how much that is
    pub how_long : length file.bytes ≡
        offset_of file n + (length (flat_map framed (drop n file.chunks)) + length file.rest)
    how_long = omega (
      arith,
      ap length apart,
      length-append front behind,
      front_length,
      length-append (flat_map framed (drop n file.chunks)) file.rest,
    )

    pub there : {offset : ℕ} → offset ≡ offset_of file n → drop offset file.bytes ≡ behind
    there {offset = offset} at = ap (λ p. drop p file.bytes) (at ∙ sym front_length) ∙
        ap (drop (length front)) apart ∙ drop-append_seam front behind

-- ---- the bytes of a chunk

-- they stand where the frame says
pub frame_there : {file : ChunkFile} → IsCut file → {walk : Walk} → IsWalk file walk →
    {frame : Frame} → IsFrame file frame →
    take frame.len (drop frame.start file.bytes) ≡ nth_in file frame.number
frame_there {file = file} f at {frame = frame} is =
    let n = frame.number in
    let chunk = nth_in file n in
    let left = drop (suc n) file.chunks in
    let more = flat_map framed left ++ file.rest in
    let there : drop frame.start file.bytes ≡ chunk ++ more =
    ap (λ p. drop p file.bytes)
    (is.start ∙ ap (λ n. n + 9) (sym (front_length f n at.header))) ∙
    ap (drop (length (front f n) + 9)) (apart f n) ∙
    drop-append-add (front f n) (behind f n) 9 ∙
    ap (λ cs. drop 9 (flat_map framed cs ++ file.rest))
    (drop-cons file.chunks n [] is.within) ∙
    append_assoc chunk (flat_map framed left) file.rest in
    ap (λ n. take n (drop frame.start file.bytes)) is.len ∙ ap (take (length chunk)) there ∙
    take-append_seam chunk more

-- what was read of them is all of them
pub chunk_there : {file : ChunkFile} → IsCut file → {walk : Walk} → IsWalk file walk →
    {frame : Frame} → IsFrame file frame → (count : ℕ) (buf : List ℕ) →
    length buf ≡ length (nth_in file frame.number) →
    take count buf ≡ take (length buf) (drop frame.start file.bytes) →
    take count buf ≡ nth_in file frame.number
chunk_there {file = file} f at {frame = frame} is count buf long gives = gives ∙
    ap (λ n. take n (drop frame.start file.bytes)) (long ∙ sym is.len) ∙ frame_there f at is

-- and nothing stands behind them
pub read_whole : (count len : ℕ) (buf chunk more : List ℕ) → take count buf ≡ chunk →
    length buf ≡ length chunk → len ≡ length buf → length buf ≤ count →
    take len (buf ++ more) ≡ chunk
read_whole count len buf chunk more e long same all = ap (λ n. take n (buf ++ more)) same ∙
    take-append_seam buf more ∙ sym (take_all count buf all) ∙ e
