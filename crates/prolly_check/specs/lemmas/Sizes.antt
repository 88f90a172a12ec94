-- A file has no more pairs than bytes.
use Rattle.std.proofs.Common.{ℕ, ◌≤◌, List, [], ◌∷◌, length, arith}
use Rattle.std.specs.Int.{w64, to_be_bytes}
use Rattle.std.specs.List.{flat_map}
use Rattle.std.proofs.lemmas.List.{length-append}
use Rattle.prolly_entry.specs.declared.version.Version.{Version}
use Rattle.prolly_io.specs.Frame.{framed}
use Rattle.prolly_io.specs.FrameLaws.{frames_bytes}
use Rattle.prolly_look_up.specs.Content.{Content, IsFileOf, chunks_of}
use Rattle.prolly_look_up.specs.Entries.{AreWhole}
use Rattle.prolly_look_up.specs.HeldPairs.{pairs_held}
use Rattle.prolly_look_up.specs.lemmas.HeldPairs.{map_holds}
use Rattle.prolly_look_up.specs.lemmas.LeafEvents.{few_in_one}

-- Whole chunks have no more pairs than their frames have bytes.
pub few_in_frames : (version : Version) (cs : List (List ℕ)) → AreWhole version cs →
    length (flat_map pairs_held cs) ≤ length (flat_map framed cs)
few_in_frames version [] w = omega arith
few_in_frames version (c ∷ cs) w =
    let here = few_in_one version c w.0 in
    let more = few_in_frames version cs w.1 in
    let pairs = length-append (pairs_held c) (flat_map pairs_held cs) in
    let frames = length-append (framed c) (flat_map framed cs) in
    let frame = length-append (0x43 ∷ to_be_bytes w64 (length c)) c in
    omega arith

-- The frames of a file's chunks are no longer than the file.
pub frames_in : (bytes : List ℕ) (content : Content) → IsFileOf bytes content →
    length (flat_map framed (chunks_of content)) ≤ length bytes
frames_in bytes content f = grind (arith, frames_bytes, length-append)

-- So a file has no more pairs than bytes.
pub few_pairs : (bytes : List ℕ) (content : Content) → IsFileOf bytes content →
    length content.pairs ≤ length bytes
few_pairs bytes content f = grind (arith, map_holds, few_in_frames, frames_in)
