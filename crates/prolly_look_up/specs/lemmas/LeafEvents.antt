-- The event of a leaf that was read.
use Rattle.std.proofs.Common.{◌≡◌, ℕ, zero, suc, ◌<◌, ◌≤◌, List, [], ◌∷◌, length, refl, ap, ◌∙◌, arith}
use Rattle.std.specs.List.{flat_map}
use Rattle.prolly_entry.specs.Spelling.{pair_spelling}
use Rattle.prolly_entry.specs.Pair.{Pair}
use Rattle.prolly_entry.specs.declared.version.Version.{Version}
use Rattle.prolly_entry.specs.declared.version.Version.TheVariants.{One}
use Rattle.prolly_tree.specs.Chunk.{chunk_of}
use Rattle.prolly_tree.specs.Tree.{last_key}
use Rattle.prolly_look_up.specs.Entries.{IsWhole}
use Rattle.prolly_look_up.specs.HeldPairs.{pairs_held}
use Rattle.prolly_look_up.specs.lemmas.EntryLists.{each_has_bytes, leaf_spelled}
use Rattle.prolly_look_up.specs.lemmas.ReadEntries.{leaf_pairs}

-- A leaf has no more pairs than bytes.
pub few_in_one : (version : Version) (chunk : List ℕ) → IsWhole version chunk →
    length (pairs_held chunk) ≤ length chunk
few_in_one version [] w = omega arith
few_in_one version (zero ∷ entries) w = grind (arith, each_has_bytes, leaf_pairs)
few_in_one version (suc level ∷ entries) w = omega arith

-- The bytes of a chunk with pairs are those of the leaf of them.
pub leaf_bytes : (version : Version) (chunk : List ℕ) → IsWhole version chunk →
    (pairs_held chunk ≡ [] → ⊥) → chunk ≡ 0 ∷ flat_map pair_spelling (pairs_held chunk)
leaf_bytes version [] w some = absurd w.holds
leaf_bytes version (zero ∷ entries) w some =
    ap (λ bytes. 0 ∷ bytes) (leaf_spelled entries (record { pairs = w.pairs; is = w.holds }))
leaf_bytes version (suc level ∷ entries) w some = absurd (some refl)

-- So it is the chunk of that leaf.
pub leaf_event_is : (version : Version) (chunk : List ℕ) (pairs : List Pair) (key : List ℕ)
    (count : ℕ) → IsWhole version chunk → 0 < length (pairs_held chunk) →
    pairs ≡ pairs_held chunk → key ≡ last_key pairs → count ≡ length pairs →
    record { level = 0; key = key; count = count; bytes = chunk } ≡ chunk_of One 0
    (pairs_held chunk)
leaf_event_is version chunk pairs key count w some are k n =
    ap (λ key. record { level = 0; key = key; count = count; bytes = chunk })
    (k ∙ ap last_key are) ∙
    ap (λ count. record {
      level = 0;
      key = last_key (pairs_held chunk);
      count = count;
      bytes = chunk;
    }) (n ∙ ap length are) ∙
    ap (λ bytes. record {
      level = 0;
      key = last_key (pairs_held chunk);
      count = length (pairs_held chunk);
      bytes = bytes;
    }) (leaf_bytes version chunk w (λ none. absurd (omega (arith, some, ap length none))))
