-- The levels of a tree, and its file.
use Rattle.std.proofs.Common.{◌≡◌, ℕ, suc, ◌<◌, ◌≤◌, ◌^◌, List, [], ◌∷◌, ◌++◌, length, inl, inr}
use Rattle.std.proofs.Common.{refl, sym, ap, ◌∙◌, subst, arith}
use Rattle.std.proofs.lemmas.Bool.{cases_lt}
use Rattle.std.proofs.lemmas.List.{length-append}
use Rattle.std.specs.List.{flat_map}
use Rattle.prolly_entry.specs.declared.version.Version.{Version}
use Rattle.prolly_entry.specs.Keys.{Rising}
use Rattle.prolly_entry.specs.Pair.{Pair}
use Rattle.prolly_entry.specs.Cut.{Cut}
use Rattle.prolly_entry.specs.Reference.{reference_of}
use Rattle.prolly_tree.specs.Tree.{tree_of, level_count}
use Rattle.prolly_tree.specs.Chunk.{Chunk, chunk_of, chunks}
use Rattle.prolly_tree.specs.File.{header, frame, end_record, root_reference}
use Rattle.prolly_tree.specs.Events.{clean}
use Rattle.prolly_tree.specs.Pipeline.{pipeline_events, HasSecond}
use Rattle.prolly_laws.specs.Stages.{composition, enough_stages}
use Rattle.prolly_file.specs.Scratch.{keys_in, Builds}

module _ (cut : Cut) (version : Version) (pairs : List Pair) (few : length pairs < 2 ^ 64) where
  -- A second chunk of a level: the tree goes on above it.
  pub goes_on : (level : ℕ) (events : List Chunk) →
      events ≡ pipeline_events level cut version clean pairs → HasSecond level events →
      suc level < level_count cut version pairs
  goes_on level events e h = (composition cut version pairs few level).1.0
      (subst (HasSecond level) e h)

  -- None: the level is the last.
  pub ends_there : (level : ℕ) (events : List Chunk) →
      events ≡ pipeline_events level cut version clean pairs → (HasSecond level events → ⊥) →
      level_count cut version pairs ≤ suc level
  ends_there level events e h =
      elim (cases_lt (suc level) (level_count cut version pairs)) [
        | inl more ↦ absurd (h (subst (HasSecond level) (sym e)
            ((composition cut version pairs few level).1.1 more)))
        | inr le ↦ le
      ]

  pub all_there : (level : ℕ) (events : List Chunk) →
      events ≡ pipeline_events level cut version clean pairs → (HasSecond level events → ⊥) →
      events ≡ chunks cut version pairs
  all_there level events e h = e ∙ (enough_stages cut version pairs few level
      (ends_there level events e h)).0

  -- The last chunk is the root.
  pub record LastIs : Type 0 where
    pub before : List Chunk
    pub last : Chunk
    pub is : chunks cut version pairs ≡ before ++ last ∷ []
    pub root : reference_of last.bytes ≡ root_reference cut version pairs

  pub last_is : (level : ℕ) → level_count cut version pairs ≤ suc level → LastIs
  last_is level h = let t = (enough_stages cut version pairs few level h).2 in
      record {
        before = t.0;
        last = chunk_of version (tree_of cut version pairs).level
            (tree_of cut version pairs).tree;
        is = t.1;
        root = refl;
      }

-- A tree has a chunk.
pub some_chunk : (before : List Chunk) (last : Chunk) (all : List Chunk) →
    all ≡ before ++ last ∷ [] → 0 < length all
some_chunk before last all e = omega (arith, ap length e, length-append before (last ∷ []))

-- Where the chunks are the tree's, and the root their last, the file is appended.
pub builds : (cut : Cut) (version : Version) (pairs : List Pair) (max_levels : ℕ)
    (few : length pairs < 2 ^ 64) (events given : List Chunk) (bits : ℕ) (old new root : List ℕ) →
    Rising (keys_in pairs) → level_count cut version pairs ≤ max_levels →
    events ≡ chunks cut version pairs →
    bits ≡ cut.bits → given ≡ events → new ≡ old ++
    (header version bits ++ flat_map frame given ++ end_record root (length given)) →
    ((before : List Chunk) (last : Chunk) → events ≡ before ++ last ∷ [] →
    root ≡ reference_of last.bytes) →
    Builds cut version pairs max_levels old new root
builds cut version pairs max_levels few events given bits old new root rising low e b d f g =
    let last = last_is cut version pairs few (level_count cut version pairs) (omega arith) in
    let same : root ≡ root_reference cut version pairs = g last.before last.last (e ∙ last.is) ∙
    last.root in record {
      rising = rising;
      low = low;
      appended = f ∙ ap (λ (t : List ℕ). old ++ t)
          (ap (λ n. header version n ++ flat_map frame given ++ end_record root (length given)) b
          ∙ ap (λ cs. header version cut.bits ++ flat_map frame cs ++ end_record root (length cs))
          (d ∙ e)
          ∙ ap (λ r. header version cut.bits ++ flat_map frame (chunks cut version pairs) ++
          end_record r (length (chunks cut version pairs))) same);
      root_is = same;
    }
