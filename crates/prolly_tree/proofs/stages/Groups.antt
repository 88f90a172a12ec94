-- What a stage sends of a forest, is the forest of its nodes.
use Rattle.std.proofs.Common.{◌≡◌, ℕ, suc, ◌+◌, ◌<◌, ◌≤◌, true, nat_le, List, [], ◌∷◌, ◌++◌, length}
use Rattle.std.proofs.Common.{map, refl, sym, ap, ◌∙◌, subst, arith, append_assoc, append-nil}
use Rattle.std.proofs.lemmas.Bool.{le-leb}
use Rattle.std.proofs.lemmas.List.{length-append, length-map}
use Rattle.std.proofs.lemmas.List.Concat.{flat_map-append}
use Rattle.std.specs.List.{flat_map, AllByRecursion}
use Rattle.prolly_entry.specs.Pair.{Pair}
use Rattle.prolly_entry.specs.declared.version.Version.{Version}
use Rattle.prolly_entry.specs.Cut.{Cut}
use Rattle.prolly_entry.specs.Spelling.{child_spelling}
use Rattle.prolly_entry.specs.Reference.{reference_of}
use Rattle.prolly_tree.specs.Tree.{Tree, bytes_of, greatest_key, pair_count, pairs_below, last_key}
use Rattle.prolly_tree.specs.Tree.{child_is_boundary, nodes}
use Rattle.prolly_tree.specs.Chunk.{Chunk, chunk_of, post_order}
use Rattle.prolly_tree.specs.Events.{clean, event_entry, event_is_boundary, last_event_key}
use Rattle.prolly_tree.specs.Events.{count_sum, stage_events, events_at_end}
use Rattle.prolly_tree.specs.lemmas.Splits.{flat, as_group, Open, AllEnd}
use Rattle.prolly_tree.proofs.splits.Parts.{parts, open_rest_of, split_parts}
use Rattle.prolly_tree.proofs.splits.Splits.{split_splits}
use Rattle.prolly_tree.proofs.stages.Streams.{IsBlock, stage_of_parts}
use Rattle.prolly_tree.proofs.trees.Forests.{post_blocks}
use Rattle.prolly_entry.specs.lemmas.Lists.{all_front, all_back}

-- pairs are below each tree
abbrev pub HavePairs : (level : ℕ) → List (Tree level) → Type 0
HavePairs level ts = AllByRecursion (λ t. 0 < length (pairs_below level t)) ts

last_key_append : (a b : List Pair) → 0 < length b → last_key (a ++ b) ≡ last_key b
last_key_append [] b h = refl
last_key_append (p ∷ []) [] h = absurd (omega arith)
last_key_append (p ∷ []) (q ∷ b) h = refl
last_key_append (p ∷ q ∷ a) b h = last_key_append (q ∷ a) b h

-- the event of a group, its count as `cap` leaves it
abbrev pub event_with : (ℕ → ℕ) → Version → ℕ → List Chunk → Chunk
event_with cap version level group = record {
  level = level;
  key = last_event_key group;
  count = cap (count_sum group);
  bytes = level ∷ flat_map (event_entry version) group;
}

same_chunk : (level : ℕ) (key key' : List ℕ) (count count' : ℕ) (bytes bytes' : List ℕ) →
    key ≡ key' → count ≡ count' → bytes ≡ bytes' →
    ◌≡◌ {A = Chunk} (record { level = level; key = key; count = count; bytes = bytes })
    (record { level = level; key = key'; count = count'; bytes = bytes' })
same_chunk level key key' count count' bytes bytes' e f g = cc

module _ (version : Version) (level : ℕ) where
  counts_are : (ts : List (Tree level)) → count_sum (map (chunk_of version level) ts) ≡
      length (flat_map (pairs_below level) ts)
  counts_are [] = refl
  counts_are (t ∷ ts) = ap (λ n. length (pairs_below level t) + n) (counts_are ts)
      ∙ sym (length-append (pairs_below level t) (flat_map (pairs_below level) ts))

  some_below : (t : Tree level) (ts : List (Tree level)) → HavePairs level (t ∷ ts) →
      0 < length (flat_map (pairs_below level) (t ∷ ts))
  some_below t ts h = let first : 0 < length (pairs_below level t) = h.0 in
      omega (arith, length-append (pairs_below level t) (flat_map (pairs_below level) ts))

  key_is : (ts : List (Tree level)) → HavePairs level ts →
      last_event_key (map (chunk_of version level) ts) ≡ last_key (flat_map (pairs_below level) ts)
  key_is [] h = refl
  key_is (t ∷ []) h = ap last_key (sym (append-nil (pairs_below level t)))
  key_is (t ∷ u ∷ ts) h = key_is (u ∷ ts) h.1
      ∙ sym (last_key_append (pairs_below level t) (flat_map (pairs_below level) (u ∷ ts))
      (some_below u ts h.1))

  entries_are : (ts : List (Tree level)) → flat_map (event_entry version)
      (map (chunk_of version level) ts)
      ≡ flat_map (λ child. child_spelling version (greatest_key level child)
      (reference_of (bytes_of version level child)) (pair_count level child)) ts
  entries_are [] = refl
  entries_are (t ∷ ts) = ap (λ a. event_entry version (chunk_of version level t) ++ a)
      (entries_are ts)

  pub event_is : (cap : ℕ → ℕ) (ts : List (Tree level)) → HavePairs level ts →
      cap (length (flat_map (pairs_below level) ts)) ≡ length (flat_map (pairs_below level) ts) →
      event_with cap version (suc level) (map (chunk_of version level) ts) ≡
      chunk_of version (suc level) ts
  event_is cap ts h capped = same_chunk (suc level) _ _ _ _ _ _ (key_is ts h)
      (ap cap (counts_are ts) ∙ capped) (ap (λ a. suc level ∷ a) (entries_are ts))

-- ---- forests and their groups

pub flat_map_flat : {X Y : Type 0} (f : X → List Y) (groups : List (List X)) →
    flat_map (λ g. flat_map f g) groups ≡ flat_map f (flat groups)
flat_map_flat f [] = refl
flat_map_flat f (g ∷ gs) = ap (λ a. flat_map f g ++ a) (flat_map_flat f gs) ∙
    sym (flat_map-append f g (flat gs))

module _ (cut : Cut) (version : Version) (level : ℕ) where
  -- the nodes have the same pairs below
  pub nodes_pairs : (ts : List (Tree level)) →
      flat_map (pairs_below (suc level)) (nodes cut version level ts) ≡ flat_map (pairs_below level)
      ts
  nodes_pairs ts = flat_map_flat (pairs_below level) (nodes cut version level ts)
      ∙ ap (flat_map (pairs_below level)) (split_splits (child_is_boundary cut version level) 2
      ts).whole

  groups_have : (groups : List (List (Tree level))) → AllByRecursion (λ g. 0 < length g) groups →
      HavePairs level (flat groups) → HavePairs (suc level) groups
  groups_have [] some h = tt
  groups_have (g ∷ gs) some h = (
    go g some.0 (all_front (λ t. 0 < length (pairs_below level t)) g (flat gs) h),
    groups_have gs some.1 (all_back (λ t. 0 < length (pairs_below level t)) g (flat gs) h),
  )
    where
      go : (g : List (Tree level)) → 0 < length g → HavePairs level g →
          0 < length (flat_map (pairs_below level) g)
      go [] some h = some
      go (t ∷ ts) some h = some_below version level t ts h

  pub nodes_have : (ts : List (Tree level)) → HavePairs level ts →
      HavePairs (suc level) (nodes cut version level ts)
  nodes_have ts h = let s = split_splits (child_is_boundary cut version level) 2 ts in
      groups_have (nodes cut version level ts) s.nonempty (subst (HavePairs level) (sym s.whole) h)

  -- each group has pairs, and not too many
  abbrev pub IsGood : ℕ → List (Tree level) → Type 0
  IsGood most g = HavePairs level g × (length (flat_map (pairs_below level) g) ≤ most)

  pub good_groups : (gs : List (List (Tree level))) (rest : List (Tree level)) (most : ℕ) →
      HavePairs level (flat gs ++ rest) →
      length (flat_map (pairs_below level) (flat gs ++ rest)) ≤ most →
      AllByRecursion (IsGood most) gs
  good_groups [] rest most h few = tt
  good_groups (g ∷ gs) rest most h few =
      let regroup : flat (g ∷ gs) ++ rest ≡ g ++ (flat gs ++ rest) =
      append_assoc g (flat gs) rest in
      let h' : HavePairs level (g ++ (flat gs ++ rest)) = subst (HavePairs level) regroup h in
      let size : length (flat_map (pairs_below level) (flat (g ∷ gs) ++ rest)) ≡
      length (flat_map (pairs_below level) g) +
      length (flat_map (pairs_below level) (flat gs ++ rest)) =
      ap (λ ts. length (flat_map (pairs_below level) ts)) regroup ∙
      ap length (flat_map-append (pairs_below level) g (flat gs ++ rest))
      ∙ length-append (flat_map (pairs_below level) g)
      (flat_map (pairs_below level) (flat gs ++ rest)) in (
        (all_front (λ t. 0 < length (pairs_below level t)) g (flat gs ++ rest) h', omega arith),
        good_groups gs rest most (all_back (λ t. 0 < length (pairs_below level t)) g
            (flat gs ++ rest) h') (omega arith),
      )

  abbrev pub post : Tree level → List Chunk
  post = post_order version level

  module _ (cap : ℕ → ℕ) (most : ℕ) (capped : (n : ℕ) → n ≤ most → cap n ≡ n) where
    abbrev pub event : List Chunk → Chunk
    event = event_with cap version (suc level)

    event_good : (g : List (Tree level)) → IsGood most g →
        event (map (chunk_of version level) g) ≡ chunk_of version (suc level) g
    event_good g h = event_is version level cap g h.0
        (capped (length (flat_map (pairs_below level) g)) h.1)

    pub blocks_are : (gs : List (List (Tree level))) → AllByRecursion (IsGood most) gs →
        flat_map (λ g. flat_map post g ++ event (map (chunk_of version level) g) ∷ []) gs ≡
        flat_map (post_order version (suc level)) gs
    blocks_are [] h = refl
    blocks_are (g ∷ gs) h =
        ap (λ e. (flat_map post g ++ e ∷ []) ++
        flat_map (λ g. flat_map post g ++ event (map (chunk_of version level) g) ∷ []) gs)
        (event_good g h.0)
        ∙ ap (λ a. post_order version (suc level) g ++ a) (blocks_are gs h.1)

    pub all_blocks : (gs : List (List (Tree level))) →
        AllByRecursion (λ g. AllByRecursion (λ t. IsBlock level (post t) (chunk_of version level t))
        g) gs
    all_blocks [] = tt
    all_blocks (g ∷ gs) = (post_blocks version level g, all_blocks gs)

    -- what is sent of the rest at a clean end
    rest_is : (rest : List (Tree level)) → IsGood most rest → (n : ℕ) → 2 ≤ n →
        (flat_map post rest ++ []) ++ events_at_end clean event n
        (as_group (map (chunk_of version level) rest)) ≡
        flat_map (post_order version (suc level)) (as_group rest)
    rest_is [] h n two = let e : nat_le 2 n ≡ true = le-leb 2 n two in rw e refl
    rest_is (t ∷ ts) h n two = let e : nat_le 2 n ≡ true = le-leb 2 n two in
        rw e (ap (λ c. (flat_map post (t ∷ ts) ++ []) ++ c ∷ []) (event_good (t ∷ ts) h)
        ∙ ap (λ a. a ++ chunk_of version (suc level) (t ∷ ts) ∷ [])
        (append-nil (flat_map post (t ∷ ts)))
        ∙ sym (append-nil (flat_map post (t ∷ ts) ++ chunk_of version (suc level) (t ∷ ts) ∷ [])))

    clean_parts : (gs : List (List (Tree level))) (rest : List (Tree level)) →
        AllEnd (child_is_boundary cut version level) 2 0 gs →
        Open (child_is_boundary cut version level) 2 0 rest →
        HavePairs level (flat gs ++ rest) → length (flat_map (pairs_below level) (flat gs ++ rest))
        ≤ most → 2 ≤ length (flat gs ++ rest) →
        stage_events (event_is_boundary cut version) event level clean
        (flat_map post (flat gs ++ rest))
        ≡ flat_map (post_order version (suc level)) (gs ++ as_group rest)
    clean_parts gs rest all_end is_open have few two =
        let good : AllByRecursion (IsGood most) gs = good_groups gs rest most have few in
        let good_rest : IsGood most rest = (
          all_back (λ t. 0 < length (pairs_below level t)) (flat gs) rest have,
          (let size : length (flat_map (pairs_below level) (flat gs ++ rest)) ≡
              length (flat_map (pairs_below level) (flat gs)) +
              length (flat_map (pairs_below level) rest) =
              ap length (flat_map-append (pairs_below level) (flat gs) rest) ∙
              length-append (flat_map (pairs_below level) (flat gs))
              (flat_map (pairs_below level) rest) in omega arith),
        ) in
        let many : 2 ≤ length (map (chunk_of version level) (flat gs ++ rest)) =
        rw length-map two in
        ap (stage_events (event_is_boundary cut version) event level clean)
        (sym (append-nil (flat_map post (flat gs ++ rest))))
        ∙ stage_of_parts level post (chunk_of version level) (event_is_boundary cut version) event
        clean gs rest [] all_end is_open
        (all_blocks gs) (post_blocks version level rest) tt
        ∙ ap (λ a. (a ++ (flat_map post rest ++ [])) ++ events_at_end clean event
        (length (map (chunk_of version level) (flat gs ++ rest)))
        (as_group (map (chunk_of version level) rest))) (blocks_are gs good)
        ∙ append_assoc (flat_map (post_order version (suc level)) gs) (flat_map post rest ++ [])
        (events_at_end clean event (length (map (chunk_of version level) (flat gs ++ rest)))
        (as_group (map (chunk_of version level) rest)))
        ∙ ap (λ a. flat_map (post_order version (suc level)) gs ++ a)
        (rest_is rest good_rest (length (map (chunk_of version level) (flat gs ++ rest))) many)
        ∙ sym (flat_map-append (post_order version (suc level)) gs (as_group rest))

    -- at a clean end a stage makes of two trees or more the forest of their nodes
    pub clean_step : (ts : List (Tree level)) → HavePairs level ts →
        length (flat_map (pairs_below level) ts) ≤ most → 2 ≤ length ts →
        stage_events (event_is_boundary cut version) event level clean (flat_map post ts) ≡
        flat_map (post_order version (suc level)) (nodes cut version level ts)
    clean_step ts have few two =
        let p = parts (child_is_boundary cut version level) 2 ts in
        let opens : Open (child_is_boundary cut version level) 2 0 p.rest =
        open_rest_of (child_is_boundary cut version level) 2 ts p in
        let e : flat p.groups ++ p.rest ≡ ts = p.whole in
        subst (λ xs. stage_events (event_is_boundary cut version) event level clean
        (flat_map post xs) ≡ flat_map (post_order version (suc level))
        (nodes cut version level xs)) e
        (clean_parts p.groups p.rest p.ends opens (subst (HavePairs level) (sym e) have)
        (subst (λ xs. length (flat_map (pairs_below level) xs) ≤ most) (sym e) few)
        (subst (λ xs. 2 ≤ length xs) (sym e) two)
        ∙ ap (flat_map (post_order version (suc level)))
        (sym (split_parts (child_is_boundary cut version level) 2 p.groups p.rest p.ends
        opens)))
