-- The leaf that follows whole leaves, and the pairs that the chunks of a file hold.
use Rattle.std.proofs.Common.{◌≡◌, ℕ, zero, suc, Bool, true, false, cond, ◌&&◌, ◌||◌, List}
use Rattle.std.proofs.Common.{[], ◌∷◌, ◌++◌, length, map, refl, sym, ap, ◌∙◌, subst, arith, not}
use Rattle.std.proofs.Common.{append_assoc, append-nil, nat_le, inl, inr, ◌⊎◌, ◌+◌}
use Rattle.std.specs.List.{filter, flat_map, list_any, AllByRecursion}
use Rattle.std.proofs.lemmas.Bool.{le-leb}
use Rattle.std.proofs.lemmas.List.{append_cancel_left, map-append}
use Rattle.std.proofs.lemmas.List.Concat.{flat_map-append}
use Rattle.prolly_entry.specs.Cut.{Cut, sha512_cut}
use Rattle.prolly_entry.specs.Pair.{Pair, IsPair}
use Rattle.prolly_entry.specs.Prefix.{IsPrefix}
use Rattle.prolly_entry.specs.declared.version.Version.{Version}
use Rattle.prolly_entry.specs.lemmas.Lists.{all_front, all_back}
use Rattle.prolly_tree.specs.Chunk.{Chunk, chunk_of}
use Rattle.prolly_tree.specs.Events.{Closing, clean, faulty, leaf_events, inner_events, has_level}
use Rattle.prolly_tree.specs.Events.{events_through, events_beyond, with_group_events, group_event}
use Rattle.prolly_tree.specs.Events.{events_at_end, event_is_boundary}
use Rattle.prolly_tree.specs.Pipeline.{pipeline_events}
use Rattle.prolly_tree.specs.Split.{split, closed_groups, open_groups}
use Rattle.prolly_tree.specs.Tree.{leaves_of, pair_is_boundary}
use Rattle.prolly_tree.specs.lemmas.Splits.{flat, as_group, closes, Open, Ends, AllEnd, Parts}
use Rattle.prolly_laws.specs.Splits.{parts, open_rest_of, split_parts, split_splits}
use Rattle.prolly_chunk.specs.LeafLevel.{is_whole_leaf}
use Rattle.prolly_check.specs.Follower.{AllWhole, leaf_chunks, sent_of_leaves, all_of}
use Rattle.prolly_look_up.specs.HeldPairs.{bytes_in, pairs_held}
use Rattle.prolly_check.specs.OpenLevels.{node_levels, sent_through}
use Rattle.prolly_look_up.specs.lemmas.EntryLists.{leaf_pairs}
use Rattle.prolly_look_up.specs.lemmas.HeldPairs.{bytes_append}
use Rattle.prolly_check.proofs.OpenLevels.{prefix_of, sent_first, sent_prefix}
use Rattle.prolly_check.proofs.OpenLevels.{sends_prefix}

-- ---- the pairs that chunks hold

-- the pairs that chunks hold
abbrev pub held : List Chunk → List Pair
held chunks = flat_map pairs_held (bytes_in chunks)

pub held_append : (cs ds : List Chunk) → held (cs ++ ds) ≡ held cs ++ held ds
held_append cs ds = ap (flat_map pairs_held) (bytes_append cs ds) ∙
    flat_map-append pairs_held (bytes_in cs) (bytes_in ds)

-- the events up to one and those beyond it are all
all_events : (level n : ℕ) (events : List Chunk) →
    events_through level n events ++ events_beyond level n events ≡ events
all_events level zero events = refl
all_events level (suc n) [] = refl
all_events level (suc n) (e ∷ es) =
    elim (has_level level e) as (λ (b : Bool).
    (elim b as (λ _. List Chunk) [
      | true ↦ e ∷ events_through level n es
      | false ↦ e ∷ events_through level (suc n) es
    ]) ++ (elim b as (λ _. List Chunk) [
      | true ↦ events_beyond level n es
      | false ↦ events_beyond level (suc n) es
    ]) ≡ e ∷ es) [
      | true ↦ ap (λ xs. e ∷ xs) (all_events level n es)
      | false ↦ ap (λ xs. e ∷ xs) (all_events level (suc n) es)
    ]

-- nodes that are put in hold none
held_grouped : (version : Version) (below : ℕ) (groups : List (List Chunk)) (events : List Chunk) →
    held (with_group_events below (group_event version (suc below)) groups events) ≡ held events
held_grouped version below [] events = refl
held_grouped version below (group ∷ groups) events =
    let through = events_through below (length group) events in
    let beyond = events_beyond below (length group) events in
    let more = with_group_events below (group_event version (suc below)) groups beyond in
    held_append through (group_event version (suc below) group ∷ more)
    ∙ ap (λ ps. held through ++ ps) (held_grouped version below groups beyond)
    ∙ sym (held_append through beyond) ∙ ap held (all_events below (length group) events)

held_nodes : (version : Version) (below : ℕ) (groups : List (List Chunk)) →
    held (map (group_event version (suc below)) groups) ≡ []
held_nodes version below [] = refl
held_nodes version below (group ∷ groups) = held_nodes version below groups

held_at_end : (version : Version) (below : ℕ) (closing : Closing) (entries : ℕ)
    (groups : List (List Chunk)) →
    held (events_at_end closing (group_event version (suc below)) entries groups) ≡ []
held_at_end version below faulty entries groups = refl
held_at_end version below clean entries groups =
    elim (nat_le 2 entries) as (λ b.
    held (cond b (map (group_event version (suc below)) groups) []) ≡ []) [
      | true ↦ held_nodes version below groups
      | false ↦ refl
    ]

module _ (cut : Cut) (version : Version) where
  pub held_inner : (closing : Closing) (level : ℕ) (events : List Chunk) →
      held (inner_events level cut version closing events) ≡ held events
  held_inner closing zero events = refl
  held_inner closing (suc below) events =
      let is_boundary = event_is_boundary cut version in
      let event_of = group_event version (suc below) in
      let entries = filter (has_level below) events in
      let grouped = with_group_events below event_of (closed_groups is_boundary 2 entries) events in
      let ended = events_at_end closing event_of (length entries)
      (open_groups is_boundary 2 entries) in
      held_append grouped ended ∙
      ap (λ ps. held grouped ++ ps) (held_at_end version below closing (length entries)
      (open_groups is_boundary 2 entries)) ∙
      append-nil (held grouped) ∙
      held_grouped version below (closed_groups is_boundary 2 entries) events

  pub held_sent : (level count : ℕ) (events : List Chunk) →
      held (sent_through cut version level count events) ≡ held events
  held_sent level zero events = refl
  held_sent level (suc count) events =
      held_sent (suc level) count (inner_events level cut version faulty events) ∙
      held_inner faulty level events

  held_pipeline : (n : ℕ) (closing : Closing) (m : List Pair) →
      held (pipeline_events n cut version closing m) ≡ held (leaf_events cut version closing m)
  held_pipeline zero closing m = refl
  held_pipeline (suc n) closing m =
      held_inner closing (suc n) (pipeline_events n cut version closing m) ∙
      held_pipeline n closing m

-- the chunks of leaves hold their pairs
pub held_leaves : (version : Version) (ls : List (List Pair)) → AllByRecursion IsPair (flat ls) →
    held (leaf_chunks version ls) ≡ flat ls
held_leaves version [] h = refl
held_leaves version (l ∷ ls) h =
    ap (λ ps. ps ++ held (leaf_chunks version ls))
    (leaf_pairs _ l (record { is = refl; lawful = all_front IsPair l (flat ls) h })) ∙
    ap (λ ps. l ++ ps) (held_leaves version ls (all_back IsPair l (flat ls) h))

flat_leaves : (groups : List (List Pair)) → flat (leaves_of groups) ≡ flat groups
flat_leaves [] = refl
flat_leaves (g ∷ groups) = refl

-- all chunks of a map hold its pairs
pub held_all : (bits : ℕ) (version : Version) (m : List Pair) → AllByRecursion IsPair m →
    held (all_of bits version m) ≡ m
held_all bits version m lawful =
    let cut = sha512_cut bits in
    let groups = split (pair_is_boundary cut) 1 m in
    let are : flat (leaves_of groups) ≡ m = flat_leaves groups ∙
    (split_splits (pair_is_boundary cut) 1 m).whole in
    held_pipeline cut version node_levels clean m ∙
    held_leaves version (leaves_of groups) (subst (AllByRecursion IsPair) (sym are) lawful) ∙ are

-- ---- whole leaves, and what follows them

closes_any : (cut : Cut) (n : ℕ) (p : Pair) →
    closes (pair_is_boundary cut) 1 n p ≡ pair_is_boundary cut p
closes_any cut n p = ap (λ b. b && pair_is_boundary cut p) (le-leb 1 (suc n) (omega arith))

whole_ends : (cut : Cut) (n : ℕ) (leaf : List Pair) → is_whole_leaf cut leaf ≡ true →
    Ends (pair_is_boundary cut) 1 n leaf
whole_ends cut n [] h = cc
whole_ends cut n (p ∷ []) h = closes_any cut n p ∙ h
whole_ends cut n (p ∷ q ∷ ps) h =
    go (pair_is_boundary cut p) refl (whole_ends cut (suc n) (q ∷ ps)) h
  where
    go : (first : Bool) → pair_is_boundary cut p ≡ first →
        (is_whole_leaf cut (q ∷ ps) ≡ true → Ends (pair_is_boundary cut) 1 (suc n) (q ∷ ps)) →
        (not first && is_whole_leaf cut (q ∷ ps)) ≡ true →
        Ends (pair_is_boundary cut) 1 n (p ∷ q ∷ ps)
    go false f more e = (closes_any cut n p ∙ f, more e)
    go true f more e = cc

ends_whole : (cut : Cut) (n : ℕ) (leaf : List Pair) → Ends (pair_is_boundary cut) 1 n leaf →
    is_whole_leaf cut leaf ≡ true
ends_whole cut n [] h = absurd h
ends_whole cut n (p ∷ []) h = sym (closes_any cut n p) ∙ h
ends_whole cut n (p ∷ q ∷ ps) h =
    rw (sym (closes_any cut n p) ∙ h.0) (ends_whole cut (suc n) (q ∷ ps) h.1)

all_ends : (cut : Cut) (ls groups : List (List Pair)) →
    AllByRecursion (λ leaf. is_whole_leaf cut leaf ≡ true) ls →
    AllEnd (pair_is_boundary cut) 1 0 groups → AllEnd (pair_is_boundary cut) 1 0 (ls ++ groups)
all_ends cut [] groups h k = k
all_ends cut (l ∷ ls) groups h k = (whole_ends cut 0 l h.0, all_ends cut ls groups h.1 k)

-- whole leaves are the first groups, whatever follows them
split_leaves : (cut : Cut) (ls : List (List Pair)) (more : List Pair) →
    AllByRecursion (λ leaf. is_whole_leaf cut leaf ≡ true) ls →
    split (pair_is_boundary cut) 1 (flat ls ++ more) ≡ ls ++ split (pair_is_boundary cut) 1 more
split_leaves cut ls more h =
    let test = pair_is_boundary cut in
    let p = parts test 1 more in
    let opens = open_rest_of test 1 more p in
    ap (split test 1) (ap (λ ps. flat ls ++ ps) (sym p.whole) ∙
    sym (append_assoc (flat ls) (flat p.groups) p.rest) ∙
    ap (λ ps. ps ++ p.rest) (sym (flat_map-append (λ g. g) ls p.groups)))
    ∙ split_parts test 1 (ls ++ p.groups) p.rest (all_ends cut ls p.groups h p.ends) opens
    ∙ append_assoc ls p.groups (as_group p.rest)
    ∙ ap (λ gs. ls ++ gs) (sym (split_parts test 1 p.groups p.rest p.ends opens) ∙
    ap (split test 1) p.whole)

leaves_some : (ls : List (List Pair)) (group : List Pair) (others : List (List Pair)) →
    leaves_of (ls ++ group ∷ others) ≡ ls ++ group ∷ others
leaves_some [] group others = refl
leaves_some (l ∷ ls) group others = refl

module _ (bits : ℕ) (version : Version) where
  -- the events of leaves are the first that are sent
  all_goes_on : (m : List Pair) (events : List Chunk) →
      IsPrefix events (leaf_events (sha512_cut bits) version clean m) →
      IsPrefix (sent_through (sha512_cut bits) version 1 node_levels events) (all_of bits version m)
  all_goes_on m events p =
      let cut = sha512_cut bits in
      let sent = sent_through cut version 1 node_levels in
      let e : 0 + node_levels ≡ node_levels = omega arith in
      prefix_of (sent events) (sent (leaf_events cut version clean m)) (all_of bits version m)
      (sent_prefix cut version 1 node_levels events (leaf_events cut version clean m) p)
      (subst (λ n. IsPrefix (sent (leaf_events cut version clean m))
      (pipeline_events n cut version clean m)) e (sends_prefix bits version m 0 node_levels))

  -- what whole leaves send for sure begins the chunks of each file that begins with them
  pub sent_begins : (ls : List (List Pair)) (more : List Pair) → AllWhole bits ls →
      IsPrefix (sent_of_leaves bits version ls) (all_of bits version (flat ls ++ more))
  sent_begins [] more h = all_goes_on more [] (_, refl)
  sent_begins (l ∷ ls) more h =
      let cut = sha512_cut bits in
      let test = pair_is_boundary cut in
      all_goes_on (flat (l ∷ ls) ++ more) (leaf_chunks version (l ∷ ls)) (
        map (chunk_of version 0) (split test 1 more),
        ap (λ gs. map (chunk_of version 0) (leaves_of gs)) (split_leaves cut (l ∷ ls) more h)
            ∙ map-append (chunk_of version 0) (l ∷ ls) (split test 1 more),
      )

  -- and then comes the leaf of the first group of what follows
  pub leaf_follows : (ls : List (List Pair)) (more group : List Pair) (others : List (List Pair)) →
      AllWhole bits ls → split (pair_is_boundary (sha512_cut bits)) 1 more ≡ group ∷ others →
      IsPrefix (sent_of_leaves bits version ls ++ chunk_of version 0 group ∷ [])
      (all_of bits version (flat ls ++ more))
  leaf_follows ls more group others h e =
      let cut = sha512_cut bits in
      let leaf = chunk_of version 0 group in
      prefix_of _ _ _
      (sent_first cut version 1 node_levels (leaf_chunks version ls) leaf)
      (all_goes_on (flat ls ++ more) (leaf_chunks version ls ++ leaf ∷ []) (
        leaf_chunks version others,
        ap (λ gs. map (chunk_of version 0) (leaves_of gs)) (split_leaves cut ls more h ∙
            ap (λ gs. ls ++ gs) e)
            ∙ ap (map (chunk_of version 0)) (leaves_some ls group others)
            ∙ map-append (chunk_of version 0) ls (group ∷ others)
            ∙ sym (append_assoc (leaf_chunks version ls) (leaf ∷ []) (leaf_chunks version others)),
      ))

-- ---- the end of the leaves

none_open : (cut : Cut) (n : ℕ) (ps : List Pair) → list_any (pair_is_boundary cut) ps ≡ false →
    Open (pair_is_boundary cut) 1 n ps
none_open cut n [] h = tt
none_open cut n (p ∷ ps) h =
    go (pair_is_boundary cut p) refl (none_open cut (suc n) ps) h
  where
    go : (first : Bool) → pair_is_boundary cut p ≡ first →
        (list_any (pair_is_boundary cut) ps ≡ false → Open (pair_is_boundary cut) 1 (suc n) ps) →
        (first || list_any (pair_is_boundary cut) ps) ≡ false →
        Open (pair_is_boundary cut) 1 n (p ∷ ps)
    go false f more e = (closes_any cut n p ∙ f, more e)
    go true f more e = cc

open_none : (cut : Cut) (n : ℕ) (ps : List Pair) → Open (pair_is_boundary cut) 1 n ps →
    list_any (pair_is_boundary cut) ps ≡ false
open_none cut n [] h = refl
open_none cut n (p ∷ ps) h =
    rw (sym (closes_any cut n p) ∙ h.0) (open_none cut (suc n) ps h.1)

-- a last leaf without a boundary ends the leaves
pub ends_open : (cut : Cut) (version : Version) (ls : List (List Pair)) (p : Pair)
    (ps : List Pair) → AllByRecursion (λ leaf. is_whole_leaf cut leaf ≡ true) ls →
    list_any (pair_is_boundary cut) (p ∷ ps) ≡ false →
    leaf_events cut version clean (flat ls ++ p ∷ ps) ≡ leaf_chunks version ls ++
    chunk_of version 0 (p ∷ ps) ∷ []
ends_open cut version ls p ps h none =
    ap (λ gs. map (chunk_of version 0) (leaves_of gs)) (split_leaves cut ls (p ∷ ps) h ∙
    ap (λ gs. ls ++ gs) (split_parts (pair_is_boundary cut) 1 [] (p ∷ ps) tt
    (none_open cut 0 (p ∷ ps) none)))
    ∙ ap (map (chunk_of version 0)) (leaves_some ls (p ∷ ps) [])
    ∙ map-append (chunk_of version 0) ls ((p ∷ ps) ∷ [])

-- whole leaves may be all
pub ends_whole_leaves : (cut : Cut) (version : Version) (l : List Pair) (ls : List (List Pair)) →
    AllByRecursion (λ leaf. is_whole_leaf cut leaf ≡ true) (l ∷ ls) →
    leaf_events cut version clean (flat (l ∷ ls) ++ []) ≡ leaf_chunks version (l ∷ ls)
ends_whole_leaves cut version l ls h =
    ap (λ gs. map (chunk_of version 0) (leaves_of gs)) (split_leaves cut (l ∷ ls) [] h ∙
    ap (λ gs. (l ∷ ls) ++ gs) (split_parts (pair_is_boundary cut) 1 [] [] tt tt) ∙
    append-nil (l ∷ ls))

-- the empty map has one leaf
pub ends_empty : (cut : Cut) (version : Version) →
    leaf_events cut version clean [] ≡ chunk_of version 0 [] ∷ []
ends_empty cut version = ap (λ gs. map (chunk_of version 0) (leaves_of gs))
    (split_parts (pair_is_boundary cut) 1 [] [] tt tt)

-- ---- a leaf that can't be the next one

-- Pairs begin with another group than these.
pub record OtherGroup (cut : Cut) (last more : List Pair) : Type 0 where
  pub group : List Pair
  pub others : List (List Pair)
  pub are : split (pair_is_boundary cut) 1 more ≡ group ∷ others
  pub other : last ≡ group → ⊥

more_none : (ps qs : List Pair) → ps ≡ ps ++ qs → qs ≡ []
more_none ps qs e = append_cancel_left ps qs [] (sym e ∙ sym (append-nil ps))

no_boundary : (cut : Cut) (ps : List Pair) → list_any (pair_is_boundary cut) ps ≡ true →
    list_any (pair_is_boundary cut) ps ≡ false → ⊥
no_boundary cut ps h k = cc

-- Pairs that are no whole leaf and have a boundary, or others behind them, are not the first group.
pub other_group : (cut : Cut) (last more : List Pair) → is_whole_leaf cut last ≡ false →
    (last ++ more ≡ [] → ⊥) →
    ((more ≡ [] → ⊥) ⊎ (list_any (pair_is_boundary cut) last ≡ true)) →
    OtherGroup cut last (last ++ more)
other_group cut last more not_whole some why =
    go (parts (pair_is_boundary cut) 1 (last ++ more))
  where
    test : Pair → Bool
    test = pair_is_boundary cut

    clash : (group : List Pair) → Ends (pair_is_boundary cut) 1 0 group → last ≡ group → ⊥
    clash group ends e = absurd (cc (sym not_whole ∙ ap (is_whole_leaf cut) e ∙ ends_whole cut 0 group ends))

    unended : Open (pair_is_boundary cut) 1 0 (last ++ more) → last ≡ last ++ more →
        ((more ≡ [] → ⊥) ⊎ (list_any (pair_is_boundary cut) last ≡ true)) → ⊥
    unended opens e (inl others) = others (more_none last more e)
    unended opens e (inr boundary) = no_boundary cut last boundary
        (open_none cut 0 last (subst (Open (pair_is_boundary cut) 1 0) (sym e) opens))

    one : (rest : List Pair) → (rest ≡ [] → ⊥) → as_group rest ≡ rest ∷ []
    one [] h = absurd (h refl)
    one (p ∷ ps) h = refl

    go : Parts (pair_is_boundary cut) 1 0 (last ++ more) → OtherGroup cut last (last ++ more)
    go p = by p.groups refl
      where
        by : (groups : List (List Pair)) → p.groups ≡ groups → OtherGroup cut last (last ++ more)
        by [] e =
            let rest : p.rest ≡ last ++ more = ap (λ gs. flat gs ++ p.rest) (sym e) ∙ p.whole in
            let opens : Open (pair_is_boundary cut) 1 0 p.rest =
            open_rest_of (pair_is_boundary cut) 1 (last ++ more) p in
            record {
              group = p.rest;
              others = [];
              are = ap (split (pair_is_boundary cut) 1) (sym rest) ∙
                  split_parts (pair_is_boundary cut) 1 [] p.rest tt opens ∙
                  one p.rest (λ none. some (sym rest ∙ none));
              other = λ same. unended (subst (Open (pair_is_boundary cut) 1 0) rest opens)
                  (same ∙ rest) why;
            }
        by (g ∷ gs) e =
            let ends : AllEnd (pair_is_boundary cut) 1 0 (g ∷ gs) =
            subst (AllEnd (pair_is_boundary cut) 1 0) e p.ends in record {
              group = g;
              others = gs ++ as_group p.rest;
              are = ap (split (pair_is_boundary cut) 1) (sym p.whole ∙ ap (λ gs. flat gs ++ p.rest) e)
                  ∙ split_parts (pair_is_boundary cut) 1 (g ∷ gs) p.rest ends
                  (open_rest_of (pair_is_boundary cut) 1 (last ++ more) p);
              other = clash g ends.0;
            }

-- pairs without a boundary are no whole leaf
pub open_not_whole : (cut : Cut) (ps : List Pair) →
    list_any (pair_is_boundary cut) ps ≡ false → is_whole_leaf cut ps ≡ false
open_not_whole cut [] h = refl
open_not_whole cut (p ∷ []) h = go (pair_is_boundary cut p) h
  where
    go : (first : Bool) → (first || false) ≡ false → first ≡ false
    go false e = refl
    go true e = cc
open_not_whole cut (p ∷ q ∷ ps) h =
    go (pair_is_boundary cut p) h (open_not_whole cut (q ∷ ps))
  where
    go : (first : Bool) → (first || list_any (pair_is_boundary cut) (q ∷ ps)) ≡ false →
        (list_any (pair_is_boundary cut) (q ∷ ps) ≡ false → is_whole_leaf cut (q ∷ ps) ≡ false) →
        (not first && is_whole_leaf cut (q ∷ ps)) ≡ false
    go false e more = more e
    go true e more = refl
