-- The stages, one behind another, make the tree.
use Rattle.std.proofs.Common.{◌≡◌, ℕ, zero, suc, ◌+◌, ◌^◌, ◌<◌, ◌≤◌, ◌↔◌, Bool, true, false, ◌&&◌}
use Rattle.std.proofs.Common.{cond, min, List, [], ◌∷◌, ◌++◌, length, map, refl, sym, ap, ◌∙◌}
use Rattle.std.proofs.Common.{subst, arith, append_assoc, append-nil}
use Rattle.std.proofs.lemmas.Bool.{false≢true}
use Rattle.std.proofs.lemmas.List.{length-append}
use Rattle.std.proofs.lemmas.List.Concat.{flat_map-append, flat_map_single}
use Rattle.prolly_tree.specs.Chunk.{chunks, Chunk, chunk_of, post_order, closed_post_order}
use Rattle.prolly_tree.specs.Chunk.{is_closed_tree}
use Rattle.prolly_entry.specs.Pair.{Pair}
use Rattle.prolly_entry.specs.declared.version.Version.{Version}
use Rattle.prolly_entry.specs.Cut.{Cut}
use Rattle.prolly_entry.specs.lemmas.Lists.{head_is, tail_is}
use Rattle.prolly_tree.specs.Split.{split, is_closed, closed_groups}
use Rattle.prolly_tree.specs.Tree.{Tree, LeveledTree, grow, pairs_below, child_is_boundary}
use Rattle.prolly_tree.specs.Tree.{pair_is_boundary, nodes, leaves, leaves_of, tree_of, level_count}
use Rattle.prolly_tree.specs.Events.{Closing, clean, faulty, event_is_boundary, stage_events}
use Rattle.prolly_tree.specs.Events.{leaf_events, group_event, greatest_count, has_level}
use Rattle.prolly_tree.specs.Pipeline.{pipeline_events, before_first, before_second, HasSecond}
use Rattle.prolly_tree.specs.Pipeline.{StagesMakeTree, EnoughStages}
use Rattle.prolly_tree.proofs.stages.Streams.{NoLevel, IsBlock, filter_none, filter_block}
use Rattle.prolly_tree.proofs.stages.Streams.{filter_blocks, unchanged}
use Rattle.std.proofs.lemmas.Bool.{cases_lt}
use Rattle.std.proofs.Common.{inl, inr}
use Rattle.std.specs.List.{flat_map, filter, AllByRecursion}
use Rattle.prolly_tree.specs.lemmas.Splits.{flat, as_group, Open, AllEnd}
use Rattle.prolly_tree.proofs.splits.Parts.{parts, open_rest_of, split_parts, closed_parts}
use Rattle.prolly_tree.proofs.splits.Parts.{ends_closed, open_not_closed}
use Rattle.prolly_tree.proofs.splits.Splits.{split_splits, only_split}
use Rattle.prolly_tree.proofs.trees.Forests.{AllUnder, under_more, none_under, post_under}
use Rattle.prolly_tree.proofs.trees.Forests.{post_block, post_blocks, AllClosed, closed_post}
use Rattle.prolly_tree.proofs.trees.Forests.{closed_under, not_closed_under}
use Rattle.prolly_tree.proofs.stages.Groups.{HavePairs, event_with, clean_step, nodes_pairs}
use Rattle.prolly_tree.proofs.stages.Groups.{nodes_have}
use Rattle.prolly_tree.proofs.trees.Growth.{begins_one, grow_one, grow_more, front_two, level_two}
use Rattle.prolly_tree.proofs.stages.Faults.{OneOpen, Shape, nodes_shape, fault_step}

-- all chunks of a tree, or the closed ones
abbrev pub walk : Cut → Version → Closing → (level : ℕ) → Tree level → List Chunk
walk cut version clean level t = post_order version level t
walk cut version faulty level t = closed_post_order cut version level t

abbrev pub walk_of : Cut → Version → Closing → LeveledTree → List Chunk
walk_of cut version closing grown = walk cut version closing grown.level grown.tree

abbrev pub ShapeFor : Cut → Version → Closing → (level : ℕ) → List (Tree level) → Type 0
ShapeFor cut version clean level ts = Unit {0}
ShapeFor cut version faulty level ts = Shape cut version level ts

-- a forest of the pairs m that the tree of m grows of
pub record Good (cut : Cut) (version : Version) (closing : Closing) (m : List Pair) (level : ℕ)
    (ts : List (Tree level)) : Type 0 where
  pub some : 0 < length ts
  pub pairs : flat_map (pairs_below level) ts ≡ m
  pub have : 2 ≤ length ts → HavePairs level ts
  pub shape : ShapeFor cut version closing level ts
  pub grown : tree_of cut version m ≡ grow cut version level ts

-- The events are those of a forest of the level, or the tree has stopped to grow below it.
pub data Reached (cut : Cut) (version : Version) (closing : Closing) (m : List Pair) (level : ℕ)
    (events : List Chunk) : Type 0 where
  going : (ts : List (Tree level)) → events ≡ flat_map (walk cut version closing level) ts →
      Good cut version closing m level ts → Reached cut version closing m level events
  done : (tree_of cut version m).level < level →
      events ≡ walk_of cut version closing (tree_of cut version m) →
      Reached cut version closing m level events

module _ (cut : Cut) (version : Version) where
  -- ---- a tree's chunks of its own level

  one_at_most : (closing : Closing) (level : ℕ) (t : Tree level) →
      length (filter (has_level level) (walk cut version closing level t)) ≤ 1
  one_at_most clean level t = let e : filter (has_level level) (post_order version level t) ≡
      chunk_of version level t ∷ [] =
      filter_block level (post_order version level t) (chunk_of version level t)
      (post_block version level t) in rw e (omega arith)
  one_at_most faulty level t = go (is_closed_tree cut version level t) refl
    where
      go : (b : Bool) → is_closed_tree cut version level t ≡ b →
          length (filter (has_level level) (closed_post_order cut version level t)) ≤ 1
      go true e = let f : filter (has_level level) (closed_post_order cut version level t) ≡
          chunk_of version level t ∷ [] =
          ap (filter (has_level level)) (closed_post cut version level t e)
          ∙ filter_block level (post_order version level t) (chunk_of version level t)
          (post_block version level t) in rw f (omega arith)
      go false e = let f : filter (has_level level) (closed_post_order cut version level t) ≡ [] =
          filter_none level (closed_post_order cut version level t)
          (none_under level (closed_post_order cut version level t)
          (not_closed_under cut version level t e)) in rw f (omega arith)

  walk_under : (closing : Closing) (level : ℕ) (t : Tree level) →
      AllUnder (suc level) (walk cut version closing level t)
  walk_under clean level t = post_under version level t
  walk_under faulty level t = closed_under cut version level t

  none_above : (closing : Closing) (grown : LeveledTree) (level : ℕ) → grown.level < level →
      filter (has_level level) (walk_of cut version closing grown) ≡ []
  none_above closing grown level h = filter_none level (walk_of cut version closing grown)
      (none_under level (walk_of cut version closing grown)
      (under_more (suc grown.level) level (walk_of cut version closing grown) h
      (walk_under closing grown.level grown.tree)))

  -- ---- the leaves

  module _ (m : List Pair) where
    leaf_pairs : (groups : List (List Pair)) → flat groups ≡ m →
        flat_map (pairs_below 0) (leaves_of groups) ≡ m
    leaf_pairs [] h = h
    leaf_pairs (g ∷ gs) h = h

    leaf_have : (groups : List (List Pair)) → AllByRecursion (λ g. 0 < length g) groups →
        2 ≤ length (leaves_of groups) → HavePairs 0 (leaves_of groups)
    leaf_have [] h two = absurd (omega arith)
    leaf_have (g ∷ gs) h two = h

    leaf_some : (groups : List (List Pair)) → 0 < length (leaves_of groups)
    leaf_some [] = omega arith
    leaf_some (g ∷ gs) = omega arith

    leaf_closed : (gs : List (List Pair)) → AllEnd (pair_is_boundary cut) 1 0 gs →
        AllClosed cut version 0 gs
    leaf_closed [] h = tt
    leaf_closed (g ∷ gs) h = (ends_closed (pair_is_boundary cut) 1 g h.0, leaf_closed gs h.1)

    leaf_open : (rest : List Pair) → Open (pair_is_boundary cut) 1 0 rest →
        OneOpen cut version 0 (as_group rest)
    leaf_open [] h = tt
    leaf_open (p ∷ ps) h = open_not_closed (pair_is_boundary cut) 1 (p ∷ ps) h

    leaf_shape : (gs : List (List Pair)) (rest : List Pair) → AllEnd (pair_is_boundary cut) 1 0 gs →
        Open (pair_is_boundary cut) 1 0 rest → Shape cut version 0 (leaves_of (gs ++ as_group rest))
    leaf_shape [] [] h o = record {
      front = [];
      tail = [] ∷ [];
      is = refl;
      closed = tt;
      opens = refl;
    }
    leaf_shape [] (p ∷ ps) h o = record {
      front = [];
      tail = (p ∷ ps) ∷ [];
      is = refl;
      closed = tt;
      opens = leaf_open (p ∷ ps) o;
    }
    leaf_shape (g ∷ gs) rest h o = record {
      front = g ∷ gs;
      tail = as_group rest;
      is = refl;
      closed = leaf_closed (g ∷ gs) h;
      opens = leaf_open rest o;
    }

    kept_closed : (gs : List (List Pair)) → AllEnd (pair_is_boundary cut) 1 0 gs →
        flat_map (closed_post_order cut version 0) gs ≡ map (chunk_of version 0) gs
    kept_closed [] h = refl
    kept_closed (g ∷ gs) h = rw (ends_closed (pair_is_boundary cut) 1 g h.0)
        (ap (λ a. chunk_of version 0 g ∷ a) (kept_closed gs h.1))

    kept_open : (rest : List Pair) → Open (pair_is_boundary cut) 1 0 rest →
        flat_map (closed_post_order cut version 0) (as_group rest) ≡ []
    kept_open [] h = refl
    kept_open (p ∷ ps) h = rw (open_not_closed (pair_is_boundary cut) 1 (p ∷ ps) h) refl

    kept_leaves : (gs : List (List Pair)) (rest : List Pair) →
        AllEnd (pair_is_boundary cut) 1 0 gs → Open (pair_is_boundary cut) 1 0 rest →
        map (chunk_of version 0) gs ≡ flat_map (closed_post_order cut version 0)
        (leaves_of (gs ++ as_group rest))
    kept_leaves [] [] h o = refl
    kept_leaves [] (p ∷ ps) h o = sym (kept_open (p ∷ ps) o)
    kept_leaves (g ∷ gs) rest h o = sym (flat_map-append (closed_post_order cut version 0) (g ∷ gs)
        (as_group rest)
        ∙ ap (λ a. flat_map (closed_post_order cut version 0) (g ∷ gs) ++ a) (kept_open rest o)
        ∙ append-nil (flat_map (closed_post_order cut version 0) (g ∷ gs)) ∙ kept_closed (g ∷ gs) h)

    start : (closing : Closing) → Reached cut version closing m 0
        (leaf_events cut version closing m)
    start clean =
        let s = split_splits (pair_is_boundary cut) 1 m in
        going (leaves cut m) (sym (flat_map_single (chunk_of version 0) (leaves cut m))) (record {
          some = leaf_some (split (pair_is_boundary cut) 1 m);
          pairs = leaf_pairs (split (pair_is_boundary cut) 1 m) s.whole;
          have = leaf_have (split (pair_is_boundary cut) 1 m) s.nonempty;
          shape = tt;
          grown = refl;
        })
    start faulty =
        let s = split_splits (pair_is_boundary cut) 1 m in
        let p = parts (pair_is_boundary cut) 1 m in
        let o : Open (pair_is_boundary cut) 1 0 p.rest =
        open_rest_of (pair_is_boundary cut) 1 m p in
        let e : split (pair_is_boundary cut) 1 m ≡ p.groups ++ as_group p.rest =
        ap (split (pair_is_boundary cut) 1) (sym p.whole) ∙
        split_parts (pair_is_boundary cut) 1 p.groups p.rest p.ends o in
        let f : closed_groups (pair_is_boundary cut) 1 m ≡ p.groups =
        ap (closed_groups (pair_is_boundary cut) 1) (sym p.whole) ∙
        closed_parts (pair_is_boundary cut) 1 p.groups p.rest p.ends o in
        going (leaves cut m)
        (ap (map (chunk_of version 0)) f ∙ kept_leaves p.groups p.rest p.ends o ∙
        ap (λ groups. flat_map (closed_post_order cut version 0) (leaves_of groups)) (sym e))
        (record {
          some = leaf_some (split (pair_is_boundary cut) 1 m);
          pairs = leaf_pairs (split (pair_is_boundary cut) 1 m) s.whole;
          have = leaf_have (split (pair_is_boundary cut) 1 m) s.nonempty;
          shape = subst (λ groups. Shape cut version 0 (leaves_of groups)) (sym e)
              (leaf_shape p.groups p.rest p.ends o);
          grown = refl;
        })

    -- ---- one stage

    module _ (cap : ℕ → ℕ) (capped : (n : ℕ) → n ≤ length m → cap n ≡ n) where
      abbrev stage : Closing → ℕ → List Chunk → List Chunk
      stage closing level events = stage_events (event_is_boundary cut version)
          (event_with cap version (suc level)) level closing events

      nodes_some : (level : ℕ) (t u : Tree level) (ts : List (Tree level)) →
          0 < length (nodes cut version level (t ∷ u ∷ ts))
      nodes_some level t u ts = let b = begins_one (child_is_boundary cut version level) 2 t
          (u ∷ ts) in rw b.is (omega arith)

      shape_step : (closing : Closing) (level : ℕ) (ts : List (Tree level)) →
          ShapeFor cut version closing level ts →
          ShapeFor cut version closing (suc level) (nodes cut version level ts)
      shape_step clean level ts h = tt
      shape_step faulty level ts h = nodes_shape cut version level ts h

      good_step : (closing : Closing) (level : ℕ) (t u : Tree level) (ts : List (Tree level)) →
          Good cut version closing m level (t ∷ u ∷ ts) →
          Good cut version closing m (suc level) (nodes cut version level (t ∷ u ∷ ts))
      good_step closing level t u ts g = record {
        some = nodes_some level t u ts;
        pairs = nodes_pairs cut version level (t ∷ u ∷ ts) ∙ g.pairs;
        have = λ two. nodes_have cut version level (t ∷ u ∷ ts) (g.have (omega arith));
        shape = shape_step closing level (t ∷ u ∷ ts) g.shape;
        grown = g.grown ∙ grow_more cut version level t u ts;
      }

      events_step : (closing : Closing) (level : ℕ) (t u : Tree level) (ts : List (Tree level)) →
          Good cut version closing m level (t ∷ u ∷ ts) →
          stage closing level (flat_map (walk cut version closing level) (t ∷ u ∷ ts)) ≡
          flat_map (walk cut version closing (suc level)) (nodes cut version level (t ∷ u ∷ ts))
      events_step clean level t u ts g = clean_step cut version level cap (length m) capped
          (t ∷ u ∷ ts) (g.have (omega arith)) (rw g.pairs (omega arith)) (omega arith)
      events_step faulty level t u ts g = fault_step cut version level cap (length m) capped
          (t ∷ u ∷ ts) g.shape (g.have (omega arith)) (rw g.pairs (omega arith))

      step_going : (closing : Closing) (level : ℕ) (events : List Chunk) (ts : List (Tree level)) →
          events ≡ flat_map (walk cut version closing level) ts →
          Good cut version closing m level ts →
          Reached cut version closing m (suc level) (stage closing level events)
      step_going closing level events [] e g = absurd (let some = g.some in omega arith)
      step_going closing level events (t ∷ []) e g =
          let e' : events ≡ walk cut version closing level t =
          e ∙ append-nil (walk cut version closing level t) in
          let top : tree_of cut version m ≡ record { level = level; tree = t } =
          g.grown ∙ grow_one cut version level t in
          let few : length (filter (has_level level) events) ≤ 1 =
          rw e' (one_at_most closing level t) in
          let low : (tree_of cut version m).level ≡ level = ap (λ x. x.level) top in
          done (omega arith)
          (unchanged level (event_is_boundary cut version) (event_with cap version (suc level))
          closing events few ∙ e'
          ∙ sym (ap (walk_of cut version closing) top))
      step_going closing level events (t ∷ u ∷ ts) e g =
          going (nodes cut version level (t ∷ u ∷ ts)) (ap (stage closing level) e ∙
          events_step closing level t u ts g) (good_step closing level t u ts g)

      step : (closing : Closing) (level : ℕ) (events : List Chunk) →
          Reached cut version closing m level events →
          Reached cut version closing m (suc level) (stage closing level events)
      step closing level events (going ts e g) = step_going closing level events ts e g
      step closing level events (done low e) =
          let none : filter (has_level level) events ≡ [] = ap (filter (has_level level)) e ∙
          none_above closing (tree_of cut version m) level low in
          done (omega arith) (unchanged level (event_is_boundary cut version)
          (event_with cap version (suc level)) closing events (rw none (omega arith)) ∙ e)

      abbrev pub run : Closing → ℕ → List Chunk
      run closing zero = leaf_events cut version closing m
      run closing (suc n) = stage closing n (run closing n)

      pub reached : (closing : Closing) (n : ℕ) → Reached cut version closing m n (run closing n)
      reached closing zero = start closing
      reached closing (suc n) = step closing n (run closing n) (reached closing n)

-- ---- up to the second event of a level

second_block : (level : ℕ) (a : List Chunk) (last : Chunk) (more : List Chunk) →
    IsBlock level a last → before_second level (a ++ more) ≡ a ++ before_first level more
second_block level [] last more h = absurd h
second_block level (e ∷ []) last more h = rw h.1 refl
second_block level (e ∷ f ∷ es) last more h =
    rw h.0 (ap (λ a. e ∷ a) (second_block level (f ∷ es) last more h.1))

first_block : (level : ℕ) (a : List Chunk) (last : Chunk) (more : List Chunk) →
    IsBlock level a last → before_first level (a ++ more) ≡ before_first level a
first_block level [] last more h = absurd h
first_block level (e ∷ []) last more h = rw h.1 refl
first_block level (e ∷ f ∷ es) last more h = rw h.0
    (ap (λ a. e ∷ a) (first_block level (f ∷ es) last more h.1))

two_blocks : (level : ℕ) (a b : List Chunk) (last last' : Chunk) (more : List Chunk) →
    IsBlock level a last → IsBlock level b last' →
    before_second level ((a ++ b) ++ more) ≡ a ++ before_first level b
two_blocks level a b last last' more h k = ap (before_second level) (append_assoc a b more) ∙
    second_block level a last (b ++ more) h
    ∙ ap (λ x. a ++ x) (first_block level b last' more k)

none_before : (level : ℕ) (a : List Chunk) → NoLevel level a → before_second level a ≡ a
none_before level [] h = refl
none_before level (e ∷ a) h = rw h.0 (ap (λ x. e ∷ x) (none_before level a h.1))

module _ (cut : Cut) (version : Version) where
  own : Closing → (level : ℕ) → List (Tree level) → List Chunk
  own clean level ts = chunk_of version (suc level) ts ∷ []
  own faulty level ts = cond (is_closed_tree cut version (suc level) ts)
      (chunk_of version (suc level) ts ∷ []) []

  walks : (closing : Closing) (level : ℕ) (ts : List (Tree level)) →
      walk cut version closing (suc level) ts ≡ flat_map (walk cut version closing level) ts ++
      own closing level ts
  unfolding own
  walks clean level ts = refl
  walks faulty level ts = refl

  -- which of the first two trees are closed
  data TwoCases (level : ℕ) (t u : Tree level) (ts : List (Tree level)) : Type 0 where
    both : is_closed_tree cut version level t ≡ true → is_closed_tree cut version level u ≡ true →
        TwoCases level t u ts
    first : is_closed_tree cut version level u ≡ false → ts ≡ [] → TwoCases level t u ts

  one_left : (level : ℕ) (t u : Tree level) (ts : List (Tree level)) →
      OneOpen cut version level (u ∷ ts) → TwoCases level t u ts
  one_left level t u [] h = first h refl
  one_left level t u (v ∷ ts) h = absurd h

  two_cases : (level : ℕ) (t u : Tree level) (ts front tail : List (Tree level)) →
      front ++ tail ≡ t ∷ u ∷ ts →
      AllClosed cut version level front → OneOpen cut version level tail → TwoCases level t u ts
  two_cases level t u ts [] tail e closed opens = absurd (subst (OneOpen cut version level) e opens)
  two_cases level t u ts (a ∷ []) tail e closed opens =
      one_left level t u ts (subst (OneOpen cut version level) (tail_is a t tail (u ∷ ts) e) opens)
  two_cases level t u ts (a ∷ b ∷ front) tail e closed opens =
      both (subst (λ x. is_closed_tree cut version level x ≡ true)
      (head_is a t ((b ∷ front) ++ tail) (u ∷ ts) e) closed.0)
      (subst (λ x. is_closed_tree cut version level x ≡ true)
      (head_is b u (front ++ tail) ts (tail_is a t ((b ∷ front) ++ tail) (u ∷ ts) e))
      closed.1.0)

  closed_block : (level : ℕ) (t : Tree level) → is_closed_tree cut version level t ≡ true →
      IsBlock level (closed_post_order cut version level t) (chunk_of version level t)
  closed_block level t h = subst (λ a. IsBlock level a (chunk_of version level t))
      (sym (closed_post cut version level t h)) (post_block version level t)

  -- two trees have one node
  pair_alone : (level : ℕ) (t u : Tree level) →
      nodes cut version level (t ∷ u ∷ []) ≡ (t ∷ u ∷ []) ∷ []
  pair_alone level t u = sym (only_split (child_is_boundary cut version level) 2 (t ∷ u ∷ [])
      ((t ∷ u ∷ []) ∷ []) (record {
        whole = refl;
        nonempty = (omega arith, tt);
        closed = tt;
        none_earlier = (
          λ front x y rest e le. absurd
              (let n : 2 ≡ length front + suc (suc (length rest)) = ap length e ∙
              length-append front (x ∷ y ∷ rest) in omega arith),
          tt,
        );
      }))

  third_false : (a b c : Bool) → c ≡ false → (a && (b && (c && true))) ≡ false
  third_false a b true h = absurd (false≢true (sym h))
  third_false true true false h = refl
  third_false true false false h = refl
  third_false false b false h = refl

  module _ (m : List Pair) where
    same_two : (closing : Closing) (level : ℕ) (t u : Tree level) (ts : List (Tree level)) →
        Good cut version closing m level (t ∷ u ∷ ts) →
        before_second level (flat_map (walk cut version closing level) (t ∷ u ∷ ts)) ≡
        before_second level (walk_of cut version closing (tree_of cut version m))
    same_two clean level t u ts g =
        let f = front_two cut version (walk cut version clean) (own clean) (walks clean) level t u
        ts in
        ap (before_second level) (sym (append_assoc (post_order version level t)
        (post_order version level u) (flat_map (post_order version level) ts)))
        ∙ two_blocks level (post_order version level t) (post_order version level u)
        (chunk_of version level t) (chunk_of version level u)
        (flat_map (post_order version level) ts)
        (post_block version level t) (post_block version level u)
        ∙ sym (two_blocks level (post_order version level t) (post_order version level u)
        (chunk_of version level t) (chunk_of version level u) f.0
        (post_block version level t) (post_block version level u))
        ∙ ap (before_second level) (sym f.1) ∙
        ap (λ x. before_second level (walk_of cut version clean x)) (sym g.grown)
    same_two faulty level t u ts g = by_case (two_cases level t u ts g.shape.front g.shape.tail
        g.shape.is g.shape.closed g.shape.opens)
      where
        by_case : TwoCases level t u ts → before_second level
            (flat_map (walk cut version faulty level) (t ∷ u ∷ ts)) ≡
            before_second level (walk_of cut version faulty (tree_of cut version m))
        by_case (both h k) =
            let f = front_two cut version (walk cut version faulty) (own faulty) (walks faulty)
            level t u ts in
            ap (before_second level) (sym (append_assoc (closed_post_order cut version level t)
            (closed_post_order cut version level u)
            (flat_map (closed_post_order cut version level) ts)))
            ∙ two_blocks level (closed_post_order cut version level t)
            (closed_post_order cut version level u) (chunk_of version level t)
            (chunk_of version level u) (flat_map (closed_post_order cut version level) ts)
            (closed_block level t h) (closed_block level u k)
            ∙ sym (two_blocks level (closed_post_order cut version level t)
            (closed_post_order cut version level u) (chunk_of version level t)
            (chunk_of version level u) f.0
            (closed_block level t h) (closed_block level u k))
            ∙ ap (before_second level) (sym f.1) ∙
            ap (λ x. before_second level (walk_of cut version faulty x)) (sym g.grown)
        by_case (first h e) =
            let top : tree_of cut version m ≡ record { level = suc level; tree = t ∷ u ∷ [] } =
            g.grown ∙ ap (λ xs. grow cut version level (t ∷ u ∷ xs)) e ∙
            grow_more cut version level t u []
            ∙ ap (grow cut version (suc level)) (pair_alone level t u) ∙
            grow_one cut version (suc level) (t ∷ u ∷ []) in
            let not_closed : is_closed_tree cut version (suc level) (t ∷ u ∷ []) ≡ false =
            third_false (is_closed (child_is_boundary cut version level) 2 (t ∷ u ∷ []))
            (is_closed_tree cut version level t) (is_closed_tree cut version level u) h in
            let kept : closed_post_order cut version (suc level) (t ∷ u ∷ []) ≡
            flat_map (closed_post_order cut version level) (t ∷ u ∷ []) =
            rw not_closed (append-nil (flat_map (closed_post_order cut version level) (t ∷ u ∷ [])))
            in
            ap (λ xs. before_second level (flat_map (closed_post_order cut version level)
            (t ∷ u ∷ xs))) e
            ∙ ap (before_second level) (sym kept) ∙
            ap (λ x. before_second level (walk_of cut version faulty x)) (sym top)

    same_going : (closing : Closing) (level : ℕ) (ts : List (Tree level)) →
        Good cut version closing m level ts →
        before_second level (flat_map (walk cut version closing level) ts) ≡
        before_second level (walk_of cut version closing (tree_of cut version m))
    same_going closing level [] g = absurd (let some = g.some in omega arith)
    same_going closing level (t ∷ []) g = ap (before_second level)
        (append-nil (walk cut version closing level t))
        ∙ ap (λ x. before_second level (walk_of cut version closing x))
        (sym (g.grown ∙ grow_one cut version level t))
    same_going closing level (t ∷ u ∷ ts) g = same_two closing level t u ts g

    pub same_up_to : (closing : Closing) (level : ℕ) (events : List Chunk) →
        Reached cut version closing m level events →
        before_second level events ≡ before_second level
        (walk_of cut version closing (tree_of cut version m))
    same_up_to closing level events (going ts e g) = ap (before_second level) e ∙
        same_going closing level ts g
    same_up_to closing level events (done low e) = ap (before_second level) e

    second_going : (level : ℕ) (events : List Chunk) (ts : List (Tree level)) →
        events ≡ flat_map (walk cut version clean level) ts → Good cut version clean m level ts →
        (2 ≤ length (filter (has_level level) events)) ↔
        (suc level < suc (tree_of cut version m).level)
    second_going level events [] e g = absurd (let some = g.some in omega arith)
    second_going level events (t ∷ []) e g =
        let n : length (filter (has_level level) events) ≤ 1 =
        rw (e ∙ append-nil (walk cut version clean level t))
        (one_at_most cut version clean level t) in
        let low : (tree_of cut version m).level ≡ level =
        ap (λ x. x.level) (g.grown ∙ grow_one cut version level t) in
        (λ h. absurd (omega arith), λ h. absurd (omega arith))
    second_going level events (t ∷ u ∷ ts) e g =
        let n : length (filter (has_level level) events) ≡
        suc (suc (length (map (chunk_of version level) ts))) =
        ap (λ x. length (filter (has_level level) x)) e
        ∙ ap length (filter_blocks level (post_order version level) (chunk_of version level)
        (t ∷ u ∷ ts) (post_blocks version level (t ∷ u ∷ ts))) in
        let high : level < (tree_of cut version m).level =
        rw g.grown (level_two cut version level t u ts) in
        (λ h. omega arith, λ h. omega arith)

    pub second_where : (level : ℕ) (events : List Chunk) →
        Reached cut version clean m level events →
        HasSecond level events ↔ (suc level < level_count cut version m)
    second_where level events (going ts e g) = second_going level events ts e g
    second_where level events (done low e) =
        let n : length (filter (has_level level) events) ≡ 0 =
        ap (λ x. length (filter (has_level level) x)) e ∙
        ap length (none_above cut version clean (tree_of cut version m) level low) in (
          λ h. absurd (let h' : 2 ≤ length (filter (has_level level) events) = h in omega arith),
          λ h. absurd (omega arith),
        )

    -- ---- the stages as they are defined

    capped : length m < 2 ^ 64 → (n : ℕ) → n ≤ length m → min greatest_count n ≡ n
    capped few n h = omega arith

    run_is : (few : length m < 2 ^ 64) (closing : Closing) (n : ℕ) →
        pipeline_events n cut version closing m ≡ run cut version m (λ k. min greatest_count k)
        (capped few) closing n
    run_is few closing zero = refl
    run_is few closing (suc n) = ap (stage_events (event_is_boundary cut version)
        (group_event version (suc n)) n closing) (run_is few closing n)

    pipeline_reached : length m < 2 ^ 64 → (closing : Closing) (n : ℕ) →
        Reached cut version closing m n (pipeline_events n cut version closing m)
    pipeline_reached few closing n = subst (Reached cut version closing m n)
        (sym (run_is few closing n)) (reached cut version m (λ k. min greatest_count k) (capped few)
        closing n)

    pub composition : length m < 2 ^ 64 → (n : ℕ) → StagesMakeTree cut version m n
    composition few n = (
      same_up_to clean n (pipeline_events n cut version clean m) (pipeline_reached few clean n),
      second_where n (pipeline_events n cut version clean m) (pipeline_reached few clean n),
      same_up_to faulty n (pipeline_events n cut version faulty m) (pipeline_reached few faulty n),
    )

    -- ---- where the stages are enough

    all_before : (n level : ℕ) (t : Tree level) → level ≤ n →
        before_second n (post_order version level t) ≡ post_order version level t
    all_before n level t h = elim (cases_lt level n) [
      | inl less ↦ none_before n (post_order version level t)
          (none_under n (post_order version level t)
          (under_more (suc level) n (post_order version level t) less (post_under version level t)))
      | inr le ↦ let e : level ≡ n = omega arith in
          subst (λ k. before_second k (post_order version level t) ≡ post_order version level t) e
          (ap (before_second level) (sym (append-nil (post_order version level t)))
          ∙ second_block level (post_order version level t) (chunk_of version level t) []
          (post_block version level t)
          ∙ append-nil (post_order version level t))
    ]

    post_last : (level : ℕ) (t : Tree level) → (before : List Chunk) ×
        (post_order version level t ≡ before ++ chunk_of version level t ∷ [])
    post_last zero t = ([], refl)
    post_last (suc level) ts = (flat_map (post_order version level) ts, refl)

    all_of : (n : ℕ) (events : List Chunk) → (tree_of cut version m).level ≤ n →
        Reached cut version clean m n events → events ≡ chunks cut version m
    all_of n events h (Reached.going [] e g) = absurd (let some = g.some in omega arith)
    all_of n events h (Reached.going (t ∷ []) e g) = e ∙ append-nil (post_order version n t) ∙
        sym (ap (walk_of cut version clean) (g.grown ∙ grow_one cut version n t))
    all_of n events h (Reached.going (t ∷ u ∷ ts) e g) =
        let high : n < (tree_of cut version m).level =
        rw g.grown (level_two cut version n t u ts) in absurd (omega arith)
    all_of n events h (Reached.done low e) = e

    pub enough_stages : length m < 2 ^ 64 → (n : ℕ) → level_count cut version m ≤ suc n →
        EnoughStages cut version m n
    enough_stages few n h = (
      all_of n (pipeline_events n cut version clean m) (omega arith) (pipeline_reached few clean n),
      all_before n (tree_of cut version m).level (tree_of cut version m).tree (omega arith),
      post_last (tree_of cut version m).level (tree_of cut version m).tree,
    )
