-- What a stage sends of the closed chunks of a forest at a fault, are the closed chunks of the
-- forest of its nodes.
use Rattle.std.proofs.Common.{◌≡◌, ℕ, suc, ◌≤◌, Bool, true, false, ◌&&◌, List, [], ◌∷◌, ◌++◌}
use Rattle.std.proofs.Common.{length, map, refl, sym, ap, ◌∙◌, subst, append_assoc, append-nil}
use Rattle.std.proofs.lemmas.List.Concat.{flat_map-append}
use Rattle.std.specs.List.{flat_map, list_all, AllByRecursion}
use Rattle.prolly_entry.specs.declared.version.Version.{Version}
use Rattle.prolly_entry.specs.Cut.{Cut}
use Rattle.prolly_tree.specs.Split.{split, split_after, is_closed, in_front}
use Rattle.prolly_tree.specs.Tree.{Tree, pairs_below, child_is_boundary, nodes}
use Rattle.prolly_tree.specs.Chunk.{Chunk, chunk_of, post_order, closed_post_order, is_closed_tree}
use Rattle.prolly_tree.specs.Events.{faulty, event_is_boundary, stage_events}
use Rattle.prolly_tree.specs.lemmas.Splits.{flat, as_group, closes, Open, AllEnd}
use Rattle.prolly_tree.proofs.splits.Parts.{parts, open_rest_of, step_true, step_false, split_ends}
use Rattle.prolly_tree.proofs.splits.Parts.{split_open, ends_closed, open_not_closed}
use Rattle.prolly_tree.proofs.stages.Streams.{NoLevel, none_append, stage_of_parts}
use Rattle.prolly_tree.proofs.trees.Forests.{post_blocks, AllClosed, closed_posts, not_closed_under}
use Rattle.prolly_tree.proofs.trees.Forests.{none_under}
use Rattle.prolly_tree.proofs.stages.Groups.{HavePairs, IsGood, good_groups, blocks_are, all_blocks}
use Rattle.prolly_tree.proofs.stages.Groups.{event_with}
use Rattle.prolly_entry.specs.lemmas.Lists.{all_back, all_front}

-- ---- the split of closed groups and what follows them

module _ {A : Type 0} (test : A → Bool) (least : ℕ) where
  flat_then_at : (gs : List (List A)) (more : List A) → AllEnd test least 0 gs →
      split_after test least 0 (flat gs ++ more) ≡ gs ++ split_after test least 0 more
  flat_then_at [] more h = refl
  flat_then_at (g ∷ gs) more h = ap (split_after test least 0) (append_assoc g (flat gs) more)
      ∙ split_ends test least 0 g (flat gs ++ more) h.0 ∙ ap (λ a. g ∷ a) (flat_then_at gs more h.1)

  one_alone : (before : ℕ) (x : A) (b : Bool) → closes test least before x ≡ b →
      split_after test least before (x ∷ []) ≡ (x ∷ []) ∷ []
  one_alone before x true e = step_true test least before x [] e
  one_alone before x false e = step_false test least before x [] e

  one_more : (before : ℕ) (xs : List A) (x : A) → Open test least before xs →
      split_after test least before (xs ++ x ∷ []) ≡ (xs ++ x ∷ []) ∷ []
  one_more before [] x h = one_alone before x (closes test least before x) refl
  one_more before (y ∷ ys) x h = step_false test least before y (ys ++ x ∷ []) h.0 ∙
      ap (in_front y) (one_more (suc before) ys x h.1)

module _ (cut : Cut) (version : Version) where
  -- none, or one tree that is not closed
  abbrev pub OneOpen : (level : ℕ) → List (Tree level) → Type 0
  OneOpen level [] = Unit {0}
  OneOpen level (t ∷ []) = is_closed_tree cut version level t ≡ false
  OneOpen level (t ∷ u ∷ ts) = ⊥

  -- all trees but the last are closed
  pub record Shape (level : ℕ) (ts : List (Tree level)) : Type 0 where
    pub front : List (Tree level)
    pub tail : List (Tree level)
    pub is : front ++ tail ≡ ts
    pub closed : AllClosed cut version level front
    pub opens : OneOpen level tail

module _ (cut : Cut) (version : Version) (level : ℕ) where
  abbrev ends : Tree level → Bool
  ends = child_is_boundary cut version level

  nodes_are : (gs : List (List (Tree level))) (rest tail : List (Tree level)) → AllEnd ends 2 0 gs →
      Open ends 2 0 rest → OneOpen cut version level tail →
      nodes cut version level (flat gs ++ (rest ++ tail)) ≡ gs ++ as_group (rest ++ tail)
  unfolding split
  nodes_are gs rest [] h o k = ap (λ r. nodes cut version level (flat gs ++ r)) (append-nil rest)
      ∙ flat_then_at ends 2 gs rest h ∙ ap (λ a. gs ++ a) (split_open ends 2 0 rest o) ∙
      ap (λ r. gs ++ as_group r) (sym (append-nil rest))
  nodes_are gs [] (t ∷ []) h o k = flat_then_at ends 2 gs (t ∷ []) h ∙
      ap (λ a. gs ++ a) (one_more ends 2 0 [] t o)
  nodes_are gs (r ∷ rest) (t ∷ []) h o k = flat_then_at ends 2 gs ((r ∷ rest) ++ t ∷ []) h ∙
      ap (λ a. gs ++ a) (one_more ends 2 0 (r ∷ rest) t o)
  nodes_are gs rest (t ∷ u ∷ ts) h o k = absurd k

  all_true : (ts : List (Tree level)) → AllClosed cut version level ts →
      list_all (is_closed_tree cut version level) ts ≡ true
  all_true [] h = refl
  all_true (t ∷ ts) h = rw h.0 (all_true ts h.1)

  groups_closed : (gs : List (List (Tree level))) (rest : List (Tree level)) → AllEnd ends 2 0 gs →
      AllClosed cut version level (flat gs ++ rest) → AllClosed cut version (suc level) gs
  groups_closed [] rest h k = tt
  groups_closed (g ∷ gs) rest h k =
      let k' : AllClosed cut version level (g ++ (flat gs ++ rest)) =
      subst (AllClosed cut version level) (append_assoc g (flat gs) rest) k in (
        rw (ends_closed ends 2 g h.0) (all_true g
            (all_front (λ t. is_closed_tree cut version level t ≡ true) g (flat gs ++ rest) k')),
        groups_closed gs rest h.1 (all_back (λ t. is_closed_tree cut version level t ≡ true) g
            (flat gs ++ rest) k'),
      )

  and_false : (b : Bool) → (b && false) ≡ false
  and_false true = refl
  and_false false = refl

  one_not_closed : (rest : List (Tree level)) (t : Tree level) →
      is_closed_tree cut version level t ≡ false →
      list_all (is_closed_tree cut version level) (rest ++ t ∷ []) ≡ false
  one_not_closed [] t h = rw h refl
  one_not_closed (r ∷ rest) t h = rw (one_not_closed rest t h)
      (and_false (is_closed_tree cut version level r))

  last_not_closed : (rest tail : List (Tree level)) → Open ends 2 0 rest →
      OneOpen cut version level tail → is_closed_tree cut version (suc level) (rest ++ tail) ≡ false
  last_not_closed rest [] o k = let e : is_closed ends 2 (rest ++ []) ≡ false =
      ap (is_closed ends 2) (append-nil rest) ∙ open_not_closed ends 2 rest o in rw e refl
  last_not_closed rest (t ∷ []) o k = rw (one_not_closed rest t k)
      (and_false (is_closed ends 2 (rest ++ t ∷ [])))
  last_not_closed rest (t ∷ u ∷ ts) o k = absurd k

  as_one_open : (z : List (Tree level)) → is_closed_tree cut version (suc level) z ≡ false →
      OneOpen cut version (suc level) (as_group z)
  as_one_open [] h = tt
  as_one_open (t ∷ ts) h = h

  walk_last : (z : List (Tree level)) → is_closed_tree cut version (suc level) z ≡ false →
      flat_map (closed_post_order cut version (suc level)) (as_group z) ≡
      flat_map (closed_post_order cut version level) z
  walk_last [] h = refl
  walk_last (t ∷ ts) h = rw h (append-nil (flat_map (closed_post_order cut version level)
      (t ∷ ts) ++ []) ∙ append-nil (flat_map (closed_post_order cut version level) (t ∷ ts)))

  none_in_tail : (tail : List (Tree level)) → OneOpen cut version level tail →
      NoLevel level (flat_map (closed_post_order cut version level) tail)
  none_in_tail [] h = tt
  none_in_tail (t ∷ []) h = none_append level (closed_post_order cut version level t) []
      (none_under level (closed_post_order cut version level t)
      (not_closed_under cut version level t h)) tt
  none_in_tail (t ∷ u ∷ ts) h = absurd h

  abbrev post : Tree level → List Chunk
  post = post_order version level

  abbrev kept : Tree level → List Chunk
  kept = closed_post_order cut version level

  nodes_shape_parts : (gs : List (List (Tree level))) (rest tail : List (Tree level)) →
      AllEnd ends 2 0 gs → Open ends 2 0 rest →
      AllClosed cut version level (flat gs ++ rest) → OneOpen cut version level tail →
      Shape cut version (suc level) (nodes cut version level ((flat gs ++ rest) ++ tail))
  nodes_shape_parts gs rest tail h o closed k = record {
    front = gs;
    tail = as_group (rest ++ tail);
    is = sym (ap (nodes cut version level) (append_assoc (flat gs) rest tail) ∙
        nodes_are gs rest tail h o k);
    closed = groups_closed gs rest h closed;
    opens = as_one_open (rest ++ tail) (last_not_closed rest tail o k);
  }

  pub nodes_shape : (ts : List (Tree level)) → Shape cut version level ts →
      Shape cut version (suc level) (nodes cut version level ts)
  nodes_shape ts s =
      let p = parts ends 2 s.front in
      let e : (flat p.groups ++ p.rest) ++ s.tail ≡ ts = ap (λ a. a ++ s.tail) p.whole ∙ s.is in
      subst (λ xs. Shape cut version (suc level) (nodes cut version level xs)) e
      (nodes_shape_parts p.groups p.rest s.tail p.ends (open_rest_of ends 2 s.front p)
      (subst (AllClosed cut version level) (sym p.whole) s.closed) s.opens)

  module _ (cap : ℕ → ℕ) (most : ℕ) (capped : (n : ℕ) → n ≤ most → cap n ≡ n) where
    abbrev event : List Chunk → Chunk
    event = event_with cap version (suc level)

    fault_parts : (gs : List (List (Tree level))) (rest tail : List (Tree level)) →
        AllEnd ends 2 0 gs → Open ends 2 0 rest →
        AllClosed cut version level (flat gs ++ rest) → OneOpen cut version level tail →
        AllByRecursion (IsGood cut version level most) gs →
        stage_events (event_is_boundary cut version) event level faulty
        (flat_map kept ((flat gs ++ rest) ++ tail))
        ≡ flat_map (closed_post_order cut version (suc level))
        (nodes cut version level ((flat gs ++ rest) ++ tail))
    fault_parts gs rest tail h o closed k good =
        let closed_rest : AllClosed cut version level rest =
        all_back (λ t. is_closed_tree cut version level t ≡ true) (flat gs) rest closed in
        let laid : flat_map kept ((flat gs ++ rest) ++ tail) ≡ flat_map post (flat gs ++ rest) ++
        flat_map kept tail =
        flat_map-append kept (flat gs ++ rest) tail ∙
        ap (λ a. a ++ flat_map kept tail)
        (closed_posts cut version level (flat gs ++ rest) closed) in
        let last : flat_map post rest ++ flat_map kept tail ≡
        flat_map (closed_post_order cut version (suc level)) (as_group (rest ++ tail)) =
        ap (λ a. a ++ flat_map kept tail) (sym (closed_posts cut version level rest closed_rest)) ∙
        sym (flat_map-append kept rest tail)
        ∙ sym (walk_last (rest ++ tail) (last_not_closed rest tail o k)) in
        let firsts : flat_map (post_order version (suc level)) gs ≡
        flat_map (closed_post_order cut version (suc level)) gs =
        sym (closed_posts cut version (suc level) gs (groups_closed gs rest h closed)) in
        ap (stage_events (event_is_boundary cut version) event level faulty) laid
        ∙ stage_of_parts level post (chunk_of version level) (event_is_boundary cut version) event
        faulty gs rest (flat_map kept tail) h o
        (all_blocks cut version level cap most capped gs) (post_blocks version level rest)
        (none_in_tail tail k)
        ∙ append-nil (flat_map (λ g. flat_map post g ++ event (map (chunk_of version level) g) ∷ [])
        gs ++ (flat_map post rest ++ flat_map kept tail))
        ∙ ap (λ a. a ++ (flat_map post rest ++ flat_map kept tail))
        (blocks_are cut version level cap most capped gs good ∙ firsts)
        ∙ ap (λ a. flat_map (closed_post_order cut version (suc level)) gs ++ a) last
        ∙ sym (flat_map-append (closed_post_order cut version (suc level)) gs
        (as_group (rest ++ tail)))
        ∙ ap (flat_map (closed_post_order cut version (suc level)))
        (sym (ap (nodes cut version level) (append_assoc (flat gs) rest tail) ∙
        nodes_are gs rest tail h o k))

    -- at a fault a stage makes of the closed chunks of a forest those of its nodes
    pub fault_step : (ts : List (Tree level)) → Shape cut version level ts → HavePairs level ts →
        length (flat_map (pairs_below level) ts) ≤ most →
        stage_events (event_is_boundary cut version) event level faulty (flat_map kept ts) ≡
        flat_map (closed_post_order cut version (suc level)) (nodes cut version level ts)
    fault_step ts s have few =
        let p = parts ends 2 s.front in
        let e : (flat p.groups ++ p.rest) ++ s.tail ≡ ts = ap (λ a. a ++ s.tail) p.whole ∙ s.is in
        let e' : flat p.groups ++ (p.rest ++ s.tail) ≡ ts =
        sym (append_assoc (flat p.groups) p.rest s.tail) ∙ e in
        subst (λ xs. stage_events (event_is_boundary cut version) event level faulty
        (flat_map kept xs) ≡ flat_map (closed_post_order cut version (suc level))
        (nodes cut version level xs)) e
        (fault_parts p.groups p.rest s.tail p.ends (open_rest_of ends 2 s.front p)
        (subst (AllClosed cut version level) (sym p.whole) s.closed) s.opens
        (good_groups cut version level p.groups (p.rest ++ s.tail) most
        (subst (HavePairs level) (sym e') have)
        (subst (λ xs. length (flat_map (pairs_below level) xs) ≤ most) (sym e') few)))
