-- The chunks of a map are all different as bytes.
use Rattle.std.proofs.Common.{◌≡◌, ℕ, zero, suc, ◌<◌, ◌≤◌, inl, inr, List, [], ◌∷◌, ◌++◌, length}
use Rattle.std.proofs.Common.{refl, sym, ap, ◌∙◌, subst, arith, append_assoc}
use Rattle.std.specs.List.{flat_map, AllByRecursion}
use Rattle.prolly_entry.specs.Pair.{Pair, IsPair}
use Rattle.prolly_entry.specs.declared.version.Version.{Version}
use Rattle.prolly_entry.specs.Cut.{Cut}
use Rattle.prolly_entry.specs.Keys.{KeyBelow}
use Rattle.prolly_entry.specs.Spelling.{key_spelling, value_spelling, child_spelling}
use Rattle.prolly_entry.specs.Spelling.{count_spelling}
use Rattle.prolly_entry.specs.Reference.{reference_of}
use Rattle.prolly_tree.specs.Split.{split}
use Rattle.prolly_tree.specs.Tree.{Tree, grow, grow_within, nodes, child_is_boundary}
use Rattle.prolly_tree.specs.Tree.{pair_is_boundary, leaves, leaves_of, bytes_of, pairs_below}
use Rattle.prolly_tree.specs.Tree.{greatest_key, pair_count, last_key, tree_of}
use Rattle.prolly_tree.specs.Chunk.{Chunk, chunk_of, post_order, AllDiffer, ChunksDiffer}
use Rattle.prolly_tree.specs.lemmas.Splits.{flat}
use Rattle.prolly_tree.proofs.splits.Splits.{split_splits}
use Rattle.prolly_entry.specs.lemmas.Lists.{all_front, all_append, head_is, tail_is, all_back}
use Rattle.prolly_tree.proofs.trees.Forests.{AllUnder, post_under, under_append}
use Rattle.prolly_entry.specs.lemmas.Spellings.{key_apart}
use Rattle.prolly_tree.specs.lemmas.Maps.{last_key_short, HasKey, has_last, rises, rises_front}
use Rattle.prolly_tree.specs.lemmas.Maps.{rises_back, above_key, Rises}
use Rattle.prolly_entry.specs.lemmas.Orders.{less_self}
use Rattle.prolly_tree.proofs.trees.Sizes.{pairs_are}
use Rattle.prolly_tree.specs.lemmas.Trees.{full_pairs, Full}

-- ---- keys of pairs

pub key_front : (key : List ℕ) (ps qs : List Pair) → HasKey key ps → HasKey key (ps ++ qs)
key_front key [] qs h = absurd h
key_front key (p ∷ ps) qs (inl e) = inl e
key_front key (p ∷ ps) qs (inr h) = inr (key_front key ps qs h)

pub key_back : (key : List ℕ) (ps qs : List Pair) → HasKey key qs → HasKey key (ps ++ qs)
key_back key [] qs h = h
key_back key (p ∷ ps) qs h = inr (key_back key ps qs h)

pub keys_apart : (key other : List ℕ) (ps qs : List Pair) → Rises (ps ++ qs) → HasKey key ps →
    HasKey other qs → KeyBelow key other
keys_apart key other [] qs h k l = absurd k
keys_apart key other (p ∷ ps) qs h (inl e) l =
    subst (λ x. KeyBelow x other) (sym e) (above_key p.key other qs
    (all_back (λ q. KeyBelow p.key q.key) ps qs h.0) l)
keys_apart key other (p ∷ ps) qs h (inr k) l = keys_apart key other ps qs h.1 k l

-- ---- the first key of a chunk is one of a pair below it

record Says (ps : List Pair) (c : Chunk) : Type 0 where
  key : List ℕ
  rest : List ℕ
  is : c.bytes ≡ c.level ∷ (key_spelling key ++ rest)
  short : length key ≤ 1024
  among : HasKey key ps

says_more : (ps qs : List Pair) (cs : List Chunk) →
    ((key : List ℕ) → HasKey key ps → HasKey key qs) → AllByRecursion (Says ps) cs →
    AllByRecursion (Says qs) cs
says_more ps qs [] f h = tt
says_more ps qs (c ∷ cs) f h = (
  record {
    key = h.0.key;
    rest = h.0.rest;
    is = h.0.is;
    short = h.0.short;
    among = f h.0.key h.0.among;
  },
  says_more ps qs cs f h.1,
)

full_key : (level : ℕ) (t : Tree level) → Full level t →
    HasKey (greatest_key level t) (pairs_below level t)
full_key level t h = let r = full_pairs level t h in
    subst (λ ps. HasKey (last_key ps) ps) (sym r.1.1) (has_last r.0 r.1.0)

module _ (version : Version) where
  own_says : (level : ℕ) (t : Tree level) → Full level t →
      AllByRecursion IsPair (pairs_below level t) →
      Says (pairs_below level t) (chunk_of version level t)
  own_says zero [] h k = absurd (omega arith)
  own_says zero (p ∷ ps) h k = record {
    key = p.key;
    rest = value_spelling p.value ++ flat_map (λ p. key_spelling p.key ++ value_spelling p.value)
        ps;
    is = ap (λ x. 0 ∷ x) (append_assoc (key_spelling p.key) (value_spelling p.value)
        (flat_map (λ p. key_spelling p.key ++ value_spelling p.value) ps));
    short = k.0.key;
    among = inl refl;
  }
  own_says (suc level) [] h k = absurd (let z : 0 < 0 = h.0 in omega arith)
  own_says (suc level) (t ∷ ts) h k =
      let key = greatest_key level t in
      let more = reference_of (bytes_of version level t) ++ count_spelling version
      (pair_count level t) in
      let others = flat_map (λ child. child_spelling version (greatest_key level child)
      (reference_of (bytes_of version level child)) (pair_count level child)) ts in
      record {
        key = key;
        rest = more ++ others;
        is = ap (λ x. suc level ∷ x) (ap (λ x. x ++ others)
            (append_assoc (key_spelling key) (reference_of (bytes_of version level t))
            (count_spelling version (pair_count level t))) ∙
            append_assoc (key_spelling key) more others);
        short = last_key_short (pairs_below level t)
            (all_front IsPair (pairs_below level t) (flat_map (pairs_below level) ts) k);
        among = key_front key (pairs_below level t) (flat_map (pairs_below level) ts)
            (full_key level t h.1.0);
      }

  all_say : (level : ℕ) → ((t : Tree level) → Full level t →
      AllByRecursion IsPair (pairs_below level t) →
      AllByRecursion (Says (pairs_below level t)) (post_order version level t)) →
      (ts : List (Tree level)) → AllByRecursion (Full level) ts →
      AllByRecursion IsPair (flat_map (pairs_below level) ts) →
      AllByRecursion (Says (flat_map (pairs_below level) ts))
      (flat_map (post_order version level) ts)
  all_say level say [] h k = tt
  all_say level say (t ∷ ts) h k =
      let a = pairs_below level t in
      let b = flat_map (pairs_below level) ts in
      all_append (Says (a ++ b)) (post_order version level t)
      (flat_map (post_order version level) ts)
      (says_more a (a ++ b) (post_order version level t) (λ key. key_front key a b)
      (say t h.0 (all_front IsPair a b k)))
      (says_more b (a ++ b) (flat_map (post_order version level) ts) (λ key. key_back key a b)
      (all_say level say ts h.1 (all_back IsPair a b k)))

  post_says : (level : ℕ) (t : Tree level) → Full level t →
      AllByRecursion IsPair (pairs_below level t) →
      AllByRecursion (Says (pairs_below level t)) (post_order version level t)
  post_says zero t h k = (own_says 0 t h k, tt)
  post_says (suc level) ts h k = all_append (Says (flat_map (pairs_below level) ts))
      (flat_map (post_order version level) ts) (chunk_of version (suc level) ts ∷ [])
      (all_say level (post_says level) ts h.1 k) (own_says (suc level) ts h k, tt)

-- ---- chunks that say different keys, or are of different levels, are different

abbrev DiffersFrom : List Chunk → Chunk → Type 0
DiffersFrom ds c = AllByRecursion (λ d. c.bytes ≡ d.bytes → ⊥) ds

differ_append : (cs ds : List Chunk) → AllDiffer cs → AllDiffer ds →
    AllByRecursion (DiffersFrom ds) cs → AllDiffer (cs ++ ds)
differ_append [] ds h k l = k
differ_append (c ∷ cs) ds h k l = (
  all_append (λ d. c.bytes ≡ d.bytes → ⊥) cs ds h.0 l.0,
  differ_append cs ds h.1 k l.1,
)

says_differ : (ps qs : List Pair) (c d : Chunk) → Rises (ps ++ qs) → Says ps c → Says qs d →
    c.bytes ≡ d.bytes → ⊥
says_differ ps qs c d h s t e =
    let f : c.level ∷ (key_spelling s.key ++ s.rest) ≡ d.level ∷ (key_spelling t.key ++ t.rest) =
    sym s.is ∙ e ∙ t.is in
    let r = key_apart s.key t.key s.rest t.rest s.short t.short
    (tail_is c.level d.level (key_spelling s.key ++ s.rest) (key_spelling t.key ++ t.rest) f) in
    less_self t.key (subst (λ x. KeyBelow x t.key) r.front
    (keys_apart s.key t.key ps qs h s.among t.among))

says_differ_all : (ps qs : List Pair) (c : Chunk) (ds : List Chunk) → Rises (ps ++ qs) → Says ps c →
    AllByRecursion (Says qs) ds → DiffersFrom ds c
says_differ_all ps qs c [] h s t = tt
says_differ_all ps qs c (d ∷ ds) h s t = (
  says_differ ps qs c d h s t.0,
  says_differ_all ps qs c ds h s t.1,
)

all_differ : (ps qs : List Pair) (cs ds : List Chunk) → Rises (ps ++ qs) →
    AllByRecursion (Says ps) cs → AllByRecursion (Says qs) ds → AllByRecursion (DiffersFrom ds) cs
all_differ ps qs [] ds h s t = tt
all_differ ps qs (c ∷ cs) ds h s t = (
  says_differ_all ps qs c ds h s.0 t,
  all_differ ps qs cs ds h s.1 t,
)

top_differs : (ps : List Pair) (level : ℕ) (entries : List ℕ) (top : Chunk) (cs : List Chunk) →
    top.bytes ≡ level ∷ entries → AllUnder level cs → AllByRecursion (Says ps) cs →
    AllByRecursion (DiffersFrom (top ∷ [])) cs
top_differs ps level entries top [] e u s = tt
top_differs ps level entries top (c ∷ cs) e u s = (
  (
    λ f. let same : c.level ≡ level = head_is c.level level (key_spelling s.0.key ++ s.0.rest) entries
        (sym s.0.is ∙ f ∙ e) in let under : c.level < level = u.0 in absurd (omega arith),
    tt,
  ),
  top_differs ps level entries top cs e u.1 s.1,
)

module _ (version : Version) where
  under_all : (level : ℕ) (ts : List (Tree level)) →
      AllUnder (suc level) (flat_map (post_order version level) ts)
  under_all level [] = tt
  under_all level (t ∷ ts) = under_append (suc level) (post_order version level t)
      (flat_map (post_order version level) ts) (post_under version level t) (under_all level ts)

  abbrev Differ : ℕ → Type 0
  Differ level = (t : Tree level) → Full level t → AllByRecursion IsPair (pairs_below level t) →
      Rises (pairs_below level t) → AllDiffer (post_order version level t)

  children_differ : (level : ℕ) → Differ level → (ts : List (Tree level)) →
      AllByRecursion (Full level) ts → AllByRecursion IsPair (flat_map (pairs_below level) ts) →
      Rises (flat_map (pairs_below level) ts) → AllDiffer (flat_map (post_order version level) ts)
  children_differ level d [] h k r = tt
  children_differ level d (t ∷ ts) h k r =
      let a = pairs_below level t in
      let b = flat_map (pairs_below level) ts in
      differ_append (post_order version level t) (flat_map (post_order version level) ts)
      (d t h.0 (all_front IsPair a b k) (rises_front a b r))
      (children_differ level d ts h.1 (all_back IsPair a b k) (rises_back a b r))
      (all_differ a b (post_order version level t) (flat_map (post_order version level) ts) r
      (post_says version level t h.0 (all_front IsPair a b k))
      (all_say version level (post_says version level) ts h.1 (all_back IsPair a b k)))

  tree_differs : (level : ℕ) → Differ level
  tree_differs zero t h k r = (tt, tt)
  tree_differs (suc level) ts h k r =
      differ_append (flat_map (post_order version level) ts) (chunk_of version (suc level) ts ∷ [])
      (children_differ level (tree_differs level) ts h.1 k r) (tt, tt)
      (top_differs (flat_map (pairs_below level) ts) (suc level) _ (chunk_of version (suc level) ts)
      (flat_map (post_order version level) ts) refl
      (under_all level ts) (all_say version level (post_says version level) ts h.1 k))

-- ---- the tree of a map that is not empty is full

module _ (cut : Cut) (version : Version) where
  full_groups : (level : ℕ) (groups : List (List (Tree level))) →
      AllByRecursion (λ g. 0 < length g) groups → AllByRecursion (Full level) (flat groups) →
      AllByRecursion (Full (suc level)) groups
  full_groups level [] some h = tt
  full_groups level (g ∷ gs) some h = (
    (some.0, all_front (Full level) g (flat gs) h),
    full_groups level gs some.1 (all_back (Full level) g (flat gs) h),
  )

  full_nodes : (level : ℕ) (ts : List (Tree level)) → AllByRecursion (Full level) ts →
      AllByRecursion (Full (suc level)) (nodes cut version level ts)
  full_nodes level ts h = let s = split_splits (child_is_boundary cut version level) 2 ts in
      full_groups level (nodes cut version level ts) s.nonempty
      (subst (AllByRecursion (Full level)) (sym s.whole) h)

  some_groups : {A : Type 0} (groups : List (List A)) → 0 < length (flat groups) → 0 < length groups
  some_groups [] h = h
  some_groups (g ∷ gs) h = omega arith

  full_within : (steps level : ℕ) (ts : List (Tree level)) → 0 < length ts →
      AllByRecursion (Full level) ts →
      Full (grow_within steps cut version level ts).level
      (grow_within steps cut version level ts).tree
  full_within steps level [] some h = absurd (omega arith)
  full_within steps level (t ∷ []) some h = h.0
  full_within zero level (t ∷ u ∷ ts) some h = h.0
  full_within (suc steps) level (t ∷ u ∷ ts) some h =
      let s = split_splits (child_is_boundary cut version level) 2 (t ∷ u ∷ ts) in
      full_within steps (suc level) (nodes cut version level (t ∷ u ∷ ts))
      (some_groups (nodes cut version level (t ∷ u ∷ ts))
      (subst (λ xs. 0 < length xs) (sym s.whole) some))
      (full_nodes level (t ∷ u ∷ ts) h)

  full_leaves : (groups : List (List Pair)) → AllByRecursion (λ g. 0 < length g) groups →
      0 < length groups → AllByRecursion (Full 0) (leaves_of groups)
  full_leaves [] h some = absurd (omega arith)
  full_leaves (g ∷ gs) h some = h

  some_leaves : (groups : List (List Pair)) → 0 < length (leaves_of groups)
  some_leaves [] = omega arith
  some_leaves (g ∷ gs) = omega arith

  pub tree_full : (p : Pair) (m : List Pair) →
      Full (tree_of cut version (p ∷ m)).level (tree_of cut version (p ∷ m)).tree
  unfolding grow
  tree_full p m =
      let s = split_splits (pair_is_boundary cut) 1 (p ∷ m) in
      let groups = split (pair_is_boundary cut) 1 (p ∷ m) in
      let some : 0 < length (p ∷ m) = omega arith in
      full_within (length (leaves cut (p ∷ m))) 0 (leaves cut (p ∷ m)) (some_leaves groups)
      (full_leaves groups s.nonempty (some_groups groups
      (subst (λ xs. 0 < length xs) (sym s.whole) some)))

  pub chunks_differ : ChunksDiffer cut version
  unfolding split grow
  chunks_differ [] h r = (tt, tt)
  chunks_differ (p ∷ m) h r =
      let e : pairs_below (tree_of cut version (p ∷ m)).level (tree_of cut version (p ∷ m)).tree ≡
      p ∷ m = pairs_are cut version (p ∷ m) in
      tree_differs version (tree_of cut version (p ∷ m)).level (tree_of cut version (p ∷ m)).tree
      (tree_full p m)
      (subst (AllByRecursion IsPair) (sym e) h) (subst Rises (sym e) (rises (p ∷ m) r))
