-- A file decides its version, its bits and its map.
use Rattle.std.proofs.Common.{◌≡◌, ℕ, zero, suc, ◌+◌, ◌*◌, ◌^◌, ◌<◌, ◌≤◌, List, [], ◌∷◌, ◌++◌}
use Rattle.std.proofs.Common.{length, refl, sym, ap, ◌∙◌, subst, arith, append_assoc, append-nil}
use Rattle.std.specs.Int.{w64, to_be_bytes}
use Rattle.std.proofs.lemmas.List.{length-append}
use Rattle.std.proofs.lemmas.List.Concat.{flat_map-append}
use Rattle.std.specs.List.{flat_map, AllByRecursion}
use Rattle.prolly_entry.specs.Pair.{Pair, IsPair}
use Rattle.prolly_entry.specs.declared.version.Version.{Version}
use Rattle.prolly_entry.specs.declared.version.Version.TheVariants.{One, Two}
use Rattle.prolly_entry.specs.Cut.{Cut}
use Rattle.prolly_entry.specs.Spelling.{pair_spelling, child_spelling, count_spelling, key_spelling}
use Rattle.prolly_entry.specs.Spelling.{value_spelling}
use Rattle.prolly_entry.specs.Reference.{reference_of}
use Rattle.prolly_tree.specs.Split.{split}
use Rattle.prolly_tree.specs.Tree.{Tree, grow, grow_within, nodes, child_is_boundary}
use Rattle.prolly_tree.specs.Tree.{pair_is_boundary, leaves, leaves_of, bytes_of, pairs_below}
use Rattle.prolly_tree.specs.Tree.{greatest_key, pair_count, tree_of}
use Rattle.prolly_tree.specs.Chunk.{Chunk, chunk_of, post_order, chunks}
use Rattle.prolly_tree.specs.File.{root_reference, frame, header, end_record, FileDecidesMap}
use Rattle.prolly_entry.specs.Version.{version_byte}
use Rattle.prolly_tree.specs.lemmas.Splits.{flat}
use Rattle.prolly_tree.proofs.splits.Splits.{split_splits}
use Rattle.prolly_entry.specs.lemmas.Lists.{all_front, all_append, apart, head_is, tail_is, all_back}
use Rattle.prolly_tree.proofs.stages.Groups.{nodes_pairs}
use Rattle.prolly_tree.proofs.trees.Growth.{fewer}
use Rattle.prolly_tree.specs.lemmas.Maps.{leaf_same, last_key_short}
use Rattle.prolly_entry.specs.lemmas.Spellings.{reference_length, eight_bytes}
use Rattle.prolly_tree.proofs.trees.Sizes.{pairs_are, count_groups}

Small : Chunk → Type 0
Small c = length c.bytes < 2 ^ 64

-- ---- the frames tell the chunks' bytes

payload : List ℕ → List ℕ
payload [] = []
payload (zero ∷ rest) = rest
payload (suc level ∷ rest) = []

payloads : List Chunk → List ℕ
payloads cs = flat_map (λ c. payload c.bytes) cs

frames_tell : (cs ds : List Chunk) (x y : List ℕ) → AllByRecursion Small cs →
    AllByRecursion Small ds →
    flat_map frame cs ++ 0x45 ∷ x ≡ flat_map frame ds ++ 0x45 ∷ y → payloads cs ≡ payloads ds
unfolding Small payloads
frames_tell [] [] x y h k e = refl
frames_tell [] (d ∷ ds) x y h k e = absurd (let z : 0x45 ≡ 0x43 = head_is 0x45 0x43 x
    ((to_be_bytes w64 (length d.bytes) ++ d.bytes ++ flat_map frame ds) ++ 0x45 ∷ y) e in
    omega arith)
frames_tell (c ∷ cs) [] x y h k e = absurd (let z : 0x43 ≡ 0x45 = head_is 0x43 0x45
    ((to_be_bytes w64 (length c.bytes) ++ c.bytes ++ flat_map frame cs) ++ 0x45 ∷ x) y e in
    omega arith)
frames_tell (c ∷ cs) (d ∷ ds) x y h k e =
    let more = flat_map frame cs ++ 0x45 ∷ x in
    let more' = flat_map frame ds ++ 0x45 ∷ y in
    let f : 0x43 ∷ (to_be_bytes w64 (length c.bytes) ++ (c.bytes ++ more)) ≡
    0x43 ∷ (to_be_bytes w64 (length d.bytes) ++ (d.bytes ++ more')) =
    sym (append_assoc (frame c) (flat_map frame cs) (0x45 ∷ x) ∙
    append_assoc (0x43 ∷ to_be_bytes w64 (length c.bytes)) c.bytes more)
    ∙ e ∙ (append_assoc (frame d) (flat_map frame ds) (0x45 ∷ y) ∙
    append_assoc (0x43 ∷ to_be_bytes w64 (length d.bytes)) d.bytes more') in
    let n = apart (to_be_bytes w64 (length c.bytes)) (to_be_bytes w64 (length d.bytes))
    (c.bytes ++ more) (d.bytes ++ more') refl
    (tail_is 0x43 0x43 (to_be_bytes w64 (length c.bytes) ++ (c.bytes ++ more))
    (to_be_bytes w64 (length d.bytes) ++ (d.bytes ++ more')) f) in
    let b = apart c.bytes d.bytes more more' (eight_bytes (length c.bytes) (length d.bytes) h.0 k.0
    n.front) n.rest in
    ap (λ z. payload z ++ payloads cs) b.front ∙
    ap (λ z. payload d.bytes ++ z) (frames_tell cs ds x y h.1 k.1 b.rest)

module _ (version : Version) where
  payloads_all : (level : ℕ) → ((t : Tree level) →
      payloads (post_order version level t) ≡ flat_map pair_spelling (pairs_below level t)) →
      (ts : List (Tree level)) → payloads (flat_map (post_order version level) ts) ≡
      flat_map pair_spelling (flat_map (pairs_below level) ts)
  unfolding payloads
  payloads_all level h [] = refl
  payloads_all level h (t ∷ ts) = flat_map-append (λ c. payload c.bytes)
      (post_order version level t) (flat_map (post_order version level) ts)
      ∙ ap (λ a. a ++ payloads (flat_map (post_order version level) ts)) (h t)
      ∙ ap (λ a. flat_map pair_spelling (pairs_below level t) ++ a) (payloads_all level h ts)
      ∙ sym (flat_map-append pair_spelling (pairs_below level t) (flat_map (pairs_below level) ts))

  payloads_are : (level : ℕ) (t : Tree level) →
      payloads (post_order version level t) ≡ flat_map pair_spelling (pairs_below level t)
  unfolding payloads payload
  payloads_are zero t = append-nil (flat_map pair_spelling t)
  payloads_are (suc level) ts = flat_map-append (λ c. payload c.bytes)
      (flat_map (post_order version level) ts) (chunk_of version (suc level) ts ∷ [])
      ∙ append-nil (payloads (flat_map (post_order version level) ts)) ∙
      payloads_all level (payloads_are level) ts

-- ---- no chunk is long

pairs_length : (ps : List Pair) → AllByRecursion IsPair ps →
    length (flat_map pair_spelling ps) ≤ 66566 * length ps
pairs_length [] h = omega arith
pairs_length (p ∷ ps) h =
    let key : length p.key ≤ 1024 = h.0.key in
    let value : length p.value ≤ 65536 = h.0.value in
    let more : length (flat_map pair_spelling ps) ≤ 66566 * length ps = pairs_length ps h.1 in
    let a : length (pair_spelling p) ≡ suc (suc (length p.key)) +
    suc (suc (suc (suc (length p.value)))) =
    length-append (key_spelling p.key) (value_spelling p.value) in
    let b : length (pair_spelling p ++ flat_map pair_spelling ps) ≡ length (pair_spelling p) +
    length (flat_map pair_spelling ps) = length-append (pair_spelling p)
    (flat_map pair_spelling ps) in
    omega arith

count_length : (version : Version) (n : ℕ) → length (count_spelling version n) ≤ 8
count_length One n = omega arith
count_length Two n = omega arith

module _ (version : Version) (level : ℕ) where
  abbrev entry : Tree level → List ℕ
  entry child = child_spelling version (greatest_key level child)
      (reference_of (bytes_of version level child)) (pair_count level child)

  entries_length : (ts : List (Tree level)) →
      AllByRecursion IsPair (flat_map (pairs_below level) ts) →
      length (flat_map entry ts) ≤ 1054 * length ts
  entries_length [] h = omega arith
  entries_length (t ∷ ts) h =
      let key : length (greatest_key level t) ≤ 1024 =
      last_key_short (pairs_below level t)
      (all_front IsPair (pairs_below level t) (flat_map (pairs_below level) ts) h) in
      let more : length (flat_map entry ts) ≤ 1054 * length ts =
      entries_length ts (all_back IsPair (pairs_below level t) (flat_map (pairs_below level) ts)
      h) in
      let r : length (reference_of (bytes_of version level t)) ≡ 20 =
      reference_length (bytes_of version level t) in
      let n : length (count_spelling version (pair_count level t)) ≤ 8 =
      count_length version (pair_count level t) in
      let a : length (entry t) ≡ (suc (suc (length (greatest_key level t))) +
      length (reference_of (bytes_of version level t))) +
      length (count_spelling version (pair_count level t)) =
      length-append ((0 ∷ 0 ∷ greatest_key level t) ++ reference_of (bytes_of version level t))
      (count_spelling version (pair_count level t))
      ∙ ap (λ z. z + length (count_spelling version (pair_count level t)))
      (length-append (0 ∷ 0 ∷ greatest_key level t) (reference_of (bytes_of version level t)))
      in
      let b : length (entry t ++ flat_map entry ts) ≡ length (entry t) + length (flat_map entry ts)
      = length-append (entry t) (flat_map entry ts) in
      omega arith

in_flat : {A : Type 0} (groups : List (List A)) (n : ℕ) → length (flat groups) ≤ n →
    AllByRecursion (λ g. length g ≤ n) groups
in_flat [] n h = tt
in_flat (g ∷ gs) n h = let s : length (flat (g ∷ gs)) ≡ length g + length (flat gs) =
    length-append g (flat gs) in (omega arith, in_flat gs n (omega arith))

some_groups : {A : Type 0} (groups : List (List A)) → 0 < length (flat groups) → 0 < length groups
some_groups [] h = h
some_groups (g ∷ gs) h = omega arith

module _ (cut : Cut) (version : Version) where
  small_nodes : (level : ℕ) (groups : List (List (Tree level))) →
      AllByRecursion (λ g. length g ≤ 2 ^ 40) groups →
      AllByRecursion IsPair (flat_map (pairs_below level) (flat groups)) →
      AllByRecursion Small (flat_map (post_order version level) (flat groups)) →
      AllByRecursion Small (flat_map (post_order version (suc level)) groups)
  unfolding Small
  small_nodes level [] few h k = tt
  small_nodes level (g ∷ gs) few h k =
      let h' = subst (AllByRecursion IsPair) (flat_map-append (pairs_below level) g (flat gs)) h in
      let k' = subst (AllByRecursion Small) (flat_map-append (post_order version level) g (flat gs))
      k in
      let n : length (flat_map (entry version level) g) ≤ 1054 * length g =
      entries_length version level g (all_front IsPair (flat_map (pairs_below level) g)
      (flat_map (pairs_below level) (flat gs)) h') in
      let l : length g ≤ 2 ^ 40 = few.0 in
      all_append Small (post_order version (suc level) g)
      (flat_map (post_order version (suc level)) gs)
      (all_append Small (flat_map (post_order version level) g)
      (chunk_of version (suc level) g ∷ [])
      (all_front Small (flat_map (post_order version level) g)
      (flat_map (post_order version level) (flat gs)) k') (omega arith, tt))
      (small_nodes level gs few.1 (all_back IsPair (flat_map (pairs_below level) g)
      (flat_map (pairs_below level) (flat gs)) h')
      (all_back Small (flat_map (post_order version level) g)
      (flat_map (post_order version level) (flat gs)) k'))

  small_within : (steps level : ℕ) (ts : List (Tree level)) → length ts ≤ 2 ^ 40 →
      AllByRecursion IsPair (flat_map (pairs_below level) ts) →
      AllByRecursion Small (flat_map (post_order version level) ts) → 0 < length ts →
      AllByRecursion Small (post_order version (grow_within steps cut version level ts).level
      (grow_within steps cut version level ts).tree)
  small_within steps level [] few h k some = absurd (omega arith)
  small_within steps level (t ∷ []) few h k some = all_front Small (post_order version level t) [] k
  small_within zero level (t ∷ u ∷ ts) few h k some =
      all_front Small (post_order version level t) (flat_map (post_order version level) (u ∷ ts)) k
  small_within (suc steps) level (t ∷ u ∷ ts) few h k some =
      let ns = nodes cut version level (t ∷ u ∷ ts) in
      let s = split_splits (child_is_boundary cut version level) 2 (t ∷ u ∷ ts) in
      let less : length ns < suc (suc (length ts)) = fewer cut version level t u ts in
      let few' : suc (suc (length ts)) ≤ 2 ^ 40 = few in
      small_within steps (suc level) ns (omega arith)
      (subst (AllByRecursion IsPair) (sym (nodes_pairs cut version level (t ∷ u ∷ ts))) h)
      (small_nodes level ns (in_flat ns (2 ^ 40)
      (subst (λ xs. length xs ≤ 2 ^ 40) (sym s.whole) few))
      (subst (λ xs. AllByRecursion IsPair (flat_map (pairs_below level) xs)) (sym s.whole) h)
      (subst (λ xs. AllByRecursion Small (flat_map (post_order version level) xs)) (sym s.whole) k))
      (some_groups ns (subst (λ xs. 0 < length xs) (sym s.whole) some))

  small_leaves : (groups : List (List Pair)) → AllByRecursion (λ g. length g ≤ 2 ^ 40) groups →
      AllByRecursion IsPair (flat groups) →
      AllByRecursion Small (flat_map (post_order version 0) groups)
  unfolding Small
  small_leaves [] few h = tt
  small_leaves (g ∷ gs) few h =
      let n : length (flat_map pair_spelling g) ≤ 66566 * length g =
      pairs_length g (all_front IsPair g (flat gs) h) in
      let l : length g ≤ 2 ^ 40 = few.0 in
      (omega arith, small_leaves gs few.1 (all_back IsPair g (flat gs) h))

  leaf_all : (groups : List (List Pair)) → length groups ≤ length (flat groups) →
      length (flat groups) < 2 ^ 40 → AllByRecursion IsPair (flat groups) →
      AllByRecursion Small (flat_map (post_order version 0) (leaves_of groups)) ×
      (length (leaves_of groups) ≤ 2 ^ 40)
  unfolding Small
  leaf_all [] few n h = ((omega arith, tt), omega arith)
  leaf_all (g ∷ gs) few n h = (
    small_leaves (g ∷ gs) (in_flat (g ∷ gs) (2 ^ 40) (omega arith)) h,
    omega arith,
  )

  leaf_pairs : (groups : List (List Pair)) → AllByRecursion IsPair (flat groups) →
      AllByRecursion IsPair (flat_map (pairs_below 0) (leaves_of groups))
  leaf_pairs [] h = h
  leaf_pairs (g ∷ gs) h = h

  leaf_some : (groups : List (List Pair)) → 0 < length (leaves_of groups)
  leaf_some [] = omega arith
  leaf_some (g ∷ gs) = omega arith

  all_small : (m : List Pair) → AllByRecursion IsPair m → length m < 2 ^ 40 →
      AllByRecursion Small (chunks cut version m)
  unfolding grow
  all_small m h few =
      let s = split_splits (pair_is_boundary cut) 1 m in
      let groups = split (pair_is_boundary cut) 1 m in
      let h' : AllByRecursion IsPair (flat groups) =
      subst (AllByRecursion IsPair) (sym s.whole) h in
      let l = leaf_all groups (count_groups groups s.nonempty)
      (subst (λ xs. length xs < 2 ^ 40) (sym s.whole) few) h' in
      small_within (length (leaves cut m)) 0 (leaves cut m) l.1 (leaf_pairs groups h') l.0
      (leaf_some groups)

version_same : (v w : Version) → version_byte v ≡ version_byte w → v ≡ w
version_same One One e = refl
version_same One Two e = absurd (let e' : 1 ≡ 2 = e in omega arith)
version_same Two One e = absurd (let e' : 2 ≡ 1 = e in omega arith)
version_same Two Two e = refl

header_tail : (a b p q : ℕ) → ◌≡◌ {A = List ℕ} (0x50 ∷ 0x52 ∷ 0x4C ∷ 0x59 ∷ a ∷ p ∷ [])
    (0x50 ∷ 0x52 ∷ 0x4C ∷ 0x59 ∷ b ∷ q ∷ []) → ◌≡◌ {A = List ℕ} (a ∷ p ∷ []) (b ∷ q ∷ [])
header_tail a b p q e = cc

pub file_decides : FileDecidesMap
file_decides v w c d m m' h k few few' e =
    let rest = flat_map frame (chunks c v m) ++ end_record (root_reference c v m)
    (length (chunks c v m)) in
    let rest' = flat_map frame (chunks d w m') ++ end_record (root_reference d w m')
    (length (chunks d w m')) in
    let f : header v c.bits ++ rest ≡ header w d.bits ++ rest' =
    sym (append_assoc (header v c.bits) (flat_map frame (chunks c v m))
    (end_record (root_reference c v m) (length (chunks c v m))))
    ∙ e ∙ append_assoc (header w d.bits) (flat_map frame (chunks d w m'))
    (end_record (root_reference d w m') (length (chunks d w m'))) in
    let g = apart (header v c.bits) (header w d.bits) rest rest' refl f in
    let five : version_byte v ∷ c.bits ∷ [] ≡ version_byte w ∷ d.bits ∷ [] =
    header_tail (version_byte v) (version_byte w) c.bits d.bits g.front in
    let p : payloads (chunks c v m) ≡ payloads (chunks d w m') =
    frames_tell (chunks c v m) (chunks d w m') _ _ (all_small c v m h few) (all_small d w m' k few')
    g.rest in
    let x : flat_map pair_spelling m ≡ flat_map pair_spelling m' =
    ap (flat_map pair_spelling) (sym (pairs_are c v m)) ∙
    sym (payloads_are v (tree_of c v m).level (tree_of c v m).tree) ∙ p
    ∙ payloads_are w (tree_of d w m').level (tree_of d w m').tree ∙
    ap (flat_map pair_spelling) (pairs_are d w m') in (
      version_same v w (head_is (version_byte v) (version_byte w) (c.bits ∷ []) (d.bits ∷ []) five),
      head_is c.bits d.bits [] [] (tail_is (version_byte v) (version_byte w) (c.bits ∷ []) (d.bits ∷ [])
          five),
      leaf_same m m' h k x,
    )
