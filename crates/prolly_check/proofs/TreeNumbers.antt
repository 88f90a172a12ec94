-- The numbers of a tree: its levels, the sizes of its chunks, those that others lack.
use Rattle.std.proofs.Common.{rules, ◌≡◌, ℕ, ◌+◌, ◌<◌, ◌≤◌, Bool, true, false, cond, List, [], ◌∷◌}
use Rattle.std.proofs.Common.{◌++◌, length, take, drop, get_or, Option, Some, None, sym, ap, ◌∙◌}
use Rattle.std.proofs.Common.{subst, arith, not, zero, suc, ◌-◌, ◌/◌, nat_lt, nat_le, map, refl}
use Rattle.std.proofs.Common.{length-drop, inl, inr, ◌⊎◌, append-nil}
use Rattle.std.specs.List.{flat_map, count_by, filter, slice_get, AllByRecursion}
use Rattle.std.specs.List.Sorted.{IsPermutation, IsNonDecreasing}
use Rattle.std.specs.Prelude.{MatchOption, is_some, sum, ◌==◌}
use Rattle.std.specs.Str.{bytes_eq}
use Rattle.std.proofs.lemmas.Bool.{false_from_ne_true, le-leb, le-ltb, cases_lt}
use Rattle.std.proofs.lemmas.Bool.Decides.{Decides-eqb}
use Rattle.std.proofs.lemmas.Grind.{common_steps, flat_map-append, get_or_default_zero}
use Rattle.std.proofs.lemmas.List.{get_or_default, length-append, take-append-drop, get_or-drop}
use Rattle.std.proofs.lemmas.List.{length-map, length-take-le, map-append, take_more}
use Rattle.std.proofs.lemmas.List.Concat.{length-flat_map}
use Rattle.std.proofs.lemmas.List.Elements.{filter-append, filter_more}
use Rattle.std.proofs.lemmas.List.Folds.{Any-from_list_any, list_any_at}
use Rattle.std.proofs.lemmas.List.Sorted.{IsPermutation-filter_both, length_permutation}
use Rattle.std.proofs.lemmas.List.Sorted.{sum_by-IsPermutation}
use Rattle.std.proofs.lemmas.List.Sums.{count_by-le-length, count_by_more_yes, sum-map}
use Rattle.std.proofs.lemmas.List.Sums.{sum_by-append, sum_by-le, sum_by-take-drop, sum_by-take-le}
use Rattle.std.proofs.lemmas.Option.{slice_get_within}
use Rattle.std.proofs.lemmas.Slice.Eq.{bytes_eq-Decides}
use Rattle.prolly_entry.specs.Cut.{sha512_cut}
use Rattle.prolly_entry.specs.Pair.{Pair}
use Rattle.prolly_entry.specs.Reference.{reference_of}
use Rattle.prolly_entry.specs.declared.version.Version.{Version}
use Rattle.prolly_entry.specs.lemmas.Lists.{all_append}
use Rattle.prolly_tree.specs.Chunk.{chunk_of, post_order}
use Rattle.prolly_tree.specs.Split.{split}
use Rattle.prolly_tree.specs.Tree.{LeveledTree, Tree, bytes_of, tree_of}
use Rattle.prolly_tree.specs.lemmas.Trees.{Full}
use Rattle.prolly_laws.specs.Trees.{grow_is, tree_full}
use Rattle.prolly_check.specs.Chunks.{HasAt, IsIndex}
use Rattle.prolly_check.specs.Numbers.{IsAtPlace, IsLevel, at_level, AreLevels, AreOfMap}
use Rattle.prolly_chunk.specs.Missing.{AreSo, has_reference, lacking, chunks_size}
use Rattle.prolly_look_up.specs.Way.{level_of}
use Rattle.prolly_check.specs.declared.chunks.Index.{Index}
use Rattle.prolly_chunk.specs.declared.level_stats.LevelStats.{LevelStats}
use Rattle.prolly_chunk.specs.declared.missing.Missing.{Missing}
use Rattle.prolly_check.proofs.CheckedFile.{chunks_last}
use Rattle.prolly_look_up.specs.lemmas.HeldPairs.{bytes_append, bytes_in}
use Rattle.prolly_look_up.specs.lemmas.Chosen.{one_same}
use Rattle.prolly_look_up.specs.lemmas.MapTree.{height_is}
use Rattle.prolly_look_up.specs.lemmas.PairsFrom.{nth_back, nth_front}

-- ---- whether a reference is there

-- who finds chunks by their references tells whether it is
pub search_tells : (chunks : List (List ℕ)) (reference : List ℕ) (found : Option ℕ) →
    MatchOption found ((n : ℕ) → HasAt chunks n reference → ⊥) (λ n. HasAt chunks n reference) →
    has_reference chunks reference ≡ is_some found
search_tells chunks reference None none = false_from_ne_true (has_reference chunks reference)
    (λ h.
    let any = Any-from_list_any (λ c. bytes_eq (reference_of c) reference) chunks h in
    none any.0 (record {
      within = any.2;
      is = ap reference_of (get_or_default chunks any.0 [] any.1 any.2 ∙ any.3) ∙
          (bytes_eq-Decides (reference_of any.1) reference).0 any.4;
    }))
search_tells chunks reference (Some number) at =
    search (rules, list_any_at, bytes_eq-Decides, get_or)

-- ---- step by step

-- those of the first n chunks that others lack are counted
pub record CountedTo (index : Index) (chunks : List (List ℕ)) (n : ℕ) (missing : Missing)
    : Type 0 where
  pub so : (others : List (List ℕ)) → IsIndex index others →
      AreSo (lacking others (take n chunks)) missing
  pub few : missing.chunks ≤ n
  pub small : missing.bytes ≤ chunks_size (take n chunks)

-- of whatever chunks the index is, the reference is one of theirs or not
abbrev pub Tells : Index → List ℕ → Bool → Type 0
Tells index reference there = (others : List (List ℕ)) → IsIndex index others →
    has_reference others reference ≡ there

-- so many bytes one chunk more has
size_push : (chunks : List (List ℕ)) (chunk : List ℕ) →
    chunks_size (chunks ++ chunk ∷ []) ≡ chunks_size chunks + length chunk
size_push chunks chunk = ap length (flat_map-append (λ c. c) chunks (chunk ∷ [])) ∙
    length-append (flat_map (λ c. c) chunks) (chunk ++ []) ∙
    ap (λ bytes. chunks_size chunks + length bytes) (append-nil chunk)

-- the first n + 1 are the first n, and one
module _ (chunks : List (List ℕ)) (n : ℕ) (h : n < length chunks) where
  abbrev chunk : List ℕ
  chunk = get_or chunks n []

  pub size_more : chunks_size (take (n + 1) chunks) ≡ chunks_size (take n chunks) + length chunk
  size_more = ap chunks_size (take_more chunks n [] h) ∙ size_push (take n chunks) chunk

  module _ (others : List (List ℕ)) where
    more : lacking others (take (n + 1) chunks) ≡ lacking others (take n chunks) ++
        cond (not (has_reference others (reference_of chunk))) (chunk ∷ []) []
    more = filter_more (λ c. not (has_reference others (reference_of c))) chunks n [] h

    abbrev before : List (List ℕ)
    before = lacking others (take n chunks)

    pub had : has_reference others (reference_of chunk) ≡ true →
        lacking others (take (n + 1) chunks) ≡ before
    had e = more ∙ ap (λ b. before ++ cond (not b) (chunk ∷ []) []) e ∙ append-nil before

    pub lacked : has_reference others (reference_of chunk) ≡ false →
        lacking others (take (n + 1) chunks) ≡ before ++ chunk ∷ []
    lacked e = more ∙ ap (λ b. before ++ cond (not b) (chunk ∷ []) []) e

-- one that is had is passed over
pub passed : (index : Index) (chunks : List (List ℕ)) (n : ℕ) (missing : Missing) →
    n < length chunks → Tells index (reference_of (get_or chunks n [])) true →
    CountedTo index chunks n missing → CountedTo index chunks (n + 1) missing
passed index chunks n missing h e c = record {
  so = λ others is. subst (λ cs. AreSo cs missing) (sym (had chunks n h others (e others is)))
      (c.so others is);
  few = let few = c.few in omega arith;
  small = let small = c.small in omega (arith, size_more chunks n h);
}

-- one that is lacked is counted
pub counted : (index : Index) (chunks : List (List ℕ)) (n : ℕ) (missing new : Missing) →
    n < length chunks → Tells index (reference_of (get_or chunks n [])) false →
    new.chunks ≡ missing.chunks + 1 → new.bytes ≡ missing.bytes + length (get_or chunks n []) →
    CountedTo index chunks n missing → CountedTo index chunks (n + 1) new
counted index chunks n missing new h e chunks_are bytes_are c = record {
  so = λ others is.
      let before = lacking others (take n chunks) in
      let chunk = get_or chunks n [] in
      subst (λ cs. AreSo cs new) (sym (lacked chunks n h others (e others is))) (record {
        chunks_are = chunks_are ∙ ap (λ n. n + 1) (c.so others is).chunks_are ∙
            sym (length-append before (chunk ∷ []));
        bytes_are = bytes_are ∙ ap (λ n. n + length chunk) (c.so others is).bytes_are ∙
            sym (size_push before chunk);
      });
  few = let few = c.few in omega (arith, chunks_are);
  small = let small = c.small in omega (arith, bytes_are, size_more chunks n h);
}

-- the first n are not more than all
pub size_up_to : (chunks : List (List ℕ)) (n : ℕ) → chunks_size (take n chunks) ≤ chunks_size chunks
size_up_to chunks n =
    let all = ap chunks_size (sym (take-append-drop n chunks)) ∙
    ap length (flat_map-append (λ c. c) (take n chunks) (drop n chunks)) ∙
    length-append (flat_map (λ c. c) (take n chunks)) (flat_map (λ c. c) (drop n chunks)) in
    omega arith

-- so are the sizes of those of a level
module _ (level : ℕ) (chunks : List (List ℕ)) (n : ℕ) (h : n < length chunks) (sizes : List ℕ)
    (are : sizes ≡ map length (at_level level (take n chunks))) where
  more_sizes : (b : Bool) → (level_of (get_or chunks n []) == level) ≡ b →
      map length (at_level level (take (n + 1) chunks)) ≡
      sizes ++ map length (cond b (get_or chunks n [] ∷ []) [])
  more_sizes b e =
      let before = at_level level (take n chunks) in
      let chunk = get_or chunks n [] in
      ap (map length) (filter_more (λ c. level_of c == level) chunks n [] h ∙
      ap (λ b. before ++ cond b (chunk ∷ []) []) e) ∙
      map-append length before (cond b (chunk ∷ []) []) ∙
      ap (λ sizes. sizes ++ map length (cond b (chunk ∷ []) [])) (sym are)

  pub size_added : level_of (get_or chunks n []) ≡ level →
      map length (at_level level (take (n + 1) chunks)) ≡ sizes ++ length (get_or chunks n []) ∷ []
  size_added e = more_sizes true ((Decides-eqb (level_of (get_or chunks n [])) level).1 e)

  pub size_left_out : (level_of (get_or chunks n []) ≡ level → ⊥) →
      map length (at_level level (take (n + 1) chunks)) ≡ sizes
  size_left_out other = more_sizes false
      (false_from_ne_true (level_of (get_or chunks n []) == level)
      (λ t. other ((Decides-eqb (level_of (get_or chunks n [])) level).0 t))) ∙ append-nil sizes

-- ---- the places of sizes that were sorted

module _ (sizes sorted : List ℕ) (moved : IsPermutation sizes sorted)
    (rises : IsNonDecreasing sorted) (place found : ℕ) (within : place < length sorted)
    (is : found ≡ get_or sorted place found) where
  abbrev is_lower : ℕ → Bool
  is_lower size = nat_lt size found

  abbrev is_upto : ℕ → Bool
  is_upto size = nat_le size found

  -- from the place on none is lower
  not_lower : (k d : ℕ) → k < length (drop place sorted) →
      cond (is_lower (get_or (drop place sorted) k d)) 1 0 ≤ 0
  not_lower k d behind =
      grind (arith, length-drop, get_or-drop, get_or_default_zero, le-ltb, get_or)

  lower : count_by is_lower sizes ≤ place
  lower =
      let same = sum_by-IsPermutation (λ size. cond (is_lower size) 1 0) sizes sorted moved in
      let parted = sum_by-take-drop (λ size. cond (is_lower size) 1 0) sorted place in
      let few = count_by-le-length is_lower (take place sorted) in
      let front = length-take-le place sorted (omega arith) in
      let none = sum_by-le (λ size. cond (is_lower size) 1 0) 0 (drop place sorted) not_lower in
      omega arith

  -- none of those up to the place is above it
  upto_first : (k : ℕ) → k ≤ place + 1 → count_by is_upto (take k sorted) ≡ k
  upto_first zero h = refl
  upto_first (suc k) h =
      let before = rises k place found (omega arith) within in
      let step = count_by_more_yes is_upto sorted k found (omega arith)
      (le-leb (get_or sorted k found) found (omega arith)) in
      let e : suc k ≡ k + 1 = omega arith in
      ap (λ n. count_by is_upto (take n sorted)) e ∙ step ∙
      ap (λ n. n + 1) (upto_first k (omega arith)) ∙ sym e

  upto : place < count_by is_upto sizes
  upto =
      let same = sum_by-IsPermutation (λ size. cond (is_upto size) 1 0) sizes sorted moved in
      let first = upto_first (place + 1) (omega arith) in
      let rest = sum_by-take-le (λ size. cond (is_upto size) 1 0) sorted (place + 1) in
      omega arith

  pub at_place : IsAtPlace sizes place found
  at_place = record { below = lower; upto = upto }

-- ---- the numbers of chunks

pub sizes_sum : (chunks : List (List ℕ)) → sum (map length chunks) ≡ chunks_size chunks
sizes_sum chunks = sum-map length chunks ∙ sym (length-flat_map (λ c. c) chunks)

-- some of the chunks have no more bytes than all
pub size_within : (level : ℕ) (chunks : List (List ℕ)) →
    chunks_size (at_level level chunks) ≤ chunks_size chunks
size_within level chunks =
    let is_there = λ (c : List ℕ). level_of c == level in
    let other = λ (c : List ℕ). not (level_of c == level) in
    let moved = sum_by-IsPermutation length chunks
    (filter is_there chunks ++ filter other chunks)
    (IsPermutation-filter_both is_there other (λ c. refl) chunks) in
    let parted = sum_by-append length (filter is_there chunks) (filter other chunks) in
    let own = length-flat_map (λ c. c) (at_level level chunks) in
    let all = length-flat_map (λ c. c) chunks in
    omega arith

-- the numbers of these sizes are those of the chunks
pub is_level : (chunks : List (List ℕ)) (sorted : List ℕ) (level : LevelStats) →
    IsPermutation (map length chunks) sorted → IsNonDecreasing sorted → 0 < length sorted →
    level.chunks ≡ length sorted → level.bytes ≡ sum (map length chunks) →
    level.least ≡ get_or sorted 0 level.least →
    level.middle ≡ get_or sorted (length sorted / 2) level.middle →
    level.greatest ≡ get_or sorted (length sorted - 1) level.greatest → IsLevel chunks level
is_level chunks sorted level moved rises some number bytes least middle greatest =
    let sizes = map length chunks in
    let count : length chunks ≡ length sorted =
    sym (length-map chunks length) ∙ sym (length_permutation sizes sorted moved) in
    let at = at_place sizes sorted moved rises in
    record {
      some = omega arith;
      chunks_are = number ∙ sym count;
      bytes_are = bytes ∙ sizes_sum chunks;
      least_is = at 0 level.least some least;
      middle_is = subst (λ n. IsAtPlace sizes (n / 2) level.middle) (sym count)
          (at (length sorted / 2) level.middle (omega arith) middle);
      greatest_is = subst (λ n. IsAtPlace sizes (n - 1) level.greatest) (sym count)
          (at (length sorted - 1) level.greatest (omega arith) greatest);
    }

-- ---- no level is empty

-- one of the chunks is of the level
abbrev HasSome : ℕ → List (List ℕ) → Type 0
HasSome number chunks = 0 < length (at_level number chunks)

split_level : (number : ℕ) (cs ds : List (List ℕ)) → length (at_level number (cs ++ ds)) ≡
    length (at_level number cs) + length (at_level number ds)
split_level number cs ds = search (rules, filter-append, length-append)

has_front : (number : ℕ) (cs ds : List (List ℕ)) → HasSome number cs → HasSome number (cs ++ ds)
has_front number cs ds h = let e = split_level number cs ds in omega arith

has_back : (number : ℕ) (cs ds : List (List ℕ)) → HasSome number ds → HasSome number (cs ++ ds)
has_back number cs ds h = let e = split_level number cs ds in omega arith

module _ (version : Version) where
  has_own : (level : ℕ) (t : Tree level) (number : ℕ) → level ≡ number →
      HasSome number (bytes_of version level t ∷ [])
  has_own level t number e = grind arith

  abbrev HasEach : LeveledTree → Type 0
  HasEach t = (number : ℕ) → number ≤ t.level →
      HasSome number (bytes_in (post_order version t.level t.tree))

  leaf_has : (leaf : List Pair) → HasEach (record { level = 0; tree = leaf })
  leaf_has leaf number h = has_own 0 leaf number (omega arith)

  full_has : (level : ℕ) (t : Tree level) → Full level t →
      HasEach (record { level = level; tree = t })
  full_has zero leaf full = leaf_has leaf
  full_has (suc level) [] full = absurd (let none : 0 < 0 = full.0 in omega arith)
  full_has (suc level) (t ∷ ts) full = search (
    rules,
    bytes_append,
    cases_lt,
    bytes_in,
    has_back,
    has_own,
    has_front,
    full_has level t full.1.0,
  )

  map_has : (bits : ℕ) (pairs : List Pair) → HasEach (tree_of (sha512_cut bits) version pairs)
  unfolding split
  map_has bits [] = subst HasEach (sym ((grow_is (sha512_cut bits) version).0 0 [])) (leaf_has [])
  map_has bits (p ∷ pairs) = search (rules, full_has, tree_full)

  -- ---- none is above the root's

  module _ (top : ℕ) where
    abbrev AreWithin : List (List ℕ) → Type 0
    AreWithin chunks = AllByRecursion (λ c. level_of c ≤ top) chunks

    all_within : (level : ℕ) →
        ((t : Tree level) → AreWithin (bytes_in (post_order version level t))) →
        (ts : List (Tree level)) → AreWithin (bytes_in (flat_map (post_order version level) ts))
    all_within level each [] = tt
    all_within level each (t ∷ ts) = search (rules, common_steps, all_within level each ts)

    tree_within : (level : ℕ) → level ≤ top → (t : Tree level) →
        AreWithin (bytes_in (post_order version level t))
    tree_within zero h leaf = (h, tt)
    tree_within (suc level) h ts =
        subst AreWithin (sym (bytes_append (flat_map (post_order version level) ts)
        (chunk_of version (suc level) ts ∷ [])))
        (all_append (λ c. level_of c ≤ top) (bytes_in (flat_map (post_order version level) ts))
        (bytes_of version (suc level) ts ∷ [])
        (all_within level (tree_within level (omega arith)) ts) (h, tt))

-- ---- the chunks of a map

-- no level up to the top is empty, and no chunk is of a level above it
pub record IsTower (chunks : List (List ℕ)) (top : ℕ) : Type 0 where
  pub some : (number : ℕ) → number ≤ top → 0 < length (at_level number chunks)
  pub all : AllByRecursion (λ c. level_of c ≤ top) chunks

-- so they stand, up to the level of the last
pub is_tower : (chunks : List (List ℕ)) (root top : ℕ) → AreOfMap chunks →
    root ≡ length chunks - 1 → top ≡ level_of (get_or chunks root []) → IsTower chunks top
is_tower chunks root top m last level =
    let content = m.content in
    let tree = tree_of (sha512_cut content.bits) content.version content.pairs in
    let height : top ≡ tree.level = level ∙ ap (λ n. level_of (get_or chunks n [])) last ∙
    ap (λ cs. level_of (get_or cs (length cs - 1) [])) m.are ∙
    ap level_of (chunks_last content.version content.bits content.pairs) ∙
    height_is content.version tree.level tree.tree in
    subst (λ cs. IsTower cs top) (sym m.are) (record {
      some = λ number h. map_has content.version content.bits content.pairs number
          (omega (arith, height, h));
      all = tree_within content.version top tree.level (omega (arith, height)) tree.tree;
    })

-- ---- level by level

-- these are the levels up to a number
pub record AreUpTo (chunks : List (List ℕ)) (number : ℕ) (levels : List LevelStats) : Type 0 where
  pub count : length levels ≡ number
  pub are : (k : ℕ) (level : LevelStats) → slice_get levels k ≡ Some level →
      IsLevel (at_level k chunks) level

pub one_more : (chunks : List (List ℕ)) (number : ℕ) (levels new : List LevelStats)
    (level : LevelStats) → new ≡ levels ++ level ∷ [] → AreUpTo chunks number levels →
    IsLevel (at_level number chunks) level → AreUpTo chunks (number + 1) new
one_more chunks number levels new level e a is =
    subst (AreUpTo chunks (number + 1)) (sym e) (record {
      count = length-append levels (level ∷ []) ∙ ap (λ n. n + 1) a.count;
      are = λ k found e. at k found e (cases_lt k (length levels));
    })
  where
    at : (k : ℕ) (found : LevelStats) → slice_get (levels ++ level ∷ []) k ≡ Some found →
        (k < length levels) ⊎ (length levels ≤ k) → IsLevel (at_level k chunks) found
    at k found e (inl within) =
        a.are k found (sym (nth_front levels (level ∷ []) k within) ∙ e)
    at k found e (inr past) =
        let within = slice_get_within (levels ++ level ∷ []) k found e in
        let last : k ≡ length levels + 0 =
        omega (arith, length-append levels (level ∷ [])) in
        let same : Some level ≡ Some found = sym (nth_back levels (level ∷ []) 0) ∙
        ap (slice_get (levels ++ level ∷ [])) (sym last) ∙ e in
        let here : number ≡ k = omega (arith, a.count) in
        subst (λ n. IsLevel (at_level n chunks) found) here
        (subst (IsLevel (at_level number chunks)) (one_same level found same) is)

pub all_levels : (chunks : List (List ℕ)) (top : ℕ) (levels : List LevelStats) → IsTower chunks top →
    AreUpTo chunks (top + 1) levels → AreLevels chunks levels
all_levels chunks top levels tower a = record {
  are = a.are;
  all = each chunks tower.all;
}
  where
    each : (cs : List (List ℕ)) → AllByRecursion (λ c. level_of c ≤ top) cs →
        AllByRecursion (λ c. level_of c < length levels) cs
    each [] h = tt
    each (c ∷ cs) h = (let own = h.0 in let count = a.count in omega arith, each cs h.1)
