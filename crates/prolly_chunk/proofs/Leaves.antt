-- What the leaf stage sends, and its open leaf, with one pair more and at a clean end.
use Rattle.std.proofs.Common.{◌≡◌, ℕ, suc, ◌+◌, ◌<◌, ◌≤◌, ◌^◌, Bool, true, false, not, ◌&&◌, ◌||◌}
use Rattle.std.proofs.Common.{cond, min}
use Rattle.std.proofs.Common.{nat_le, List, [], ◌∷◌, ◌++◌, length, map, Option, refl, sym, ap, ◌∙◌}
use Rattle.std.proofs.Common.{subst, arith, append-nil, length-append}
use Rattle.std.proofs.lemmas.List.{map-append}
use Rattle.std.proofs.lemmas.Grind.{flat_map-append}
use Rattle.std.proofs.lemmas.Bool.{le-leb}
use Rattle.std.specs.List.{flat_map, AllByRecursion}
use Rattle.std.specs.Option.{option_to_list}
use Rattle.std.specs.Int.{w16, w32, to_be_bytes}
use Rattle.prolly_entry.specs.declared.version.Version.{Version}
use Rattle.prolly_entry.specs.declared.version.Version.TheVariants.{One}
use Rattle.prolly_entry.specs.Pair.{Pair}
use Rattle.prolly_entry.specs.Spelling.{pair_spelling}
use Rattle.prolly_entry.specs.Cut.{Cut}
use Rattle.prolly_tree.specs.Split.{split, closed_groups, open_entries, is_closed}
use Rattle.prolly_tree.specs.Tree.{pair_is_boundary, last_key, leaves_of}
use Rattle.prolly_tree.specs.Chunk.{Chunk, chunk_of}
use Rattle.prolly_tree.specs.Events.{clean, faulty, leaf_events, greatest_count}
use Rattle.prolly_tree.specs.lemmas.Splits.{flat, as_group, closes, Ends}
use Rattle.prolly_laws.specs.Splits.{split_splits, split_step, split_goes_on, closed_parts}
use Rattle.prolly_laws.specs.Splits.{open_parts}
use Rattle.prolly_chunk.specs.Chunk.{empty_chunk, with_pair, has_entries}
use Rattle.prolly_chunk.specs.LeafLevel.{LeafState, leaf_level, LeafBegins, LeafTakes, LeafEnds}
use Rattle.prolly_chunk.specs.LeafLevel.{is_whole_leaf, LeafPasses}
use Rattle.prolly_chunk.proofs.Keys.{same_chunk}
use Rattle.prolly_chunk.proofs.Groups.{some_if, has_entries-snoc, closed_by_any, in_parts}

last_key-snoc : (ps : List Pair) (p : Pair) → last_key (ps ++ p ∷ []) ≡ p.key
last_key-snoc [] p = refl
last_key-snoc (q ∷ []) p = refl
last_key-snoc (q ∷ r ∷ ps) p = last_key-snoc (r ∷ ps) p

spelling_long : (p : Pair) → 6 ≤ length (pair_spelling p)
spelling_long p = omega (
  arith,
  length-append (to_be_bytes w16 (length p.key) ++ p.key) (to_be_bytes w32 (length p.value) ++
      p.value),
  length-append (to_be_bytes w16 (length p.key)) p.key,
  length-append (to_be_bytes w32 (length p.value)) p.value,
)

leaf_long : (ps : List Pair) → length ps ≤ length (flat_map pair_spelling ps)
leaf_long [] = omega arith
leaf_long (p ∷ ps) = omega (
  arith,
  spelling_long p,
  leaf_long ps,
  length-append (pair_spelling p) (flat_map pair_spelling ps),
)

count_fits : (n : ℕ) → n + 1 < 2 ^ 64 → min (n + 1) greatest_count ≡ n + 1
count_fits n h = omega (arith, h)

-- The leaf of pairs, with one pair more. Its pairs are fewer than its bytes, so their count does
-- not stay behind.
leaf_with : (ps : List Pair) (p : Pair) → length (with_pair (chunk_of One 0 ps) p).bytes < 2 ^ 64 →
    with_pair (chunk_of One 0 ps) p ≡ chunk_of One 0 (ps ++ p ∷ [])
leaf_with ps p h =
    let entries : flat_map pair_spelling (ps ++ p ∷ []) ≡ flat_map pair_spelling ps ++
    pair_spelling p =
    flat_map-append pair_spelling ps (p ∷ []) ∙
    ap (λ s. flat_map pair_spelling ps ++ s) (append-nil (pair_spelling p)) in
    let room : length ps + 1 < 2 ^ 64 = omega (
      arith,
      h,
      leaf_long ps,
      spelling_long p,
      length-append (0 ∷ flat_map pair_spelling ps) (pair_spelling p),
    ) in
    same_chunk refl (sym (last_key-snoc ps p))
    (count_fits (length ps) room ∙ sym (length-append ps (p ∷ [])))
    (ap (λ s. 0 ∷ s) (sym entries))

abbrev open_leaf : Cut → List Pair → Chunk
open_leaf cut pairs = chunk_of One 0 (open_entries (pair_is_boundary cut) 1 pairs)

-- One pair more adds the leaf that it closes.
record Step (cut : Cut) (pairs : List Pair) (p : Pair) : Type 0 where
  events : (version : Version) → leaf_events cut version faulty (pairs ++ p ∷ [])
      ≡ leaf_events cut version faulty pairs ++
      option_to_list (some_if (pair_is_boundary cut p) (with_pair (open_leaf cut pairs) p))
  leaf : open_leaf cut (pairs ++ p ∷ []) ≡ cond (pair_is_boundary cut p) (empty_chunk 0)
      (with_pair (open_leaf cut pairs) p)

leaf_step : (cut : Cut) (pairs : List Pair) (p : Pair) →
    length (with_pair (open_leaf cut pairs) p).bytes < 2 ^ 64 → Step cut pairs p
leaf_step cut pairs p room =
    let test = pair_is_boundary cut in
    let group = open_entries test 1 pairs in
    let step = split_step test 1 pairs p in
    let closed : is_closed test 1 (group ++ p ∷ []) ≡ test p = closed_by_any test group p in
    let more = leaf_with group p room in
    record {
      events = λ version.
          ap (map (chunk_of version 0)) (step.0 ∙
          ap (λ b. closed_groups test 1 pairs ++ cond b ((group ++ p ∷ []) ∷ []) []) closed)
          ∙ map-append (chunk_of version 0) (closed_groups test 1 pairs)
          (cond (test p) ((group ++ p ∷ []) ∷ []) [])
          ∙ ap (λ gs. map (chunk_of version 0) (closed_groups test 1 pairs) ++ gs)
          (sent version (test p) group more);
      leaf = ap (chunk_of One 0) (step.1 ∙ ap (λ b. cond b [] (group ++ p ∷ [])) closed) ∙
          left (test p) group more;
    }
  where
    sent : (version : Version) (b : Bool) (group : List Pair) →
        with_pair (chunk_of One 0 group) p ≡ chunk_of One 0 (group ++ p ∷ []) →
        map (chunk_of version 0) (cond b ((group ++ p ∷ []) ∷ []) []) ≡
        option_to_list (some_if b (with_pair (chunk_of One 0 group) p))
    sent version true group more = ap (λ c. c ∷ []) (sym more)
    sent version false group more = refl

    left : (b : Bool) (group : List Pair) → with_pair (chunk_of One 0 group) p ≡
        chunk_of One 0 (group ++ p ∷ []) →
        chunk_of One 0 (cond b [] (group ++ p ∷ [])) ≡ cond b (empty_chunk 0)
        (with_pair (chunk_of One 0 group) p)
    left true group more = refl
    left false group more = sym more

-- The level begins with an empty leaf.
pub leaf_begins : {C : Type 0} (cut_of : C → Cut) (cut : C) (leaf : Chunk) → leaf ≡ empty_chunk 0 →
    LeafBegins cut_of cut (record { cut = cut; leaf = leaf; has_pairs = false })
unfolding split
leaf_begins cut_of cut leaf e = record {
  state = ap (λ l. record { cut = cut; leaf = l; has_pairs = false }) e;
  events = λ version. refl;
}

module _ {C : Type 0} (cut_of : C → Cut) where
  abbrev state : C → Chunk → Bool → LeafState C
  state cut leaf pairs = record { cut = cut; leaf = leaf; has_pairs = pairs }

  -- What a pair does to the level, where it is the one behind these pairs.
  abbrev Takes : Chunk → Pair → Option Chunk → Bool → C → List Pair → LeafState C → Type 0
  Takes leaf pair closed is_boundary cut pairs old =
      is_boundary ≡ pair_is_boundary (cut_of old.cut) pair →
      length (with_pair old.leaf pair).bytes < 2 ^ 64 →
      closed ≡ some_if is_boundary (with_pair old.leaf pair) →
      leaf ≡ cond is_boundary (empty_chunk old.leaf.level) (with_pair old.leaf pair) →
      (state old.cut leaf true ≡ leaf_level cut_of cut (pairs ++ pair ∷ []))
      × ((version : Version) → leaf_events (cut_of cut) version faulty (pairs ++ pair ∷ []) ≡
      leaf_events (cut_of cut) version faulty pairs ++ option_to_list closed)

  takes_behind : (leaf : Chunk) (pair : Pair) (closed : Option Chunk) (is_boundary : Bool) (cut : C)
      (pairs : List Pair) →
      Takes leaf pair closed is_boundary cut pairs (leaf_level cut_of cut pairs)
  takes_behind leaf pair closed is_boundary cut pairs b room c l =
      let chunk = with_pair (open_leaf (cut_of cut) pairs) pair in
      let step = leaf_step (cut_of cut) pairs pair room in (
        ap (λ x. state cut x true) (l ∙ ap (λ x. cond x (empty_chunk 0) chunk) b ∙ sym step.leaf)
            ∙ ap (state cut (open_leaf (cut_of cut) (pairs ++ pair ∷ [])))
            (sym (has_entries-snoc pairs pair)),
        λ version. step.events version
            ∙ ap (λ o. leaf_events (cut_of cut) version faulty pairs ++ option_to_list o)
            (sym (c ∙ ap (λ x. some_if x chunk) b)),
      )

  -- What the level's code does with a pair is what `LeafTakes` says.
  pub leaf_takes : (old : LeafState C) (cut : C) (before after leaf : Chunk) (had_pairs : Bool)
      (pair : Pair) (closed : Option Chunk) (is_boundary : Bool) →
      state cut before had_pairs ≡ old → after ≡ with_pair before pair →
      is_boundary ≡ pair_is_boundary (cut_of cut) pair → length after.bytes < 2 ^ 64 →
      closed ≡ some_if is_boundary after → leaf ≡ cond is_boundary (empty_chunk after.level) after →
      LeafTakes cut_of old (state cut leaf true) pair closed
  leaf_takes old cut before after leaf had_pairs pair closed is_boundary o a b room c l =
      subst (λ x. LeafTakes cut_of x (state cut leaf true) pair closed) o (record {
        state = λ cut' pairs e. (at cut' pairs e).0;
        events = λ cut' version pairs e. (at cut' pairs e).1 version;
      })
    where
      at : (cut' : C) (pairs : List Pair) → state cut before had_pairs ≡ leaf_level cut_of cut'
          pairs →
          (state cut leaf true ≡ leaf_level cut_of cut' (pairs ++ pair ∷ []))
          × ((version : Version) → leaf_events (cut_of cut') version faulty (pairs ++ pair ∷ []) ≡
          leaf_events (cut_of cut') version faulty pairs ++ option_to_list closed)
      at cut' pairs e = subst (Takes leaf pair closed is_boundary cut' pairs) (sym e)
          (takes_behind leaf pair closed is_boundary cut' pairs) b
          (subst (λ (x : Chunk). length x.bytes < 2 ^ 64) a room)
          (c ∙ ap (some_if is_boundary) a)
          (l ∙ ap (λ (x : Chunk). cond is_boundary (empty_chunk x.level) x) a)

-- ---- the end

-- A leaf with a pair has two bytes or more.
leaf_has : (ps : List Pair) → nat_le 2 (length (chunk_of One 0 ps).bytes) ≡ has_entries ps
leaf_has [] = refl
leaf_has (p ∷ ps) = le-leb 2 (length (chunk_of One 0 (p ∷ ps)).bytes)
    (omega (arith, spelling_long p, length-append (pair_spelling p) (flat_map pair_spelling ps)))

module _ (version : Version) where
  abbrev leaf_chunk : List Pair → Chunk
  leaf_chunk ps = chunk_of version 0 ps

  last_leaf : (pairs : List Pair) (closed : List (List Pair)) (rest : List Pair) →
      flat (closed ++ as_group rest) ≡ pairs →
      AllByRecursion (λ group. 0 < length group) (closed ++ as_group rest) →
      map leaf_chunk (leaves_of (closed ++ as_group rest)) ≡ map leaf_chunk closed
      ++ option_to_list (some_if (not (has_entries pairs) || has_entries rest) (leaf_chunk rest))
  last_leaf [] [] [] e h = refl
  last_leaf (p ∷ ps) [] [] e h = cc
  last_leaf [] [] (x ∷ xs) e h = refl
  last_leaf (p ∷ ps) [] (x ∷ xs) e h = refl
  last_leaf [] ([] ∷ groups) rest e h = absurd (omega (arith, h.0))
  last_leaf [] ((x ∷ xs) ∷ groups) rest e h = cc
  last_leaf (p ∷ ps) (group ∷ groups) [] e h = map-append leaf_chunk (group ∷ groups) []
  last_leaf (p ∷ ps) (group ∷ groups) (x ∷ xs) e h =
      map-append leaf_chunk (group ∷ groups) ((x ∷ xs) ∷ [])

-- At a clean end the open leaf is sent where it has pairs, or where no pair came.
leaf_end : (cut : Cut) (version : Version) (pairs : List Pair) →
    leaf_events cut version clean pairs ≡ leaf_events cut version faulty pairs
    ++ option_to_list (some_if (not (has_entries pairs) || nat_le 2
    (length (open_leaf cut pairs).bytes)) (open_leaf cut pairs))
leaf_end cut version pairs =
    let test = pair_is_boundary cut in
    let rest = open_entries test 1 pairs in
    let closed = closed_groups test 1 pairs in
    let s = split_splits test 1 pairs in
    let whole : split test 1 pairs ≡ closed ++ as_group rest = (in_parts test 1 pairs).whole in
    ap (λ gs. map (chunk_of version 0) (leaves_of gs)) whole
    ∙ last_leaf version pairs closed rest (ap flat (sym whole) ∙ s.whole)
    (subst (AllByRecursion (λ group. 0 < length group)) whole s.nonempty)
    ∙ ap (λ b. map (chunk_of version 0) closed ++
    option_to_list (some_if (not (has_entries pairs) || b) (chunk_of version 0 rest)))
    (sym (leaf_has rest))

-- What the level's code answers at the end is what `LeafEnds` says.
pub leaf_ends : {C : Type 0} (cut_of : C → Cut) (level : LeafState C) (cut : C) (leaf : Chunk)
    (had_pairs : Bool) (last : Option Chunk) (is_left : Bool) →
    state cut_of cut leaf had_pairs ≡ level →
    is_left ≡ (not had_pairs || nat_le 2 (length leaf.bytes)) → last ≡ some_if is_left leaf →
    LeafEnds cut_of level last
leaf_ends {C} cut_of level cut leaf had_pairs last is_left o i l cut' version pairs e =
    let Last : LeafState C → Type 0 = λ s. last ≡
    some_if (not s.has_pairs || nat_le 2 (length s.leaf.bytes)) s.leaf in
    let l' : Last (leaf_level cut_of cut' pairs) =
    subst Last (o ∙ e) (l ∙ ap (λ b. some_if b leaf) i) in
    leaf_end (cut_of cut') version pairs ∙ ap (λ x. leaf_events (cut_of cut') version faulty
    pairs ++ option_to_list x) (sym l')

-- ---- a leaf that passes whole

closes_any : (cut : Cut) (n : ℕ) (p : Pair) →
    closes (pair_is_boundary cut) 1 n p ≡ pair_is_boundary cut p
closes_any cut n p = ap (λ b. b && pair_is_boundary cut p) (le-leb 1 (suc n) (omega arith))

whole_ends : (cut : Cut) (n : ℕ) (leaf : List Pair) → is_whole_leaf cut leaf ≡ true →
    Ends (pair_is_boundary cut) 1 n leaf
whole_ends cut n [] h = cc
whole_ends cut n (p ∷ []) h = closes_any cut n p ∙ h
whole_ends cut n (p ∷ q ∷ ps) h =
    go (pair_is_boundary cut p) (is_whole_leaf cut (q ∷ ps)) refl refl
    (whole_ends cut (suc n) (q ∷ ps)) h
  where
    go : (first others : Bool) → pair_is_boundary cut p ≡ first →
        is_whole_leaf cut (q ∷ ps) ≡ others → (is_whole_leaf cut (q ∷ ps) ≡ true →
        Ends (pair_is_boundary cut) 1 (suc n) (q ∷ ps)) → (not first && others) ≡ true →
        Ends (pair_is_boundary cut) 1 n (p ∷ q ∷ ps)
    go false true f o more e = (closes_any cut n p ∙ f, more o)
    go false false f o more e = cc
    go true others f o more e = cc

-- A whole leaf is the one group of its own split, and it is closed.
whole_closed : (cut : Cut) (leaf : List Pair) → is_whole_leaf cut leaf ≡ true →
    closed_groups (pair_is_boundary cut) 1 leaf ≡ leaf ∷ []
whole_closed cut leaf h =
    let test = pair_is_boundary cut in
    ap (closed_groups test 1) (sym (append-nil (leaf ++ []) ∙ append-nil leaf)) ∙
    closed_parts test 1 (leaf ∷ []) [] (whole_ends cut 0 leaf h, tt) tt

whole_open : (cut : Cut) (leaf : List Pair) → is_whole_leaf cut leaf ≡ true →
    open_entries (pair_is_boundary cut) 1 leaf ≡ []
whole_open cut leaf h =
    let test = pair_is_boundary cut in
    ap (open_entries test 1) (sym (append-nil (leaf ++ []) ∙ append-nil leaf)) ∙
    ap flat (open_parts test 1 (leaf ∷ []) [] (whole_ends cut 0 leaf h, tt) tt)

no_entries : {A : Type 0} (xs : List A) → has_entries xs ≡ false → xs ≡ []
no_entries [] e = refl
no_entries (x ∷ xs) e = cc

whole_some : (cut : Cut) (pairs leaf : List Pair) → is_whole_leaf cut leaf ≡ true →
    has_entries (pairs ++ leaf) ≡ true
whole_some cut (p ∷ pairs) leaf h = refl
whole_some cut [] [] h = cc
whole_some cut [] (p ∷ leaf) h = refl

module _ {C : Type 0} (cut_of : C → Cut) where
  abbrev Passed : C → List Pair → List Pair → LeafState C → Type 0
  Passed cut pairs leaf old = nat_le 2 (length old.leaf.bytes) ≡ false →
      (state cut_of old.cut old.leaf true ≡ leaf_level cut_of cut (pairs ++ leaf))
      × ((version : Version) → leaf_events (cut_of cut) version faulty (pairs ++ leaf) ≡
      leaf_events (cut_of cut) version faulty pairs ++ chunk_of version 0 leaf ∷ [])

  passed_behind : (cut : C) (pairs leaf : List Pair) → is_whole_leaf (cut_of cut) leaf ≡ true →
      Passed cut pairs leaf (leaf_level cut_of cut pairs)
  passed_behind cut pairs leaf h between =
      let test = pair_is_boundary (cut_of cut) in
      let none : open_entries test 1 pairs ≡ [] =
      no_entries (open_entries test 1 pairs) (sym (leaf_has (open_entries test 1 pairs)) ∙ between)
      in
      let more = split_goes_on test 1 pairs leaf in
      let opens : open_entries test 1 (pairs ++ leaf) ≡ [] =
      more.2 ∙ ap (λ o. open_entries test 1 (o ++ leaf)) none ∙ whole_open (cut_of cut) leaf h in
      let closed : closed_groups test 1 (pairs ++ leaf) ≡ closed_groups test 1 pairs ++ leaf ∷ [] =
      more.1 ∙ ap (λ o. closed_groups test 1 pairs ++ closed_groups test 1 (o ++ leaf)) none
      ∙ ap (λ gs. closed_groups test 1 pairs ++ gs) (whole_closed (cut_of cut) leaf h) in (
        ap (λ o. state cut_of cut (chunk_of One 0 o) true) (none ∙ sym opens)
            ∙ ap (state cut_of cut (open_leaf (cut_of cut) (pairs ++ leaf)))
            (sym (whole_some (cut_of cut) pairs leaf h)),
        λ version. ap (map (chunk_of version 0)) closed
            ∙ map-append (chunk_of version 0) (closed_groups test 1 pairs) (leaf ∷ []),
      )

  -- What the level's code does with a leaf that passes is what `LeafPasses` says.
  pub leaf_passes : (old : LeafState C) (cut : C) (leaf : Chunk) (had_pairs : Bool) →
      state cut_of cut leaf had_pairs ≡ old → nat_le 2 (length leaf.bytes) ≡ false →
      LeafPasses cut_of old (state cut_of cut leaf true)
  leaf_passes old cut leaf had_pairs o between = subst (λ x. LeafPasses cut_of x
      (state cut_of cut leaf true)) o (record {
        state = λ cut' pairs whole h e. (at cut' pairs whole h e).0;
        events = λ cut' version pairs whole h e. (at cut' pairs whole h e).1 version;
      })
    where
      at : (cut' : C) (pairs whole : List Pair) → is_whole_leaf (cut_of cut') whole ≡ true →
          state cut_of cut leaf had_pairs ≡ leaf_level cut_of cut' pairs →
          (state cut_of cut leaf true ≡ leaf_level cut_of cut' (pairs ++ whole))
          × ((version : Version) → leaf_events (cut_of cut') version faulty (pairs ++ whole) ≡
          leaf_events (cut_of cut') version faulty pairs ++ chunk_of version 0 whole ∷ [])
      at cut' pairs whole h e = subst (Passed cut' pairs whole) (sym e)
          (passed_behind cut' pairs whole h) between
