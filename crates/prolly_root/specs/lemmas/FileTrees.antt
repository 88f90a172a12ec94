-- The trees of a content in its chunk file: the chunks of each, and where their tops stand.
use Rattle.std.proofs.Common.{◌≡◌, ℕ, zero, suc, ◌+◌, ◌-◌, ◌≤◌, ◌<◌, List, [], ◌∷◌, ◌++◌, length}
use Rattle.std.proofs.Common.{drop, map, get_or, refl, sym, ap, ◌∙◌, subst, arith, append_assoc}
use Rattle.std.proofs.Common.{append-nil}
use Rattle.std.specs.List.{AllByRecursion, flat_map}
use Rattle.std.proofs.Math.Seq.{drop-append_seam}
use Rattle.std.proofs.lemmas.List.{get_or-drop, get_or_append_left, get_or_push, length-append}
use Rattle.std.proofs.lemmas.List.{map-append}
use Rattle.std.proofs.lemmas.List.Elements.{All-from_recursion}
use Rattle.std.proofs.lemmas.List.Concat.{flat_map-append}
use Rattle.prolly_look_up.specs.Content.{chunks_of, Content, nth_chunk}
use Rattle.prolly_look_up.specs.Way.{level_of}
use Rattle.prolly_entry.specs.declared.version.Version.{Version}
use Rattle.prolly_entry.specs.lemmas.Lists.{all_append}
use Rattle.prolly_tree.specs.Chunk.{Chunk, chunk_of, post_order}
use Rattle.prolly_tree.specs.File.{root_reference}
use Rattle.prolly_tree.specs.Tree.{Tree, bytes_of, tree_of}
use Rattle.prolly_entry.specs.Cut.{sha512_cut}
use Rattle.prolly_entry.specs.lemmas.Spellings.{reference_length}
use Rattle.prolly_root.specs.ChunkFile.{nth_in, chunk_file}
use Rattle.prolly_root.specs.FileTrees.{IsChildNumber, IsTreeAt, chunks_below, chunks_of_tree}
use Rattle.prolly_root.specs.FileTrees.{root_level, root_tree}
use Rattle.prolly_root.specs.Walk.{IsBehind, IsFirstOfLevel, IsNth}
use Rattle.prolly_root.specs.lemmas.Levels.{behind_next, behind_one, nth_next, nth_one}

-- The first byte of a tree's top is the tree's level.
pub level_is : (version : Version) (level : ℕ) (t : Tree level) →
    level_of (bytes_of version level t) ≡ level
level_is version zero t = refl
level_is version (suc level) t = refl

-- ---- the chunks of a tree

abbrev pub bytes_in : List Chunk → List (List ℕ)
bytes_in cs = map (λ c. c.bytes) cs

-- the top is the last of them
pub top_last : (version : Version) (level : ℕ) (t : Tree level) → chunks_of_tree version level t ≡
    chunks_below version level t ++ bytes_of version level t ∷ []
top_last version zero leaf = refl
top_last version (suc level) ts = map-append (λ c. c.bytes) (flat_map (post_order version level) ts)
    (chunk_of version (suc level) ts ∷ [])

-- a chunk that has a level, not above this one
pub record StandsUpTo (level : ℕ) (chunk : List ℕ) : Type 0 where
  pub some : 0 < length chunk
  pub up_to : level_of chunk ≤ level

top_up_to : (version : Version) (level : ℕ) (t : Tree level) →
    StandsUpTo level (bytes_of version level t)
top_up_to version zero t = record { some = omega arith; up_to = omega arith }
top_up_to version (suc level) t = record { some = omega arith; up_to = omega arith }

all_weaker : (P Q : List ℕ → Type 0) → ((c : List ℕ) → P c → Q c) → (cs : List (List ℕ)) →
    AllByRecursion P cs → AllByRecursion Q cs
all_weaker P Q f [] h = tt
all_weaker P Q f (c ∷ cs) h = (f c h.0, all_weaker P Q f cs h.1)

module _ (version : Version) where
  abbrev AllUpTo : ℕ → List Chunk → Type 0
  AllUpTo level cs = AllByRecursion (StandsUpTo level) (bytes_in cs)

  all_trees : (level : ℕ) →
      ((t : Tree level) → AllUpTo level (post_order version level t)) →
      (ts : List (Tree level)) → AllUpTo level (flat_map (post_order version level) ts)
  all_trees level each [] = tt
  all_trees level each (t ∷ ts) =
      let own = post_order version level t in
      let rest = flat_map (post_order version level) ts in
      subst (AllByRecursion (StandsUpTo level)) (sym (map-append (λ c. c.bytes) own rest))
      (all_append (StandsUpTo level) (bytes_in own) (bytes_in rest) (each t)
      (all_trees level each ts))

  tree_up_to : (level : ℕ) (t : Tree level) → AllUpTo level (post_order version level t)
  tree_up_to zero t = (top_up_to version zero t, tt)
  tree_up_to (suc level) ts =
      let below = flat_map (post_order version level) ts in
      subst (AllByRecursion (StandsUpTo (suc level)))
      (sym (map-append (λ c. c.bytes) below (chunk_of version (suc level) ts ∷ [])))
      (all_append (StandsUpTo (suc level)) (bytes_in below) (bytes_of version (suc level) ts ∷ [])
      (all_weaker (StandsUpTo level) (StandsUpTo (suc level))
      (λ c h. record { some = h.some; up_to = omega (arith, h.up_to) }) (bytes_in below)
      (all_trees level (tree_up_to level) ts))
      (top_up_to version (suc level) ts, tt))

  -- the chunks below the top stand lower
  abbrev pub IsLower : ℕ → List ℕ → Type 0
  IsLower level chunk = level_of chunk < level

  pub all_lower : (level : ℕ) (t : Tree level) →
      AllByRecursion (IsLower level) (chunks_below version level t)
  all_lower zero t = tt
  all_lower (suc level) ts = all_weaker (StandsUpTo level) (IsLower (suc level))
      (λ c h. omega (arith, h.up_to)) (bytes_in (flat_map (post_order version level) ts))
      (all_trees level (tree_up_to level) ts)

-- No chunk is empty.
pub all_some : (content : Content) → AllByRecursion (λ c. 0 < length c) (chunks_of content)
all_some content =
    let tree = tree_of (sha512_cut content.bits) content.version content.pairs in
    all_weaker (StandsUpTo tree.level) (λ c. 0 < length c) (λ c h. h.some) (chunks_of content)
    (tree_up_to content.version tree.level tree.tree)

pub root_length : (content : Content) →
    length (root_reference (sha512_cut content.bits) content.version content.pairs) ≡ 20
root_length content =
    let tree = tree_of (sha512_cut content.bits) content.version content.pairs in
    reference_length (bytes_of content.version tree.level tree.tree)

-- A file has a chunk.
pub some_chunk : (content : Content) → 0 < length (chunks_of content)
some_chunk content =
    let tree = tree_of (sha512_cut content.bits) content.version content.pairs in omega (
      arith,
      ap length (top_last content.version tree.level tree.tree),
      length-append (chunks_below content.version tree.level tree.tree)
          (bytes_of content.version tree.level tree.tree ∷ []),
    )

-- ---- the tops of trees

-- the chunks of trees in the order of the file
abbrev pub chunks_of_trees : Content → (level : ℕ) → List (Tree level) → List (List ℕ)
chunks_of_trees content level ts =
    map (λ c. c.bytes) (flat_map (post_order content.version level) ts)

module _ (content : Content) (level : ℕ) where
  abbrev trees : List (Tree level) → List (List ℕ)
  trees ts = chunks_of_trees content level ts

  abbrev tree : Tree level → List (List ℕ)
  tree t = chunks_of_tree content.version level t

  abbrev under : Tree level → List (List ℕ)
  under t = chunks_below content.version level t

  trees_cons : (t : Tree level) (ts : List (Tree level)) → trees (t ∷ ts) ≡ tree t ++ trees ts
  trees_cons t ts = map-append (λ c. c.bytes) (post_order content.version level t)
      (flat_map (post_order content.version level) ts)

  tree_length : (t : Tree level) → length (tree t) ≡ length (under t) + 1
  tree_length t = ap length (top_last content.version level t) ∙
      length-append (under t) (bytes_of content.version level t ∷ [])

  -- a chunk of a part of the file
  pub part_at : (before part left : List (List ℕ)) → chunks_of content ≡ before ++ (part ++ left) →
      (i : ℕ) → i < length part → nth_chunk content (length before + i) ≡ get_or part i []
  part_at before part left are i within =
      sym (get_or-drop (length before) (chunks_of content) i []) ∙
      ap (λ cs. get_or cs i []) (ap (drop (length before)) are ∙
      drop-append_seam before (part ++ left)) ∙ get_or_append_left part left [] i within

  -- the first of the level is the top
  top_first : (t : Tree level) (before left : List (List ℕ)) →
      chunks_of content ≡ before ++ (tree t ++ left) →
      IsFirstOfLevel (chunk_file content) level (length before) (length before + length (under t))
  top_first t before left are = record {
    from_on = omega arith;
    within = omega (
      arith,
      ap length are,
      length-append before (tree t ++ left),
      length-append (tree t) left,
      tree_length t,
    );
    is = ap level_of (part_at before (tree t) left are (length (under t))
        (omega (arith, tree_length t)) ∙
        ap (λ cs. get_or cs (length (under t)) []) (top_last content.version level t) ∙
        get_or_push (under t) (bytes_of content.version level t) [] (length (under t)) refl) ∙
        level_is content.version level t;
    none = λ n from_on below same.
        let i = n - length before in
        let e : n ≡ length before + i = omega (arith, from_on) in
        let within : i < length (under t) = omega (arith, e, below) in
        let low : level_of (nth_chunk content n) < level =
        subst (λ c. level_of c < level) (sym (ap (nth_chunk content) e ∙
        part_at before (tree t) left are i (omega (arith, within, tree_length t)) ∙
        ap (λ cs. get_or cs i []) (top_last content.version level t) ∙
        get_or_append_left (under t) (bytes_of content.version level t ∷ []) [] i within))
        (All-from_recursion (IsLower content.version level) (under t)
        (all_lower content.version level t) i [] within) in
        omega (arith, low, same);
  }

  -- and so on, tree by tree
  behind_tops : (front : List (Tree level)) (before left : List (List ℕ)) (from k to n : ℕ) →
      chunks_of content ≡ before ++ (trees front ++ left) →
      IsBehind (chunk_file content) level from k (length before) → to ≡ k + length front →
      n ≡ length before + length (trees front) → IsBehind (chunk_file content) level from to n
  behind_tops [] before left from k to n are h count long =
      let same : k ≡ to = omega (arith, count) in
      let there : length before ≡ n = omega (arith, long) in
      subst (λ k. IsBehind (chunk_file content) level from k n) same
      (subst (IsBehind (chunk_file content) level from k) there h)
  behind_tops (u ∷ front) before left from k to n are h count long =
      behind_tops front (before ++ tree u) left from (k + 1) to n
      (are ∙ rw (trees_cons u front) (simp append_assoc))
      (behind_next (chunk_file content) level from k (length before)
      (length before + length (under u))
      (length (before ++ tree u)) h (top_first u before (trees front ++ left)
      (are ∙ rw (trees_cons u front) (simp append_assoc)))
      (omega (arith, length-append before (tree u), tree_length u))) (omega (arith, count))
      (omega (
        arith,
        long,
        length-append before (tree u),
        ap length (trees_cons u front),
        length-append (tree u) (trees front),
      ))

-- the tree is the one with so many before it among trees of the file whose frames begin at the
-- number
pub record StandsAmong (content : Content) (level : ℕ) (t : Tree level) (from k : ℕ) : Type 0 where
  pub front : List (Tree level)
  pub after : List (Tree level)
  pub before : List (List ℕ)
  pub left : List (List ℕ)
  pub number : length front ≡ k
  pub first : from ≡ length before
  pub are : chunks_of content ≡
      before ++ (chunks_of_trees content level (front ++ t ∷ after) ++ left)

module _ {content : Content} {level : ℕ} {t : Tree level} {from k : ℕ}
    (a : StandsAmong content level t from k) where
  abbrev ahead : ℕ
  ahead = length a.before + length (chunks_of_trees content level a.front)

  parted : chunks_of content ≡ (a.before ++ chunks_of_trees content level a.front) ++
      (chunks_of_tree content.version level t ++
      (chunks_of_trees content level a.after ++ a.left))
  parted = a.are ∙ rw (trees_append a.front (t ∷ a.after), trees_cons content level t a.after)
      (simp append_assoc)
    where
      trees_append : (done rest : List (Tree level)) →
          chunks_of_trees content level (done ++ rest) ≡
          chunks_of_trees content level done ++ chunks_of_trees content level rest
      trees_append done rest = ap (map (λ c. c.bytes))
          (flat_map-append (post_order content.version level) done rest) ∙
          map-append (λ c. c.bytes) (flat_map (post_order content.version level) done)
          (flat_map (post_order content.version level) rest)

  behind_there : IsBehind (chunk_file content) level from k ahead
  behind_there = behind_tops content level a.front a.before (chunks_of_tree content.version level t
      ++ (chunks_of_trees content level a.after ++ a.left)) from 0 k ahead
      (parted ∙ simp append_assoc) (sym a.first) (omega (arith, a.number)) refl

  -- So its top is that one of the level.
  abbrev pub top_number : ℕ
  top_number = ahead + length (chunks_below content.version level t)

  pub top_nth : IsNth (chunk_file content) level from k top_number
  top_nth = nth_next (chunk_file content) level k from ahead top_number behind_there
      (subst (λ n. IsFirstOfLevel (chunk_file content) level n
      (n + length (chunks_below content.version level t)))
      (length-append a.before (chunks_of_trees content level a.front))
      (top_first content level t (a.before ++ chunks_of_trees content level a.front)
      (chunks_of_trees content level a.after ++ a.left) parted))

  -- And the place that is found there is that of the tree.
  pub tree_found : {n below : ℕ} → IsNth (chunk_file content) level from k n →
      IsBehind (chunk_file content) level from k below → IsTreeAt content level t n below
  tree_found {n = n} {below = below} nth behind =
      let rest = chunks_of_trees content level a.front in
      let long = length-append a.before rest in
      record {
        before = a.before ++ rest;
        left = chunks_of_trees content level a.after ++ a.left;
        are = parted;
        from_is = behind_one (chunk_file content) level k from below ahead behind behind_there ∙
            sym long;
        number_is = nth_one (chunk_file content) level k from n top_number nth top_nth ∙
            ap (λ n. n + length (chunks_below content.version level t)) (sym long);
      }

-- ---- where tops stand

-- The last chunk is the root.
pub root_at : (content : Content) →
    IsTreeAt content (root_level content) (root_tree content) (length (chunks_of content) - 1) 0
root_at content =
    let low = chunks_below content.version (root_level content) (root_tree content) in
    let top = bytes_of content.version (root_level content) (root_tree content) in
    record {
      before = [];
      left = [];
      are = sym (append-nil (chunks_of_tree content.version (root_level content)
          (root_tree content)));
      from_is = refl;
      number_is = omega (
        arith,
        ap length (top_last content.version (root_level content) (root_tree content)),
        length-append low (top ∷ []),
      );
    }

-- A child of a node stands among those below it.
pub child_among : {content : Content} {level : ℕ} {ts : List (Tree level)} {number : ℕ}
    {t : Tree level} {n from : ℕ} → IsTreeAt content (suc level) ts n from →
    IsChildNumber level ts number t → StandsAmong content level t from number
child_among {content = content} {level = level} {ts = ts} stands at =
    let top = bytes_of content.version (suc level) ts in record {
      front = at.front;
      after = at.after;
      before = stands.before;
      left = top ∷ stands.left;
      number = at.number_is;
      first = stands.from_is;
      are = subst (λ trees. chunks_of content ≡
          stands.before ++ (chunks_of_trees content level trees ++ top ∷ stands.left)) at.are
          (stands.are ∙ rw (top_last content.version (suc level) ts) (simp append_assoc));
    }

-- The chunk that stands there is the top of the tree.
pub top_is : {content : Content} {level : ℕ} {t : Tree level} {n from : ℕ} →
    IsTreeAt content level t n from →
    nth_in (chunk_file content) n ≡ bytes_of content.version level t
top_is {content = content} {level = level} {t = t} stands =
    let low = chunks_below content.version level t in
    let top = bytes_of content.version level t in
    let own = chunks_of_tree content.version level t in
    ap (nth_chunk content) stands.number_is ∙
    part_at content level stands.before own stands.left stands.are (length low)
    (omega (arith, ap length (top_last content.version level t), length-append low (top ∷ []))) ∙
    ap (λ cs. get_or cs (length low) []) (top_last content.version level t) ∙
    get_or_push low top [] (length low) refl
