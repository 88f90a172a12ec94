-- Chunks that are taken one after another, and the tree that they are of.
use Rattle.std.proofs.Common.{◌≡◌, ℕ, zero, suc, ◌⊎◌, inl, inr, List, [], ◌∷◌, ◌++◌, map, refl, sym}
use Rattle.std.proofs.Common.{ap, ◌∙◌, subst, append_assoc, append-nil, Option, Some, None}
use Rattle.std.specs.List.{AllByRecursion, flat_map}
use Rattle.prolly_look_up.specs.MapTree.{ChildIsTree, IsTreeOf, RootIsTree, TopIsRead, child_of}
use Rattle.prolly_look_up.specs.MapTree.{entries_below}
use Rattle.prolly_look_up.specs.Entries.{Child}
use Rattle.prolly_look_up.specs.Content.{chunk_bytes}
use Rattle.prolly_look_up.specs.Kinds.{Entries, kind_of}
use Rattle.prolly_look_up.specs.Way.{Clash, FallsTo, level_of}
use Rattle.prolly_look_up.specs.lemmas.Clashes.{top_or_clash, wider}
use Rattle.prolly_entry.specs.Cut.{sha512_cut}
use Rattle.prolly_entry.specs.Pair.{Pair}
use Rattle.prolly_entry.specs.Reference.{reference_of}
use Rattle.prolly_entry.specs.declared.version.Version.{Version}
use Rattle.prolly_laws.specs.Trees.{pairs_are}
use Rattle.prolly_root.specs.lemmas.FileTrees.{level_is}
use Rattle.prolly_tree.specs.Chunk.{IsIn}
use Rattle.prolly_tree.specs.Tree.{LeveledTree, Tree, bytes_of, greatest_key, pairs_below, tree_of}
use Rattle.prolly_tree.specs.lemmas.Maps.{rises}
use Rattle.prolly_range.specs.KeySet.{KeySet, Met, met_first, met_in, pairs_wanted, part_behind}
use Rattle.prolly_range.specs.KeySet.{part_below}
use Rattle.prolly_range.specs.SetProof.{AreTaken, Due, SetProofsAreRight}
use Rattle.prolly_range.specs.SetProof.{TakenAreRight, Takes, child_due, chunks_met}
use Rattle.prolly_range.specs.SetProof.{due_below, pairs_there, root_due, set_file}
use Rattle.prolly_range.proofs.Parts.{met_keep, wanted_below}

-- ---- a node's children, and its child trees

-- what is met of the entries is met of the trees
module _ (version : Version) (level : ℕ) where
  abbrev pub as_child : Met (Tree level) → Met Child
  as_child m = record { number = m.number; item = child_of version level m.item; set = m.set }

  first_child : (number : ℕ) (t : Tree level) (part : Option KeySet)
      (others : List (Met (Tree level))) →
      met_first number (child_of version level t) part (map as_child others) ≡
      map as_child (met_first number t part others)
  first_child number t None others = refl
  first_child number t (Some part) others = refl

  pub met_children : (number : ℕ) (part : Option KeySet) (ts : List (Tree level)) →
      met_in (λ c. c.key) number part (map (child_of version level) ts) ≡
      map as_child (met_in (greatest_key level) number part ts)
  met_children number None ts = refl
  met_children number (Some set) [] = refl
  met_children number (Some set) (t ∷ ts) =
      let key = greatest_key level t in
      ap (met_first number (child_of version level t) (part_below set key))
      (met_children (suc number) (part_behind set key) ts) ∙
      first_child number t (part_below set key)
      (met_in (greatest_key level) (suc number) (part_behind set key) ts)

  -- what holds of all trees holds of those that are met
  first_all : (P : Tree level → Type 0) (number : ℕ) (t : Tree level) (part : Option KeySet)
      (others : List (Met (Tree level))) → P t → AllByRecursion (λ m. P m.item) others →
      AllByRecursion (λ m. P m.item) (met_first number t part others)
  first_all P number t None others h k = k
  first_all P number t (Some part) others h k = (h, k)

  pub met_all : (P : Tree level → Type 0) (number : ℕ) (part : Option KeySet)
      (ts : List (Tree level)) → AllByRecursion P ts →
      AllByRecursion (λ m. P m.item) (met_in (greatest_key level) number part ts)
  met_all P number None ts h = tt
  met_all P number (Some set) [] h = tt
  met_all P number (Some set) (t ∷ ts) h =
      let key = greatest_key level t in
      first_all P number t (part_below set key)
      (met_in (greatest_key level) (suc number) (part_behind set key) ts) h.0
      (met_all P (suc number) (part_behind set key) ts h.1)

-- ---- what is due, and the trees that are due

module _ (version : Version) (cs : List (List ℕ)) where
  -- the chunk that is due is the top of the tree
  pub record IsTop (due : Due) (t : LeveledTree) : Type 0 where
    pub of : IsTreeOf version cs t.level t.tree
    pub named : due.reference ≡ reference_of (bytes_of version t.level t.tree)
    pub falls : FallsTo due.above (bytes_of version t.level t.tree)

  -- each of these is the top of one of the trees
  abbrev pub AreTops : List Due → List LeveledTree → Type 0
  AreTops [] [] = Unit {0}
  AreTops [] (t ∷ ts) = ⊥
  AreTops (d ∷ ds) [] = ⊥
  AreTops (d ∷ ds) (t ∷ ts) = IsTop d t × AreTops ds ts

  -- the pairs and the chunks that are left
  abbrev pub left_pairs : List Due → List LeveledTree → List Pair
  left_pairs [] ts = []
  left_pairs (d ∷ ds) [] = []
  left_pairs (d ∷ ds) (t ∷ ts) = pairs_wanted d.set (pairs_below t.level t.tree) ++ left_pairs ds ts

  abbrev pub left_chunks : List Due → List LeveledTree → List (List ℕ)
  left_chunks [] ts = []
  left_chunks (d ∷ ds) [] = []
  left_chunks (d ∷ ds) (t ∷ ts) = chunks_met version t.level t.tree d.set ++ left_chunks ds ts

  -- behind the first chunk, which shows these pairs, these are due, and the tops of trees
  pub record GoesOn (due : List Due) (trees : List LeveledTree) (chunk : List ℕ) (pairs : List Pair)
      (next : List Due) : Type 0 where
    pub others : List LeveledTree
    pub tops : AreTops next others
    pub pairs_are : left_pairs due trees ≡ pairs ++ left_pairs next others
    pub chunks_are : left_chunks due trees ≡ chunk ∷ left_chunks next others

  -- ---- below a node

  abbrev due_of : (level : ℕ) → List (Met (Tree level)) → List Due
  due_of level ms = map (child_due (suc level)) (map (as_child version level) ms)

  abbrev trees_of : (level : ℕ) → List (Met (Tree level)) → List LeveledTree
  trees_of level ms = map (λ m. record { level = level; tree = m.item }) ms

  below_tops : (level : ℕ) (ms : List (Met (Tree level))) (ds : List Due) (ts : List LeveledTree) →
      AllByRecursion (λ m. IsTreeOf version cs level m.item) ms → AreTops ds ts →
      AreTops (due_of level ms ++ ds) (trees_of level ms ++ ts)
  below_tops level [] ds ts h k = k
  below_tops level (m ∷ ms) ds ts h k = (
    record {
      of = h.0;
      named = refl;
      falls = ap suc (sym (level_is version level m.item));
    },
    below_tops level ms ds ts h.1 k,
  )

  below_pairs : (level : ℕ) (ms : List (Met (Tree level))) (ds : List Due) (ts : List LeveledTree) →
      left_pairs (due_of level ms ++ ds) (trees_of level ms ++ ts) ≡
      wanted_below level ms ++ left_pairs ds ts
  below_pairs level [] ds ts = refl
  below_pairs level (m ∷ ms) ds ts =
      let own = pairs_wanted m.set (pairs_below level m.item) in
      ap (λ ps. own ++ ps) (below_pairs level ms ds ts) ∙
      sym (append_assoc own (wanted_below level ms) (left_pairs ds ts))

  below_chunks : (level : ℕ) (ms : List (Met (Tree level))) (ds : List Due) (ts : List LeveledTree) →
      left_chunks (due_of level ms ++ ds) (trees_of level ms ++ ts) ≡
      flat_map (λ m. chunks_met version level m.item m.set) ms ++ left_chunks ds ts
  below_chunks level [] ds ts = refl
  below_chunks level (m ∷ ms) ds ts =
      let own = chunks_met version level m.item m.set in
      ap (λ cs. own ++ cs) (below_chunks level ms ds ts) ∙
      sym (append_assoc own (flat_map (λ m. chunks_met version level m.item m.set) ms)
      (left_chunks ds ts))

  module _ (child_is : (version : Version) → ChildIsTree version)
      (read : (version : Version) → TopIsRead version) where
    each_child : (level : ℕ) (before after : List (Tree level)) →
        IsTreeOf version cs (suc level) (before ++ after) →
        AllByRecursion (λ t. IsTreeOf version cs level t) after
    each_child level before [] b = tt
    each_child level before (t ∷ after) b = (
      child_is version cs level before after t b,
      each_child level (before ++ t ∷ []) after
          (subst (IsTreeOf version cs (suc level)) (sym (append_assoc before (t ∷ []) after)) b),
    )

    -- ---- one chunk

    abbrev next_due : (level : ℕ) → KeySet → Entries → List Due → List Due
    next_due level set entries others = due_below level set entries ++ others

    module _ (first : Due) (ds : List Due) (ts : List LeveledTree) (tops : AreTops ds ts) where
      abbrev Goes : (level : ℕ) → Tree level → Entries → Type 0
      Goes level t entries = GoesOn (first ∷ ds) (record { level = level; tree = t } ∷ ts)
          (bytes_of version level t) (pairs_there first.set entries)
          (next_due level first.set entries ds)

      at_top : (level : ℕ) (t : Tree level) → IsTreeOf version cs level t →
          Goes level t (entries_below version level t)
      at_top zero leaf b = record {
        others = ts;
        tops = tops;
        pairs_are = refl;
        chunks_are = refl;
      }
      at_top (suc level) nodes b =
          let ms = met_in (greatest_key level) 0 (Some first.set) nodes in
          let due : next_due (suc level) first.set (entries_below version (suc level) nodes) ds ≡
          due_of level ms ++ ds = ap (λ xs. map (child_due (suc level)) xs ++ ds)
          (met_children version level 0 (Some first.set) nodes) in
          record {
            others = trees_of level ms ++ ts;
            tops = subst (λ next. AreTops next (trees_of level ms ++ ts)) (sym due)
                (below_tops level ms ds ts
                (met_all version level (IsTreeOf version cs level) 0 (Some first.set) nodes
                (each_child level [] nodes b)) tops);
            pairs_are =
                ap (λ ps. ps ++ left_pairs ds ts) (met_keep level 0 (Some first.set) nodes b.full
                (rises (flat_map (pairs_below level) nodes) b.rising)) ∙
                sym (below_pairs level ms ds ts) ∙
                ap (λ next. left_pairs next (trees_of level ms ++ ts)) (sym due);
            chunks_are = ap (λ xs. bytes_of version (suc level) nodes ∷ xs)
                (sym (below_chunks level ms ds ts) ∙
                ap (λ next. left_chunks next (trees_of level ms ++ ts)) (sym due));
          }

      -- the chunk of the top is taken
      pub top_taken : (t : LeveledTree) → IsTop first t → (chunk : List ℕ) →
          chunk ≡ bytes_of version t.level t.tree →
          GoesOn (first ∷ ds) (t ∷ ts) chunk (pairs_there first.set (kind_of version chunk))
          (next_due (level_of chunk) first.set (kind_of version chunk) ds)
      top_taken t top chunk e =
          subst (λ c. GoesOn (first ∷ ds) (t ∷ ts) c (pairs_there first.set (kind_of version c))
          (next_due (level_of c) first.set (kind_of version c) ds)) (sym e)
          (subst (λ level. GoesOn (first ∷ ds) (t ∷ ts) (bytes_of version t.level t.tree)
          (pairs_there first.set (kind_of version (bytes_of version t.level t.tree)))
          (next_due level first.set (kind_of version (bytes_of version t.level t.tree)) ds))
          (sym (level_is version t.level t.tree))
          (subst (λ entries. GoesOn (first ∷ ds) (t ∷ ts) (bytes_of version t.level t.tree)
          (pairs_there first.set entries) (next_due t.level first.set entries ds))
          (sym (read version cs t.level t.tree top.of).1) (at_top t.level t.tree top.of)))

    -- what is taken is the top of the first tree, or clashes with it
    pub takes_top : (due : List Due) (trees : List LeveledTree) (chunk : List ℕ) (pairs : List Pair)
        (next : List Due) → AreTops due trees → Takes version due chunk pairs next →
        GoesOn due trees chunk pairs next ⊎ Clash (chunk ∷ []) cs
    takes_top [] trees chunk pairs next tops k = absurd (nothing k.was)
      where
        nothing : {x : Due} {xs : List Due} → ◌≡◌ {A = List Due} [] (x ∷ xs) → ⊥
        nothing e = cc
    takes_top (d ∷ ds) [] chunk pairs next tops k = absurd tops
    takes_top (d ∷ ds) (t ∷ trees) chunk pairs next tops k =
        let first : k.first ≡ d = cc_heads k.was in
        let others : k.others ≡ ds = cc_tails k.was in
        elim (top_or_clash version cs t.level t.tree chunk (chunk ∷ []) tops.0.of.has (inl refl)
        (k.named.is ∙ ap (λ x. x.reference) first ∙ tops.0.named)) [
          | inl e ↦ inl (subst (λ n. GoesOn (d ∷ ds) (t ∷ trees) chunk pairs n)
              (sym (k.is ∙ ap (λ x. next_due (level_of chunk) x.set (kind_of version chunk) k.others)
              first ∙ ap (next_due (level_of chunk) d.set (kind_of version chunk)) others))
              (subst (λ ps. GoesOn (d ∷ ds) (t ∷ trees) chunk ps
              (next_due (level_of chunk) d.set (kind_of version chunk) ds))
              (sym (k.shows ∙ ap (λ x. pairs_there x.set (kind_of version chunk)) first))
              (top_taken d ds trees tops.1 t tops.0 chunk e)))
          | inr clash ↦ inr clash
        ]
      where
        cc_heads : {x y : Due} {xs ys : List Due} → x ∷ xs ≡ y ∷ ys → y ≡ x
        cc_heads e = cc

        cc_tails : {x y : Due} {xs ys : List Due} → x ∷ xs ≡ y ∷ ys → ys ≡ xs
        cc_tails e = cc

    -- ---- one after another

    -- so many chunks were taken, and these are left
    pub record HaveGone (due : List Due) (trees : List LeveledTree) (chunks : List (List ℕ))
        (pairs : List Pair) (rest : List Due) : Type 0 where
      pub others : List LeveledTree
      pub tops : AreTops rest others
      pub pairs_are : left_pairs due trees ≡ pairs ++ left_pairs rest others
      pub chunks_are : left_chunks due trees ≡ chunks ++ left_chunks rest others

    pub have_gone : (due : List Due) (trees : List LeveledTree) (chunks : List (List ℕ))
        (pairs : List Pair) (rest : List Due) → AreTops due trees →
        AreTaken version due chunks pairs rest → HaveGone due trees chunks pairs rest ⊎ Clash chunks cs
    have_gone due trees [] pairs rest tops taken = inl (record {
      others = trees;
      tops = subst (λ ds. AreTops ds trees) taken.0 tops;
      pairs_are = ap (λ ds. left_pairs ds trees) taken.0 ∙
          ap (λ ps. ps ++ left_pairs rest trees) (sym taken.1);
      chunks_are = ap (λ ds. left_chunks ds trees) taken.0;
    })
    have_gone due trees (chunk ∷ chunks) pairs rest tops taken =
        elim (takes_top due trees chunk taken.0 taken.2 tops taken.3) [
          | inl goes ↦
              elim (have_gone taken.2 goes.others chunks taken.1 rest goes.tops taken.4) [
                | inl gone ↦ inl (record {
                  others = gone.others;
                  tops = gone.tops;
                  pairs_are = goes.pairs_are ∙ ap (λ ps. taken.0 ++ ps) gone.pairs_are ∙
                      sym (append_assoc taken.0 taken.1 (left_pairs rest gone.others)) ∙
                      ap (λ ps. ps ++ left_pairs rest gone.others) (sym taken.5);
                  chunks_are = goes.chunks_are ∙ ap (λ xs. chunk ∷ xs) gone.chunks_are;
                })
                | inr clash ↦ inr (wider chunks cs (chunk ∷ chunks) cs (λ c h. inr h) (λ c h. h)
                    clash)
              ]
          | inr clash ↦ inr (wider (chunk ∷ []) cs (chunk ∷ chunks) cs first_in (λ c h. h) clash)
        ]
      where
        first_in : (c : List ℕ) → IsIn c (chunk ∷ []) → IsIn c (chunk ∷ chunks)
        first_in c (inl e) = inl e
        first_in c (inr h) = absurd h

-- ---- from the root of a map

module _ (root_is : RootIsTree) (child_is : (version : Version) → ChildIsTree version)
    (read : (version : Version) → TopIsRead version) where
  pub taken_are_right : TakenAreRight
  taken_are_right version bits m set chunks pairs due rising lawful taken =
      let root = tree_of (sha512_cut bits) version m in
      let cs = chunk_bytes version bits m in
      elim (have_gone version cs child_is read (root_due (reference_of (bytes_of version root.level
      root.tree)) set ∷ []) (root ∷ []) chunks pairs due (
        record {
          of = root_is version bits m lawful rising;
          named = refl;
          falls = tt;
        },
        tt,
      ) taken) [
        | inl gone ↦ inl (record {
          more_pairs = left_pairs version cs due gone.others;
          more_chunks = left_chunks version cs due gone.others;
          pairs_are = sym (ap (pairs_wanted set) (pairs_are (sha512_cut bits) version m)) ∙
              sym (append-nil (pairs_wanted set (pairs_below root.level root.tree))) ∙
              gone.pairs_are;
          chunks_are = sym (append-nil (chunks_met version root.level root.tree set)) ∙
              gone.chunks_are;
          all = λ e. (
            ap (λ ds. left_pairs version cs ds gone.others) e,
            ap (λ ds. left_chunks version cs ds gone.others) e,
          );
        })
        | inr clash ↦ inr clash
      ]

  pub set_proofs_are_right : SetProofsAreRight
  set_proofs_are_right version bits m set bytes pairs rising lawful p =
      let root = tree_of (sha512_cut bits) version m in
      elim (taken_are_right version bits m set p.chunks pairs [] rising lawful p.taken) [
        | inl first ↦
            let all = first.all refl in
            inl (
              sym (first.pairs_are ∙ ap (λ ps. pairs ++ ps) all.0 ∙ append-nil pairs),
              p.is ∙ ap (set_file version) (sym (first.chunks_are ∙
                  ap (λ cs. p.chunks ++ cs) all.1 ∙ append-nil p.chunks)),
            )
        | inr clash ↦ inr (record { chunks = p.chunks; is = p.is; clash = clash })
      ]
