-- What two trees share, and what a walk over them read.
use Rattle.std.proofs.Common.{◌≡◌, ℕ, zero, suc, ◌+◌, ◌⊎◌, inl, inr, List, [], ◌∷◌, ◌++◌, map}
use Rattle.std.proofs.Common.{refl, sym, ap, ◌∙◌, subst, append_assoc, arith}
use Rattle.std.proofs.lemmas.List.{map-append}
use Rattle.std.proofs.lemmas.List.Sums.{sum_by-append, sum_by-cons}
use Rattle.std.specs.List.{flat_map, AllByRecursion, sum_by}
use Rattle.prolly_look_up.specs.MapTree.{ChildIsTree, IsTreeOf, TopIsRead, child_of, entries_below}
use Rattle.prolly_look_up.specs.Entries.{Child}
use Rattle.prolly_look_up.specs.Kinds.{Entries, kind_of}
use Rattle.prolly_look_up.specs.Kinds.Entries.{Leaf, Node}
use Rattle.prolly_look_up.specs.Way.{Clash, IsNamed, level_of}
use Rattle.prolly_look_up.specs.lemmas.Clashes.{top_or_clash}
use Rattle.prolly_entry.specs.Reference.{reference_of}
use Rattle.prolly_entry.specs.declared.version.Version.{Version}
use Rattle.prolly_entry.specs.Pair.{Pair}
use Rattle.prolly_entry.specs.lemmas.Lists.{all_append, head_is, no_cons, tail_is}
use Rattle.prolly_laws.specs.Trees.{top_in}
use Rattle.prolly_tree.specs.lemmas.Trees.{in_back, in_front}
use Rattle.prolly_tree.specs.Chunk.{chunk_of, post_order}
use Rattle.prolly_tree.specs.Tree.{LeveledTree, Tree, bytes_of}
use Rattle.prolly_root_diff.specs.Left.{Due, Left, Opens, due_of, opened, references_in, tops_of}
use Rattle.prolly_root_diff.specs.Notes.{read_new, read_old}
use Rattle.prolly_root_diff.specs.Walks.{Clashing, Leads, Lefts, Move, Takes, TakesChange, read_on}
use Rattle.prolly_root_diff.specs.declared.change.RootChange.{RootChange}
use Rattle.prolly_root_diff.specs.declared.change.RootChange.TheVariants.{Added, Changed, Removed}
use Rattle.prolly_root_diff.proofs.Clashes.{both_clash, more_last, read_clash}
use Rattle.prolly_root_diff.proofs.Opening.{children_each, leveled}

-- ---- what is due

-- the references of the subtrees that are due
abbrev due_in : Left → List (List ℕ)
due_in left = map (λ d. d.reference) left.due

due_opened : (level : ℕ) (entries : Entries) (due : List Due) →
    due_in (opened level entries due) ≡ references_in entries ++ map (λ d. d.reference) due
due_opened level (Leaf pairs) due = refl
due_opened level (Node children) due = children_due children
  where
    children_due : (children : List Child) →
        map (λ d. d.reference) (due_of level children ++ due) ≡
        map (λ c. c.reference) children ++ map (λ d. d.reference) due
    children_due [] = refl
    children_due (c ∷ children) = ap (λ rs. c.reference ∷ rs) (children_due children)

module _ (version : Version) (old new : Left) (o : Opens version old new) where
  was_due : due_in old ≡ o.first.reference ∷ map (λ d. d.reference) o.due
  was_due = ap due_in o.was

  now_due : due_in new ≡
      references_in (kind_of version o.chunk) ++ map (λ d. d.reference) o.due
  now_due = ap due_in o.is ∙ due_opened (level_of o.chunk) (kind_of version o.chunk) o.due

-- a chunk was read in the place of the first subtree: what was due, and what is due then
record DueRead (version : Version) (old new : Left) (chunk : List ℕ) : Type 0 where
  first : List ℕ
  rest : List (List ℕ)
  was : due_in old ≡ first ∷ rest
  named : IsNamed version first chunk
  is : due_in new ≡ references_in (kind_of version chunk) ++ rest

due_read : (version : Version) (old new : Left) (chunk : List ℕ)
    (o : Opens version old new) → chunk ≡ o.chunk → DueRead version old new chunk
due_read version old new chunk o same = subst (DueRead version old new) (sym same) (record {
  first = o.first.reference;
  rest = map (λ d. d.reference) o.due;
  was = was_due version old new o;
  named = o.named;
  is = now_due version old new o;
})

-- ---- the chunks of trees

-- the chunks of a tree
abbrev pub chunks_in : Version → (level : ℕ) → Tree level → List (List ℕ)
chunks_in version level t = map (λ c. c.bytes) (post_order version level t)

-- the chunks of trees
abbrev chunks_under : Version → List LeveledTree → List (List ℕ)
chunks_under version trees = flat_map (λ t. chunks_in version t.level t.tree) trees

-- those below the top of a node
abbrev below : Version → (level : ℕ) → List (Tree level) → List (List ℕ)
below version level ts = map (λ c. c.bytes) (flat_map (post_order version level) ts)

leveled_chunks : (version : Version) (level : ℕ) (ts : List (Tree level))
    (trees : List LeveledTree) → chunks_under version (leveled level ts ++ trees) ≡
    below version level ts ++ chunks_under version trees
leveled_chunks version level [] trees = refl
leveled_chunks version level (t ∷ ts) trees =
    ap (λ cs. chunks_in version level t ++ cs) (leveled_chunks version level ts trees) ∙
    sym (append_assoc (chunks_in version level t) (below version level ts)
    (chunks_under version trees)) ∙
    ap (λ cs. cs ++ chunks_under version trees) (sym (map-append (λ c. c.bytes)
    (post_order version level t) (flat_map (post_order version level) ts)))

leveled_tops : (version : Version) (level : ℕ) (ts : List (Tree level)) (trees : List LeveledTree) →
    tops_of version (leveled level ts ++ trees) ≡
    map (λ c. c.reference) (map (child_of version level) ts) ++ tops_of version trees
leveled_tops version level [] trees = refl
leveled_tops version level (t ∷ ts) trees = ap (λ rs. reference_of (bytes_of version level t) ∷ rs)
    (leveled_tops version level ts trees)

node_chunks : (version : Version) (level : ℕ) (ts : List (Tree level)) →
    chunks_in version (suc level) ts ≡
    below version level ts ++ bytes_of version (suc level) ts ∷ []
node_chunks version level ts = map-append (λ c. c.bytes) (flat_map (post_order version level) ts)
    (chunk_of version (suc level) ts ∷ [])

-- the top of a node and what is below its children, whatever is counted
node_sum : (version : Version) (level : ℕ) (ts : List (Tree level)) (trees : List LeveledTree)
    (f : List ℕ → ℕ) → sum_by f (chunks_in version (suc level) ts ++ chunks_under version trees) ≡
    f (bytes_of version (suc level) ts) +
    sum_by f (chunks_under version (leveled level ts ++ trees))
node_sum version level ts trees f =
    let top = bytes_of version (suc level) ts in
    let whole = ap (λ cs. sum_by f (cs ++ chunks_under version trees))
    (node_chunks version level ts) in
    let all = sum_by-append f (below version level ts ++ top ∷ []) (chunks_under version trees) in
    let node = sum_by-append f (below version level ts) (top ∷ []) in
    let one = sum_by-cons f top [] in
    let parts = ap (sum_by f) (leveled_chunks version level ts trees) in
    let rest = sum_by-append f (below version level ts) (chunks_under version trees) in
    omega arith

-- ---- what was read

-- of both trees, the chunks are those that were read and the same others
pub record Parted (version : Version) (ts us : List LeveledTree) (way : List Move) : Type 0 where
  pub passed : List (List ℕ)
  pub old : (f : List ℕ → ℕ) → sum_by f (chunks_under version ts) ≡
      sum_by f (read_old way) + sum_by f passed
  pub new : (f : List ℕ → ℕ) → sum_by f (chunks_under version us) ≡
      sum_by f (read_new way) + sum_by f passed

-- ---- a chunk in the place of a tree

-- the trees below the chunk, and after them the others
record Opened (version : Version) (cs : List (List ℕ)) (trees others : List LeveledTree)
    (chunk : List ℕ) : Type 0 where
  pub left : List LeveledTree
  pub each : AllByRecursion (λ t. IsTreeOf version cs t.level t.tree) left
  pub tops : tops_of version left ≡
      references_in (kind_of version chunk) ++ tops_of version others
  pub sums : (f : List ℕ → ℕ) → sum_by f (chunks_under version trees) ≡
      f chunk + sum_by f (chunks_under version left)

-- where a pair was taken, the same is due
due_taken : (old new : Left) (p : Pair) → Takes old p new → due_in old ≡ due_in new
due_taken old new p t = ap (map (λ d. d.reference)) (sym t.1)

due_given : (old new : Lefts) (change : RootChange) → TakesChange old change new →
    (due_in old.before ≡ due_in new.before) × (due_in old.after ≡ due_in new.after)
due_given old new (Removed p) t =
    (due_taken old.before new.before p t.0, ap due_in (sym t.1))
due_given old new (Added q) t = (ap due_in (sym t.1), due_taken old.after new.after q t.0)
due_given old new (Changed p q) t =
    (due_taken old.before new.before p t.0, due_taken old.after new.after q t.1)

module _ (child_is : (version : Version) → ChildIsTree version)
    (top_is_read : (version : Version) → TopIsRead version) (version : Version) where
  at_top : (cs : List (List ℕ)) (others : List LeveledTree) →
      AllByRecursion (λ t. IsTreeOf version cs t.level t.tree) others → (level : ℕ)
      (t : Tree level) → IsTreeOf version cs level t →
      Opened version cs (record { level = level; tree = t } ∷ others) others
      (bytes_of version level t)
  at_top cs others each zero leaf b = record {
    left = others;
    each = each;
    tops = ap (λ entries. references_in entries ++ tops_of version others)
        (sym (top_is_read version cs 0 leaf b).1);
    sums = λ f. sum_by-cons f (bytes_of version 0 leaf) (chunks_under version others);
  }
  at_top cs others each (suc level) ts b = record {
    left = leveled level ts ++ others;
    each = all_append (λ t. IsTreeOf version cs t.level t.tree) (leveled level ts) others
        (children_each child_is version cs level [] ts b) each;
    tops = leveled_tops version level ts others ∙
        ap (λ entries. references_in entries ++ tops_of version others)
        (sym (top_is_read version cs (suc level) ts b).1);
    sums = node_sum version level ts others;
  }

  opened_one : (cs : List (List ℕ)) (t : LeveledTree) (others : List LeveledTree) →
      IsTreeOf version cs t.level t.tree →
      AllByRecursion (λ t. IsTreeOf version cs t.level t.tree) others → (first chunk : List ℕ) →
      IsNamed version first chunk → reference_of (bytes_of version t.level t.tree) ≡ first →
      Opened version cs (t ∷ others) others chunk ⊎ Clash (chunk ∷ []) cs
  opened_one cs t others b each first chunk named is =
      go (top_or_clash version cs t.level t.tree chunk (chunk ∷ []) b.has (inl refl)
      (named.is ∙ sym is))
    where
      go : (chunk ≡ bytes_of version t.level t.tree) ⊎ Clash (chunk ∷ []) cs →
          Opened version cs (t ∷ others) others chunk ⊎ Clash (chunk ∷ []) cs
      go (inr clash) = inr clash
      go (inl e) = inl (subst (Opened version cs (t ∷ others) others) (sym e)
          (at_top cs others each t.level t.tree b))

  -- ---- trees of one reference

  module _ (cs ds : List (List ℕ)) where
    abbrev SameTops : ℕ → Type 0
    SameTops level = (t : Tree level) (level' : ℕ) (u : Tree level') →
        IsTreeOf version cs level t → IsTreeOf version ds level' u →
        reference_of (bytes_of version level t) ≡ reference_of (bytes_of version level' u) →
        (chunks_in version level t ≡ chunks_in version level' u) ⊎ Clash cs ds

    abbrev Each : List (List ℕ) → (level : ℕ) → List (Tree level) → Type 0
    Each all level ts = AllByRecursion (λ t. IsTreeOf version all t.level t.tree) (leveled level ts)

    below_same : (level : ℕ) → SameTops level → (ts : List (Tree level)) (level' : ℕ)
        (us : List (Tree level')) → Each cs level ts → Each ds level' us →
        map (child_of version level) ts ≡ map (child_of version level') us →
        (below version level ts ≡ below version level' us) ⊎ Clash cs ds
    below_same level same [] level' [] h k e = inl refl
    below_same level same [] level' (u ∷ us) h k e = cc
    below_same level same (t ∷ ts) level' [] h k e = cc
    below_same level same (t ∷ ts) level' (u ∷ us) h k e =
        join (same t level' u h.0 k.0 (ap (λ c. c.reference) (head_is _ _ _ _ e)))
        (below_same level same ts level' us h.1 k.1 (tail_is _ _ _ _ e))
      where
        join : (chunks_in version level t ≡ chunks_in version level' u) ⊎ Clash cs ds →
            (below version level ts ≡ below version level' us) ⊎ Clash cs ds →
            (below version level (t ∷ ts) ≡ below version level' (u ∷ us)) ⊎ Clash cs ds
        join (inr clash) more = inr clash
        join (inl f) (inr clash) = inr clash
        join (inl f) (inl g) = inl (map-append (λ c. c.bytes) (post_order version level t)
            (flat_map (post_order version level) ts) ∙
            ap (λ xs. xs ++ below version level ts) f ∙
            ap (λ xs. chunks_in version level' u ++ xs) g ∙
            sym (map-append (λ c. c.bytes) (post_order version level' u)
            (flat_map (post_order version level') us)))

    -- two tops of one reference are one chunk
    one_top : (level : ℕ) (t : Tree level) (level' : ℕ) (u : Tree level') →
        IsTreeOf version cs level t → IsTreeOf version ds level' u →
        reference_of (bytes_of version level t) ≡ reference_of (bytes_of version level' u) →
        (bytes_of version level t ≡ bytes_of version level' u) ⊎ Clash cs ds
    one_top level t level' u b d e = top_or_clash version ds level' u (bytes_of version level t) cs
        d.has (b.has (chunk_of version level t) (top_in version level t)) e

    entries_same : (level : ℕ) (t : Tree level) (level' : ℕ) (u : Tree level') →
        IsTreeOf version cs level t → IsTreeOf version ds level' u →
        bytes_of version level t ≡ bytes_of version level' u →
        entries_below version level t ≡ entries_below version level' u
    entries_same level t level' u b d e = sym (top_is_read version cs level t b).1 ∙
        ap (kind_of version) e ∙ (top_is_read version ds level' u d).1

    same_nodes : {xs ys : List Child} → Node xs ≡ Node ys → xs ≡ ys
    same_nodes e = cc

    same_tops : (level : ℕ) → SameTops level
    same_tops zero t zero u b d e = go (one_top 0 t 0 u b d e)
      where
        go : (bytes_of version 0 t ≡ bytes_of version 0 u) ⊎ Clash cs ds →
            (chunks_in version 0 t ≡ chunks_in version 0 u) ⊎ Clash cs ds
        go (inl f) = inl (ap (λ c. c ∷ []) f)
        go (inr clash) = inr clash
    same_tops zero t (suc level') us b d e = go (one_top 0 t (suc level') us b d e)
      where
        go : (bytes_of version 0 t ≡ bytes_of version (suc level') us) ⊎ Clash cs ds →
            (chunks_in version 0 t ≡ chunks_in version (suc level') us) ⊎ Clash cs ds
        go (inl f) =
            let none = entries_same 0 t (suc level') us b d f in cc
        go (inr clash) = inr clash
    same_tops (suc level) ts zero u b d e = go (one_top (suc level) ts 0 u b d e)
      where
        go : (bytes_of version (suc level) ts ≡ bytes_of version 0 u) ⊎ Clash cs ds →
            (chunks_in version (suc level) ts ≡ chunks_in version 0 u) ⊎ Clash cs ds
        go (inl f) =
            let none = entries_same (suc level) ts 0 u b d f in cc
        go (inr clash) = inr clash
    same_tops (suc level) ts (suc level') us b d e =
        go (one_top (suc level) ts (suc level') us b d e) (below_same level (same_tops level) ts
        level' us (children_each child_is version cs level [] ts b)
        (children_each child_is version ds level' [] us d))
      where
        join : bytes_of version (suc level) ts ≡ bytes_of version (suc level') us →
            (below version level ts ≡ below version level' us) ⊎ Clash cs ds →
            (chunks_in version (suc level) ts ≡ chunks_in version (suc level') us) ⊎ Clash cs ds
        join f (inr clash) = inr clash
        join f (inl g) = inl (node_chunks version level ts ∙
            ap (λ xs. xs ++ bytes_of version (suc level) ts ∷ []) g ∙
            ap (λ c. below version level' us ++ c ∷ []) f ∙ sym (node_chunks version level' us))

        go : (bytes_of version (suc level) ts ≡ bytes_of version (suc level') us) ⊎ Clash cs ds →
            (map (child_of version level) ts ≡ map (child_of version level') us →
            (below version level ts ≡ below version level' us) ⊎ Clash cs ds) →
            (chunks_in version (suc level) ts ≡ chunks_in version (suc level') us) ⊎ Clash cs ds
        go (inr clash) more = inr clash
        go (inl f) more = join f
            (more (same_nodes (entries_same (suc level) ts (suc level') us b d f)))

  -- ---- a walk to the end

  module _ (cs ds : List (List ℕ)) where
    abbrev Trees : List (List ℕ) → List LeveledTree → Type 0
    Trees all ts = AllByRecursion (λ t. IsTreeOf version all t.level t.tree) ts

    abbrev Parts : List LeveledTree → List LeveledTree → List Move → Type 0
    Parts ts us way = Parted version ts us way ⊎ Clashing (read_on way) (cs ++ ds)

    -- a chunk of the old tree was read
    reads_old : (old new : Left) (chunk : List ℕ) (way : List Move) (ts us : List LeveledTree) →
        Trees cs ts → tops_of version ts ≡ due_in old → DueRead version old new chunk →
        ((left : List LeveledTree) → Trees cs left → tops_of version left ≡ due_in new →
        Parts left us way) → Parts ts us (Move.ReadsOld chunk ∷ way)
    reads_old old new chunk way [] us h e r further = no_cons _ _ (sym (e ∙ r.was))
    reads_old old new chunk way (t ∷ ts) us h e r further =
        go (opened_one cs t ts h.0 h.1 r.first chunk r.named (head_is _ _ _ _ (e ∙ r.was)))
      where
        join : (o : Opened version cs (t ∷ ts) ts chunk) →
            Parted version o.left us way ⊎ Clashing (read_on way) (cs ++ ds) →
            Parted version (t ∷ ts) us (Move.ReadsOld chunk ∷ way) ⊎
            Clashing (chunk ∷ read_on way) (cs ++ ds)
        join o (inr clash) = inr (more_last (chunk ∷ []) (read_on way) (cs ++ ds) clash)
        join o (inl p) = inl (record {
          passed = p.passed;
          old = λ f.
              let whole = o.sums f in
              let rest = p.old f in
              let one = sum_by-cons f chunk (read_old way) in
              omega arith;
          new = p.new;
        })

        go : Opened version cs (t ∷ ts) ts chunk ⊎ Clash (chunk ∷ []) cs →
            Parted version (t ∷ ts) us (Move.ReadsOld chunk ∷ way) ⊎
            Clashing (chunk ∷ read_on way) (cs ++ ds)
        go (inr clash) = inr (read_clash cs (cs ++ ds) (λ c. in_front c cs ds) chunk (read_on way) clash)
        go (inl o) = join o (further o.left o.each (o.tops ∙
            ap (λ rs. references_in (kind_of version chunk) ++ rs)
            (tail_is _ _ _ _ (e ∙ r.was)) ∙ sym r.is))

    -- one of the new tree
    reads_new : (old new : Left) (chunk : List ℕ) (way : List Move) (ts us : List LeveledTree) →
        Trees ds us → tops_of version us ≡ due_in old → DueRead version old new chunk →
        ((left : List LeveledTree) → Trees ds left → tops_of version left ≡ due_in new →
        Parts ts left way) → Parts ts us (Move.ReadsNew chunk ∷ way)
    reads_new old new chunk way ts [] k f r further = no_cons _ _ (sym (f ∙ r.was))
    reads_new old new chunk way ts (u ∷ us) k f r further =
        go (opened_one ds u us k.0 k.1 r.first chunk r.named (head_is _ _ _ _ (f ∙ r.was)))
      where
        join : (o : Opened version ds (u ∷ us) us chunk) →
            Parted version ts o.left way ⊎ Clashing (read_on way) (cs ++ ds) →
            Parted version ts (u ∷ us) (Move.ReadsNew chunk ∷ way) ⊎
            Clashing (chunk ∷ read_on way) (cs ++ ds)
        join o (inr clash) = inr (more_last (chunk ∷ []) (read_on way) (cs ++ ds) clash)
        join o (inl p) = inl (record {
          passed = p.passed;
          old = p.old;
          new = λ f.
              let whole = o.sums f in
              let rest = p.new f in
              let one = sum_by-cons f chunk (read_new way) in
              omega arith;
        })

        go : Opened version ds (u ∷ us) us chunk ⊎ Clash (chunk ∷ []) ds →
            Parted version ts (u ∷ us) (Move.ReadsNew chunk ∷ way) ⊎
            Clashing (chunk ∷ read_on way) (cs ++ ds)
        go (inr clash) = inr (read_clash ds (cs ++ ds) (λ c. in_back c cs ds) chunk (read_on way) clash)
        go (inl o) = join o (further o.left o.each (o.tops ∙
            ap (λ rs. references_in (kind_of version chunk) ++ rs)
            (tail_is _ _ _ _ (f ∙ r.was)) ∙ sym r.is))

    -- subtrees of one reference were passed by
    passes_both : (first first' : List ℕ) (due due' : List (List ℕ)) → first ≡ first' →
        (way : List Move) (ts us : List LeveledTree) → Trees cs ts → Trees ds us →
        tops_of version ts ≡ first ∷ due → tops_of version us ≡ first' ∷ due' →
        ((ts' us' : List LeveledTree) → Trees cs ts' → Trees ds us' →
        tops_of version ts' ≡ due → tops_of version us' ≡ due' → Parts ts' us' way) →
        Parts ts us (Move.PassesBoth ∷ way)
    passes_both first first' due due' one way [] us h k e f further = no_cons _ _ (sym e)
    passes_both first first' due due' one way (t ∷ ts) [] h k e f further = no_cons _ _ (sym f)
    passes_both first first' due due' one way (t ∷ ts) (u ∷ us) h k e f further =
        join (same_tops cs ds t.level t.tree u.level u.tree h.0 k.0
        (head_is _ _ _ _ e ∙ one ∙ sym (head_is _ _ _ _ f)))
        (further ts us h.1 k.1 (tail_is _ _ _ _ e) (tail_is _ _ _ _ f))
      where
        join : (chunks_in version t.level t.tree ≡ chunks_in version u.level u.tree) ⊎
            Clash cs ds → Parted version ts us way ⊎ Clashing (read_on way) (cs ++ ds) →
            Parted version (t ∷ ts) (u ∷ us) (Move.PassesBoth ∷ way) ⊎
            Clashing (read_on way) (cs ++ ds)
        join (inr clash) more = inr (both_clash cs ds (read_on way) clash)
        join (inl same) (inr clash) = inr clash
        join (inl same) (inl p) = inl (record {
          passed = chunks_in version t.level t.tree ++ p.passed;
          old = λ f.
              let whole = sum_by-append f (chunks_in version t.level t.tree)
              (chunks_under version ts) in
              let passed = sum_by-append f (chunks_in version t.level t.tree) p.passed in
              let rest = p.old f in
              omega arith;
          new = λ f.
              let whole = sum_by-append f (chunks_in version u.level u.tree)
              (chunks_under version us) in
              let passed = sum_by-append f (chunks_in version t.level t.tree) p.passed in
              let one = ap (sum_by f) same in
              let rest = p.new f in
              omega arith;
        })

    -- on a move that reads no chunk and passes none by
    no_chunk : (move : Move) (way : List Move) (ts us : List LeveledTree) →
        read_old (move ∷ way) ≡ read_old way → read_new (move ∷ way) ≡ read_new way →
        read_on (move ∷ way) ≡ read_on way → Parts ts us way → Parts ts us (move ∷ way)
    no_chunk move way ts us same same' all (inr clash) =
        inr (subst (λ read. Clashing read (cs ++ ds)) (sym all) clash)
    no_chunk move way ts us same same' all (inl p) = inl (record {
      passed = p.passed;
      old = λ f. p.old f ∙ ap (λ read. sum_by f read + sum_by f p.passed) (sym same);
      new = λ f. p.new f ∙ ap (λ read. sum_by f read + sum_by f p.passed) (sym same');
    })

    pub parted : (way : List Move) (old new : Lefts) (ts us : List LeveledTree) → Trees cs ts →
        Trees ds us → tops_of version ts ≡ due_in old.before →
        tops_of version us ≡ due_in old.after → Leads version old way new →
        due_in new.before ≡ [] → due_in new.after ≡ [] → Parts ts us way
    parted [] old new (t ∷ ts) us h k e f lead none none' =
        no_cons _ _ (e ∙ ap (λ l. due_in l.before) lead ∙ none)
    parted [] old new [] (u ∷ us) h k e f lead none none' =
        no_cons _ _ (f ∙ ap (λ l. due_in l.after) lead ∙ none')
    parted [] old new [] [] h k e f lead none none' =
        inl (record { passed = []; old = λ f. refl; new = λ f. refl })
    parted (Move.ReadsOld chunk ∷ way) old new ts us h k e f lead none none' =
        reads_old old.before lead.0.before chunk way ts us h e
        (due_read version old.before lead.0.before chunk lead.1.0 lead.1.1)
        (λ left each tops. parted way lead.0 new left us each k tops
        (f ∙ ap due_in (sym lead.1.2)) lead.2 none none')
    parted (Move.ReadsNew chunk ∷ way) old new ts us h k e f lead none none' =
        reads_new old.after lead.0.after chunk way ts us k f
        (due_read version old.after lead.0.after chunk lead.1.0 lead.1.1)
        (λ left each tops. parted way lead.0 new ts left h each (e ∙ ap due_in (sym lead.1.2))
        tops lead.2 none none')
    parted (Move.PassesBoth ∷ way) old new ts us h k e f lead none none' =
        let a = lead.1.0 in
        passes_both a.first.reference a.second.reference (map (λ d. d.reference) a.due)
        (map (λ d. d.reference) a.due') a.same way ts us h k (e ∙ ap due_in a.before_is)
        (f ∙ ap due_in a.after_is) (λ ts' us' h' k' e' f'. parted way lead.0 new ts' us' h' k'
        (e' ∙ ap due_in (sym lead.1.1)) (f' ∙ ap due_in (sym lead.1.2)) lead.2 none none')
    parted (Move.SkipsBoth ∷ way) old new ts us h k e f lead none none' =
        no_chunk Move.SkipsBoth way ts us refl refl refl (parted way lead.0 new ts us h k
        (e ∙ due_taken old.before lead.0.before lead.1.0 lead.1.2)
        (f ∙ due_taken old.after lead.0.after lead.1.1 lead.1.3) lead.2 none none')
    parted (Move.Gives change ∷ way) old new ts us h k e f lead none none' =
        let due = due_given old lead.0 change lead.1 in
        no_chunk (Move.Gives change) way ts us refl refl refl (parted way lead.0 new ts us h k
        (e ∙ due.0) (f ∙ due.1) lead.2 none none')
