-- Maps with one root are the same, or a collision is there.
use Rattle.std.proofs.Common.{◌≡◌, ℕ, zero, suc, ◌⊎◌, inl, inr, List, [], ◌∷◌, ◌++◌, refl, sym, ap}
use Rattle.std.proofs.Common.{◌∙◌, subst, arith}
use Rattle.std.proofs.lemmas.Bool.{cases_lt}
use Rattle.std.specs.List.{flat_map, AllByRecursion}
use Rattle.prolly_entry.specs.Pair.{Pair, IsPair}
use Rattle.prolly_entry.specs.declared.version.Version.{Version}
use Rattle.prolly_entry.specs.Spelling.{pair_spelling, child_spelling}
use Rattle.prolly_entry.specs.Reference.{reference_of}
use Rattle.prolly_tree.specs.Tree.{Tree, bytes_of, pairs_below, greatest_key, pair_count, tree_of}
use Rattle.prolly_tree.specs.Chunk.{Chunk, chunk_of, post_order, chunks, IsIn, Collision}
use Rattle.prolly_tree.specs.File.{RootsTellMaps, TreesTellPairs}
use Rattle.prolly_entry.specs.lemmas.Lists.{all_front, all_back, head_is, tail_is}
use Rattle.prolly_entry.specs.lemmas.Spellings.{child_spellings_apart, reference_length}
use Rattle.prolly_tree.proofs.trees.Sizes.{pairs_are}
use Rattle.prolly_tree.specs.lemmas.Maps.{last_key_short, leaf_same}
use Rattle.prolly_tree.specs.lemmas.Trees.{in_front, in_back}

-- ---- lists of bytes are equal or not

nat_same : (a b : ℕ) → (a ≡ b) ⊎ (a ≡ b → ⊥)
nat_same a b = elim (cases_lt a b) [
  | inl h ↦ inr (λ e. omega arith)
  | inr h ↦ elim (cases_lt b a) [ inl k ↦ inr (λ e. omega arith) | inr k ↦ inl (omega arith) ]
]

bytes_same : (a b : List ℕ) → (a ≡ b) ⊎ (a ≡ b → ⊥)
bytes_same [] [] = inl refl
bytes_same [] (y ∷ b) = inr (λ e. cc)
bytes_same (x ∷ a) [] = inr (λ e. cc)
bytes_same (x ∷ a) (y ∷ b) = go (nat_same x y) (bytes_same a b)
  where
    go : (x ≡ y) ⊎ (x ≡ y → ⊥) → (a ≡ b) ⊎ (a ≡ b → ⊥) → (x ∷ a ≡ y ∷ b) ⊎ (x ∷ a ≡ y ∷ b → ⊥)
    go (inl e) (inl f) = inl (ap (λ z. z ∷ a) e ∙ ap (λ z. y ∷ z) f)
    go (inl e) (inr f) = inr (λ g. f (tail_is x y a b g))
    go (inr e) f = inr (λ g. e (head_is x y a b g))

-- ---- membership

wider : (us vs xs ys : List Chunk) → ((c : Chunk) → IsIn c us → IsIn c xs) →
    ((c : Chunk) → IsIn c vs → IsIn c ys) → Collision us vs → Collision xs ys
wider us vs xs ys f g c = record {
  one = c.one;
  other = c.other;
  in_one = f c.one c.in_one;
  in_other = g c.other c.in_other;
  differ = c.differ;
  same = c.same;
}

-- ---- trees of one level

module _ (version : Version) where
  pub top_in : (level : ℕ) (t : Tree level) →
      IsIn (chunk_of version level t) (post_order version level t)
  top_in zero t = inl refl
  top_in (suc level) ts = in_back (chunk_of version (suc level) ts)
      (flat_map (post_order version level) ts) (chunk_of version (suc level) ts ∷ []) (inl refl)

  abbrev entries : (level : ℕ) → List (Tree level) → List ℕ
  entries level ts = flat_map (λ child. child_spelling version (greatest_key level child)
      (reference_of (bytes_of version level child)) (pair_count level child)) ts

  -- trees with one reference have the same pairs, or a collision is there
  abbrev Tells : ℕ → Type 0
  Tells level = (t u : Tree level) → AllByRecursion IsPair (pairs_below level t) →
      AllByRecursion IsPair (pairs_below level u) →
      reference_of (bytes_of version level t) ≡ reference_of (bytes_of version level u) →
      (pairs_below level t ≡ pairs_below level u) ⊎
      Collision (post_order version level t) (post_order version level u)

  children_tell : (level : ℕ) → Tells level → (ts us : List (Tree level)) →
      AllByRecursion IsPair (flat_map (pairs_below level) ts) →
      AllByRecursion IsPair (flat_map (pairs_below level) us) →
      entries level ts ≡ entries level us →
      (flat_map (pairs_below level) ts ≡ flat_map (pairs_below level) us) ⊎
      Collision (flat_map (post_order version level) ts)
      (flat_map (post_order version level) us)
  children_tell level tell [] [] h k e = inl refl
  children_tell level tell [] (u ∷ us) h k e = absurd (nil_cons e)
    where
      nil_cons : {x : ℕ} {xs : List ℕ} → ◌≡◌ {A = List ℕ} [] (x ∷ xs) → ⊥
      nil_cons e = cc
  children_tell level tell (t ∷ ts) [] h k e = absurd (cons_nil e)
    where
      cons_nil : {x : ℕ} {xs : List ℕ} → ◌≡◌ {A = List ℕ} (x ∷ xs) [] → ⊥
      cons_nil e = cc
  children_tell level tell (t ∷ ts) (u ∷ us) h k e =
      let ht = all_front IsPair (pairs_below level t) (flat_map (pairs_below level) ts) h in
      let hu = all_front IsPair (pairs_below level u) (flat_map (pairs_below level) us) k in
      let r = child_spellings_apart version (greatest_key level t) (greatest_key level u)
      (reference_of (bytes_of version level t)) (reference_of (bytes_of version level u))
      (pair_count level t) (pair_count level u) (entries level ts) (entries level us)
      (last_key_short (pairs_below level t) ht) (last_key_short (pairs_below level u) hu)
      (reference_length (bytes_of version level t) ∙
      sym (reference_length (bytes_of version level u))) e in
      join (tell t u ht hu r.1)
      (children_tell level tell ts us (all_back IsPair (pairs_below level t)
      (flat_map (pairs_below level) ts) h)
      (all_back IsPair (pairs_below level u) (flat_map (pairs_below level) us) k) r.3)
    where
      join : (pairs_below level t ≡ pairs_below level u) ⊎
          Collision (post_order version level t) (post_order version level u) →
          (flat_map (pairs_below level) ts ≡ flat_map (pairs_below level) us) ⊎
          Collision (flat_map (post_order version level) ts)
          (flat_map (post_order version level) us) →
          (flat_map (pairs_below level) (t ∷ ts) ≡ flat_map (pairs_below level) (u ∷ us)) ⊎
          Collision (flat_map (post_order version level) (t ∷ ts))
          (flat_map (post_order version level) (u ∷ us))
      join (inl a) (inl b) = inl (ap (λ x. x ++ flat_map (pairs_below level) ts) a ∙
          ap (λ x. pairs_below level u ++ x) b)
      join (inr a) b = inr (wider (post_order version level t) (post_order version level u)
          (flat_map (post_order version level) (t ∷ ts))
          (flat_map (post_order version level) (u ∷ us))
          (λ c. in_front c (post_order version level t) (flat_map (post_order version level) ts))
          (λ c. in_front c (post_order version level u)
          (flat_map (post_order version level) us)) a)
      join (inl a) (inr b) = inr (wider (flat_map (post_order version level) ts)
          (flat_map (post_order version level) us) (flat_map (post_order version level) (t ∷ ts))
          (flat_map (post_order version level) (u ∷ us))
          (λ c. in_back c (post_order version level t) (flat_map (post_order version level) ts))
          (λ c. in_back c (post_order version level u) (flat_map (post_order version level) us))
          b)

  at_top : (level level' : ℕ) (t : Tree level) (u : Tree level') →
      (bytes_of version level t ≡ bytes_of version level' u → ⊥) →
      reference_of (bytes_of version level t) ≡ reference_of (bytes_of version level' u) →
      Collision (post_order version level t) (post_order version level' u)
  at_top level level' t u differ same = record {
    one = chunk_of version level t;
    other = chunk_of version level' u;
    in_one = top_in level t;
    in_other = top_in level' u;
    differ = differ;
    same = same;
  }

  trees_tell : (level : ℕ) → Tells level
  trees_tell zero t u h k e = go (bytes_same (bytes_of version 0 t) (bytes_of version 0 u))
    where
      go : (bytes_of version 0 t ≡ bytes_of version 0 u) ⊎
          (bytes_of version 0 t ≡ bytes_of version 0 u → ⊥) →
          (t ≡ u) ⊎ Collision (post_order version 0 t) (post_order version 0 u)
      go (inl f) = inl (leaf_same t u h k (tail_is 0 0 (flat_map pair_spelling t)
          (flat_map pair_spelling u) f))
      go (inr f) = inr (at_top 0 0 t u f e)
  trees_tell (suc level) ts us h k e = go (bytes_same (bytes_of version (suc level) ts)
      (bytes_of version (suc level) us)) (λ f. children_tell level (trees_tell level) ts us h k f)
    where
      widen : (flat_map (pairs_below level) ts ≡ flat_map (pairs_below level) us) ⊎
          Collision (flat_map (post_order version level) ts)
          (flat_map (post_order version level) us) →
          (flat_map (pairs_below level) ts ≡ flat_map (pairs_below level) us) ⊎
          Collision (post_order version (suc level) ts) (post_order version (suc level) us)
      widen (inl a) = inl a
      widen (inr b) = inr (wider (flat_map (post_order version level) ts)
          (flat_map (post_order version level) us) (post_order version (suc level) ts)
          (post_order version (suc level) us)
          (λ c. in_front c (flat_map (post_order version level) ts)
          (chunk_of version (suc level) ts ∷ []))
          (λ c. in_front c (flat_map (post_order version level) us)
          (chunk_of version (suc level) us ∷ [])) b)

      go : (bytes_of version (suc level) ts ≡ bytes_of version (suc level) us) ⊎
          (bytes_of version (suc level) ts ≡ bytes_of version (suc level) us → ⊥) →
          (entries level ts ≡ entries level us →
          (flat_map (pairs_below level) ts ≡ flat_map (pairs_below level) us) ⊎
          Collision (flat_map (post_order version level) ts)
          (flat_map (post_order version level) us)) →
          (flat_map (pairs_below level) ts ≡ flat_map (pairs_below level) us) ⊎
          Collision (post_order version (suc level) ts) (post_order version (suc level) us)
      go (inl f) more = widen (more (tail_is (suc level) (suc level) (entries level ts)
          (entries level us) f))
      go (inr f) more = inr (at_top (suc level) (suc level) ts us f e)

  -- the first byte is the level
  level_byte : (level level' : ℕ) (t : Tree level) (u : Tree level') →
      bytes_of version level t ≡ bytes_of version level' u → level ≡ level'
  level_byte zero zero t u e = refl
  level_byte zero (suc level') t u e = head_is 0 (suc level') (flat_map pair_spelling t)
      (entries level' u) e
  level_byte (suc level) zero t u e = head_is (suc level) 0 (entries level t)
      (flat_map pair_spelling u) e
  level_byte (suc level) (suc level') t u e =
      head_is (suc level) (suc level') (entries level t) (entries level' u) e

  pub any_tell : TreesTellPairs version
  any_tell level level' t u h k e = go (bytes_same (bytes_of version level t)
      (bytes_of version level' u))
    where
      go : (bytes_of version level t ≡ bytes_of version level' u) ⊎
          (bytes_of version level t ≡ bytes_of version level' u → ⊥) →
          (pairs_below level t ≡ pairs_below level' u) ⊎
          Collision (post_order version level t) (post_order version level' u)
      go (inl f) = subst (λ l. (u : Tree l) → AllByRecursion IsPair (pairs_below l u) →
          reference_of (bytes_of version level t) ≡ reference_of (bytes_of version l u) →
          (pairs_below level t ≡ pairs_below l u) ⊎
          Collision (post_order version level t) (post_order version l u))
          (level_byte level level' t u f) (λ u k e. trees_tell level t u h k e) u k e
      go (inr f) = inr (at_top level level' t u f e)

  pub roots_tell : RootsTellMaps version
  roots_tell c d m m' h k e =
      let p : pairs_below (tree_of c version m).level (tree_of c version m).tree ≡ m =
      pairs_are c version m in
      let q : pairs_below (tree_of d version m').level (tree_of d version m').tree ≡ m' =
      pairs_are d version m' in
      by (any_tell (tree_of c version m).level (tree_of d version m').level
      (tree_of c version m).tree (tree_of d version m').tree
      (subst (AllByRecursion IsPair) (sym p) h) (subst (AllByRecursion IsPair) (sym q) k) e) p q
    where
      by : {x y : List Pair} → (x ≡ y) ⊎ Collision (chunks c version m) (chunks d version m') →
          x ≡ m → y ≡ m' → (m ≡ m') ⊎ Collision (chunks c version m) (chunks d version m')
      by (inl a) p q = inl (sym p ∙ a ∙ q)
      by (inr b) p q = inr b
