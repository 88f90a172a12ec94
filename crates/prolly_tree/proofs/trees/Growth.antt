-- How a forest grows to one tree.
use Rattle.std.proofs.Common.{◌≡◌, ℕ, zero, suc, ◌+◌, ◌*◌, ◌<◌, ◌≤◌, Bool, true, false, List, []}
use Rattle.std.proofs.Common.{◌∷◌, ◌++◌, length, refl, sym, ap, ◌∙◌, arith, append_assoc}
use Rattle.std.proofs.Common.{append-nil}
use Rattle.std.specs.List.{flat_map}
use Rattle.prolly_entry.specs.declared.version.Version.{Version}
use Rattle.prolly_entry.specs.Cut.{Cut}
use Rattle.prolly_tree.specs.Split.{split, split_after, in_front}
use Rattle.prolly_tree.specs.Tree.{Tree, LeveledTree, grow, grow_within, nodes, child_is_boundary}
use Rattle.prolly_tree.specs.Chunk.{Chunk}
use Rattle.prolly_tree.specs.lemmas.Splits.{closes}
use Rattle.prolly_tree.proofs.splits.Parts.{step_true, step_false}
use Rattle.prolly_tree.proofs.splits.Splits.{few_groups}

-- the first group, from its first entries on
pub record Begins {A : Type 0} (front : List A) (groups : List (List A)) : Type 0 where
  pub more : List A
  pub others : List (List A)
  pub is : groups ≡ (front ++ more) ∷ others

module _ {A : Type 0} (test : A → Bool) where
  in_front_begins : (x : A) (groups : List (List A)) → Begins (x ∷ []) (in_front x groups)
  in_front_begins x [] = record { more = []; others = []; is = refl }
  in_front_begins x (g ∷ gs) = record { more = g; others = gs; is = refl }

  begins_after : (least before : ℕ) (x : A) (xs : List A) (b : Bool) →
      closes test least before x ≡ b → Begins (x ∷ []) (split_after test least before (x ∷ xs))
  begins_after least before x xs true e = record {
    more = [];
    others = split_after test least 0 xs;
    is = step_true test least before x xs e;
  }
  begins_after least before x xs false e =
      let b = in_front_begins x (split_after test least (suc before) xs) in
      record { more = b.more; others = b.others; is = step_false test least before x xs e ∙ b.is }

  pub begins_one : (least : ℕ) (x : A) (xs : List A) → Begins (x ∷ []) (split test least (x ∷ xs))
  unfolding split
  begins_one least x xs = begins_after least 0 x xs (closes test least 0 x) refl

  pub begins_two : (x y : A) (xs : List A) → Begins (x ∷ y ∷ []) (split test 2 (x ∷ y ∷ xs))
  unfolding split
  begins_two x y xs =
      let b = begins_after 2 1 y xs (closes test 2 1 y) refl in
      record {
        more = b.more;
        others = b.others;
        is = step_false test 2 0 x (y ∷ xs) refl ∙
            ap (in_front x) b.is;
      }

module _ (cut : Cut) (version : Version) where
  pub fewer : (level : ℕ) (t u : Tree level) (ts : List (Tree level)) →
      length (nodes cut version level (t ∷ u ∷ ts)) < length (t ∷ u ∷ ts)
  fewer level t u ts = let few : 2 * length (nodes cut version level (t ∷ u ∷ ts)) ≤
      suc (suc (length ts)) + 1 = few_groups (child_is_boundary cut version level) (t ∷ u ∷ ts) in
      omega arith

  -- any number of steps that is enough gives the same
  enough : (steps other : ℕ) (level : ℕ) (ts : List (Tree level)) → length ts ≤ suc steps →
      length ts ≤ suc other →
      grow_within steps cut version level ts ≡ grow_within other cut version level ts
  enough steps other level [] h k = refl
  enough steps other level (t ∷ []) h k = refl
  enough zero other level (t ∷ u ∷ ts) h k = absurd (omega arith)
  enough (suc steps) zero level (t ∷ u ∷ ts) h k = absurd (omega arith)
  enough (suc steps) (suc other) level (t ∷ u ∷ ts) h k =
      let less : length (nodes cut version level (t ∷ u ∷ ts)) < suc (suc (length ts)) =
      fewer level t u ts in
      let h' : suc (suc (length ts)) ≤ suc (suc steps) = h in
      let k' : suc (suc (length ts)) ≤ suc (suc other) = k in
      enough steps other (suc level) (nodes cut version level (t ∷ u ∷ ts)) (omega arith)
      (omega arith)

  pub grow_one : (level : ℕ) (t : Tree level) →
      grow cut version level (t ∷ []) ≡ record { level = level; tree = t }
  unfolding grow
  grow_one level t = refl

  pub grow_more : (level : ℕ) (t u : Tree level) (ts : List (Tree level)) →
      grow cut version level (t ∷ u ∷ ts) ≡ grow cut version (suc level)
      (nodes cut version level (t ∷ u ∷ ts))
  unfolding grow
  grow_more level t u ts =
      let less : length (nodes cut version level (t ∷ u ∷ ts)) < suc (suc (length ts)) =
      fewer level t u ts in
      enough (suc (length ts)) (length (nodes cut version level (t ∷ u ∷ ts))) (suc level)
      (nodes cut version level (t ∷ u ∷ ts)) (omega arith) (omega arith)

  -- ---- a walk over the grown tree that goes over the children first

  module _ (walk : (level : ℕ) → Tree level → List Chunk) (own : (level : ℕ) → List (Tree level) →
      List Chunk)
      (walks : (level : ℕ) (ts : List (Tree level)) →
      walk (suc level) ts ≡ flat_map (walk level) ts ++ own level ts) where
    abbrev pub walk_of : LeveledTree → List Chunk
    walk_of grown = walk grown.level grown.tree

    front_within : (steps level : ℕ) (t : Tree level) (ts : List (Tree level)) →
        (more : List Chunk) × (walk_of (grow_within steps cut version level (t ∷ ts)) ≡
        walk level t ++ more)
    front_within steps level t [] = ([], sym (append-nil (walk level t)))
    front_within zero level t (u ∷ ts) = ([], sym (append-nil (walk level t)))
    front_within (suc steps) level t (u ∷ ts) =
        let b = begins_one (child_is_boundary cut version level) 2 t (u ∷ ts) in
        let r = front_within steps (suc level) (t ∷ b.more) b.others in (
          flat_map (walk level) b.more ++ own level (t ∷ b.more) ++ r.0,
          ap (λ groups. walk_of (grow_within steps cut version (suc level) groups)) b.is ∙ r.1
              ∙ ap (λ a. a ++ r.0) (walks level (t ∷ b.more)) ∙ simp append_assoc,
        )

    -- the walk begins with the walks of the first two trees
    pub front_two : (level : ℕ) (t u : Tree level) (ts : List (Tree level)) →
        (more : List Chunk) × (walk_of (grow cut version level (t ∷ u ∷ ts)) ≡
        (walk level t ++ walk level u) ++ more)
    unfolding grow
    front_two level t u ts =
        let b = begins_two (child_is_boundary cut version level) t u ts in
        let r = front_within (suc (length ts)) (suc level) (t ∷ u ∷ b.more) b.others in (
          flat_map (walk level) b.more ++ own level (t ∷ u ∷ b.more) ++ r.0,
          ap (λ groups. walk_of (grow_within (suc (length ts)) cut version (suc level) groups))
              b.is ∙ r.1
              ∙ ap (λ a. a ++ r.0) (walks level (t ∷ u ∷ b.more)) ∙ simp append_assoc,
        )

  level_within : (steps level : ℕ) (t : Tree level) (ts : List (Tree level)) →
      level ≤ (grow_within steps cut version level (t ∷ ts)).level
  level_within steps level t [] = omega arith
  level_within zero level t (u ∷ ts) = omega arith
  level_within (suc steps) level t (u ∷ ts) =
      let b = begins_one (child_is_boundary cut version level) 2 t (u ∷ ts) in
      let r : suc level ≤ (grow_within steps cut version (suc level)
      ((t ∷ b.more) ∷ b.others)).level = level_within steps (suc level) (t ∷ b.more) b.others in
      let e : (grow_within steps cut version (suc level)
      (nodes cut version level (t ∷ u ∷ ts))).level ≡
      (grow_within steps cut version (suc level) ((t ∷ b.more) ∷ b.others)).level =
      ap (λ groups. (grow_within steps cut version (suc level) groups).level) b.is in
      omega arith

  -- two trees or more grow to a tree of a greater level
  pub level_two : (level : ℕ) (t u : Tree level) (ts : List (Tree level)) →
      level < (grow cut version level (t ∷ u ∷ ts)).level
  unfolding grow
  level_two level t u ts =
      let b = begins_one (child_is_boundary cut version level) 2 t (u ∷ ts) in
      let r : suc level ≤ (grow_within (suc (length ts)) cut version (suc level)
      ((t ∷ b.more) ∷ b.others)).level = level_within (suc (length ts)) (suc level) (t ∷ b.more)
      b.others in
      let e : (grow_within (suc (length ts)) cut version (suc level)
      (nodes cut version level (t ∷ u ∷ ts))).level ≡
      (grow_within (suc (length ts)) cut version (suc level) ((t ∷ b.more) ∷ b.others)).level =
      ap (λ groups. (grow_within (suc (length ts)) cut version (suc level) groups).level) b.is in
      omega arith
