-- Trees and forests, by their chunks.
use Rattle.std.proofs.Common.{◌≡◌, ℕ, zero, suc, ◌<◌, ◌≤◌, Bool, true, false, ◌&&◌, cond, ◌==◌}
use Rattle.std.proofs.Common.{List, [], ◌∷◌, ◌++◌, refl, ap, ◌∙◌, arith}
use Rattle.std.proofs.lemmas.Bool.{false≢true}
use Rattle.std.proofs.lemmas.Bool.Decides.{nat_tests}
use Rattle.std.specs.List.{flat_map, list_all, AllByRecursion}
use Rattle.prolly_entry.specs.declared.version.Version.{Version}
use Rattle.prolly_entry.specs.Cut.{Cut}
use Rattle.prolly_tree.specs.Split.{is_closed}
use Rattle.prolly_tree.specs.Tree.{Tree, child_is_boundary}
use Rattle.prolly_tree.specs.Chunk.{Chunk, chunk_of, post_order, closed_post_order, is_closed_tree}
use Rattle.prolly_tree.proofs.stages.Streams.{NoLevel, IsBlock, block_from}

-- each chunk is of a lower level
abbrev pub AllUnder : ℕ → List Chunk → Type 0
AllUnder level [] = Unit {0}
AllUnder level (e ∷ es) = (e.level < level) × AllUnder level es

pub under_append : (level : ℕ) (a b : List Chunk) → AllUnder level a → AllUnder level b →
    AllUnder level (a ++ b)
under_append level [] b p q = q
under_append level (e ∷ a) b p q = (p.0, under_append level a b p.1 q)

pub under_more : (level more : ℕ) (a : List Chunk) → level ≤ more → AllUnder level a →
    AllUnder more a
under_more level more [] le h = tt
under_more level more (e ∷ a) le h = (
  let under = h.0 in omega arith,
  under_more level more a le h.1,
)

differs : (a b : ℕ) → a < b → (a == b) ≡ false
differs a b h = grind (arith, nat_tests)

same : (a : ℕ) → (a == a) ≡ true
same a = grind (arith, nat_tests)

pub none_under : (level : ℕ) (a : List Chunk) → AllUnder level a → NoLevel level a
none_under level [] h = tt
none_under level (e ∷ a) h = (differs e.level level h.0, none_under level a h.1)

module _ (version : Version) where
  post_under_all : (level : ℕ) → ((t : Tree level) →
      AllUnder (suc level) (post_order version level t)) →
      (ts : List (Tree level)) → AllUnder (suc level) (flat_map (post_order version level) ts)
  post_under_all level h [] = tt
  post_under_all level h (t ∷ ts) = under_append (suc level) (post_order version level t)
      (flat_map (post_order version level) ts) (h t) (post_under_all level h ts)

  pub post_under : (level : ℕ) (t : Tree level) → AllUnder (suc level) (post_order version level t)
  post_under zero t = (omega arith, tt)
  post_under (suc level) ts = under_append (suc (suc level))
      (flat_map (post_order version level) ts) (chunk_of version (suc level) ts ∷ [])
      (under_more (suc level) (suc (suc level)) (flat_map (post_order version level) ts)
      (omega arith) (post_under_all level (post_under level) ts))
      (omega arith, tt)

  -- the post-order of a tree is a block that ends with the tree's chunk
  pub post_block : (level : ℕ) (t : Tree level) →
      IsBlock level (post_order version level t) (chunk_of version level t)
  post_block zero t = (refl, same 0)
  post_block (suc level) ts = block_from (suc level) (flat_map (post_order version level) ts)
      (chunk_of version (suc level) ts)
      (none_under (suc level) (flat_map (post_order version level) ts)
      (post_under_all level (post_under level) ts)) (same (suc level))

  pub post_blocks : (level : ℕ) (ts : List (Tree level)) →
      AllByRecursion (λ t. IsBlock level (post_order version level t) (chunk_of version level t)) ts
  post_blocks level [] = tt
  post_blocks level (t ∷ ts) = (post_block level t, post_blocks level ts)

module _ (cut : Cut) (version : Version) where
  and_true : (a b : Bool) → (a && b) ≡ true → b ≡ true
  and_true true b h = h
  and_true false b h = absurd (false≢true h)

  and_first : (a b : Bool) → (a && b) ≡ true → a ≡ true
  and_first true b h = refl
  and_first false b h = absurd (false≢true h)

  abbrev pub AllClosed : (level : ℕ) → List (Tree level) → Type 0
  AllClosed level ts = AllByRecursion (λ t. is_closed_tree cut version level t ≡ true) ts

  all_closed : (level : ℕ) (ts : List (Tree level)) →
      list_all (is_closed_tree cut version level) ts ≡ true → AllClosed level ts
  all_closed level [] h = tt
  all_closed level (t ∷ ts) h = (
    and_first (is_closed_tree cut version level t) (list_all (is_closed_tree cut version level) ts)
        h,
    all_closed level ts (and_true (is_closed_tree cut version level t)
        (list_all (is_closed_tree cut version level) ts) h),
  )

  closed_post_all : (level : ℕ) → ((t : Tree level) → is_closed_tree cut version level t ≡ true →
      closed_post_order cut version level t ≡ post_order version level t) →
      (ts : List (Tree level)) → AllClosed level ts →
      flat_map (closed_post_order cut version level) ts ≡ flat_map (post_order version level) ts
  closed_post_all level h [] k = refl
  closed_post_all level h (t ∷ ts) k = ap (λ a. a ++ flat_map (closed_post_order cut version level)
      ts) (h t k.0)
      ∙ ap (λ a. post_order version level t ++ a) (closed_post_all level h ts k.1)

  -- of a closed tree all chunks are closed
  pub closed_post : (level : ℕ) (t : Tree level) → is_closed_tree cut version level t ≡ true →
      closed_post_order cut version level t ≡ post_order version level t
  closed_post zero t h = rw h refl
  closed_post (suc level) ts h = rw h
      (ap (λ a. a ++ chunk_of version (suc level) ts ∷ [])
      (closed_post_all level (closed_post level) ts
      (all_closed level ts (and_true (is_closed (child_is_boundary cut version level) 2 ts)
      (list_all (is_closed_tree cut version level) ts) h))))

  pub closed_posts : (level : ℕ) (ts : List (Tree level)) → AllClosed level ts →
      flat_map (closed_post_order cut version level) ts ≡ flat_map (post_order version level) ts
  closed_posts level ts h = closed_post_all level (closed_post level) ts h

  -- a tree that is not closed has no closed chunk of its level
  closed_under_all : (level : ℕ) → ((t : Tree level) →
      AllUnder (suc level) (closed_post_order cut version level t)) →
      (ts : List (Tree level)) → AllUnder (suc level)
      (flat_map (closed_post_order cut version level) ts)
  closed_under_all level h [] = tt
  closed_under_all level h (t ∷ ts) = under_append (suc level)
      (closed_post_order cut version level t) (flat_map (closed_post_order cut version level) ts)
      (h t) (closed_under_all level h ts)

  at_most_top : (level : ℕ) (t : Tree level) (b : Bool) →
      AllUnder (suc level) (cond b (chunk_of version level t ∷ []) [])
  at_most_top level t true = (omega arith, tt)
  at_most_top level t false = tt

  pub closed_under : (level : ℕ) (t : Tree level) →
      AllUnder (suc level) (closed_post_order cut version level t)
  closed_under zero t = at_most_top 0 t (is_closed_tree cut version 0 t)
  closed_under (suc level) ts = under_append (suc (suc level))
      (flat_map (closed_post_order cut version level) ts)
      (cond (is_closed_tree cut version (suc level) ts) (chunk_of version (suc level) ts ∷ []) [])
      (under_more (suc level) (suc (suc level)) (flat_map (closed_post_order cut version level) ts)
      (omega arith) (closed_under_all level (closed_under level) ts))
      (at_most_top (suc level) ts (is_closed_tree cut version (suc level) ts))

  pub not_closed_under : (level : ℕ) (t : Tree level) → is_closed_tree cut version level t ≡ false →
      AllUnder level (closed_post_order cut version level t)
  not_closed_under zero t h = rw h tt
  not_closed_under (suc level) ts h = rw h (under_append (suc level)
      (flat_map (closed_post_order cut version level) ts) []
      (closed_under_all level (closed_under level) ts) tt)
