-- Passing by subtrees that have one reference.
use Rattle.std.proofs.Common.{◌≡◌, ℕ, ◌<◌, ◌⊎◌, inl, inr, List, [], ◌∷◌, ◌++◌, map, length}
use Rattle.std.proofs.Common.{None, Some, cond, true, refl, sym, ap, ◌∙◌, subst, append_assoc}
use Rattle.std.specs.List.{AllByRecursion}
use Rattle.std.specs.Ordering.{is_eq}
use Rattle.prolly_entry.specs.Keys.{key_order}
use Rattle.prolly_entry.specs.Overlay.{change_of}
use Rattle.prolly_entry.specs.Pair.{Pair}
use Rattle.prolly_entry.specs.Record.{Record}
use Rattle.prolly_entry.specs.Reference.{reference_of}
use Rattle.prolly_entry.specs.lemmas.Orders.{order_self}
use Rattle.prolly_entry.specs.declared.version.Version.{Version}
use Rattle.prolly_entry.specs.lemmas.Lists.{head_is, tail_is}
use Rattle.prolly_laws.specs.Trees.{trees_tell}
use Rattle.prolly_tree.specs.Chunk.{Collision, post_order}
use Rattle.prolly_tree.specs.Difference.{IsDifference, IsMap}
use Rattle.prolly_tree.specs.LookUp.{find}
use Rattle.prolly_tree.specs.Tree.{LeveledTree, bytes_of, last_key, pairs_below}
use Rattle.prolly_tree.specs.lemmas.Differences.{says_no_equal, shared_first}
use Rattle.prolly_tree.specs.lemmas.Maps.{Above, HasKey, Rises, above_last, rises}
use Rattle.prolly_look_up.specs.MapTree.{HasTree, IsTreeOf}
use Rattle.prolly_look_up.specs.Way.{Clash}
use Rattle.prolly_tree.specs.Walks.{AreAlike, Maps}
use Rattle.prolly_root_diff.specs.Left.{Due, PassBy, PassesEqual, pairs_of, tops_of}

-- ---- what both maps begin with

-- a key that both begin with has one value in both
shared_alike : (xs a b : List Pair) (key : List ℕ) → HasKey key xs →
    find (xs ++ a) key ≡ find (xs ++ b) key
shared_alike [] a b key h = absurd h
shared_alike (x ∷ xs) a b key (inl e) =
    let here : is_eq (key_order x.key key) ≡ true =
    ap (λ k. is_eq (key_order x.key k)) e ∙ ap is_eq (order_self x.key) in
    rw here refl
shared_alike (x ∷ xs) a b key (inr h) =
    ap (λ found. cond (is_eq (key_order x.key key)) (Some x.value) found)
    (shared_alike xs a b key h)

module _ (maps rest : Maps) (alike : AreAlike maps rest) (m : IsMap maps.before)
    (n : IsMap maps.after) where
  pub still : (d : List Record) → IsDifference rest.before rest.after d →
      IsDifference maps.before maps.after d
  still d is = rw (alike.before_is, alike.after_is) (shared_first alike.shared rest.before
      rest.after d (subst IsMap alike.before_is m) (subst IsMap alike.after_is n) is)

  pub says_nothing : (d : List Record) (key : List ℕ) → IsDifference maps.before maps.after d →
      HasKey key alike.shared → change_of d key ≡ None
  says_nothing d key is has = says_no_equal maps.before maps.after d key is
      (ap (λ ps. find ps key) alike.before_is ∙
      shared_alike alike.shared rest.before rest.after key has ∙
      ap (λ ps. find ps key) (sym alike.after_is))

  pub above_both : 0 < length alike.shared → Above (last_key alike.shared) rest.before ×
      Above (last_key alike.shared) rest.after
  above_both some = (
    above_last alike.shared rest.before some (subst Rises alike.before_is (rises maps.before m)),
    above_last alike.shared rest.after some (subst Rises alike.after_is (rises maps.after n)),
  )

-- ---- subtrees

-- a collision of trees is a clash of their chunks
clash_of : (version : Version) (cs ds : List (List ℕ)) (t u : LeveledTree) →
    HasTree version cs t.level t.tree → HasTree version ds u.level u.tree →
    Collision (post_order version t.level t.tree) (post_order version u.level u.tree) → Clash cs ds
clash_of version cs ds t u h k c = record {
  one = c.one.bytes;
  other = c.other.bytes;
  in_one = h c.one c.in_one;
  in_other = k c.other c.in_other;
  differ = c.differ;
  same = c.same;
}

-- the trees that are left behind the first ones, which have the same pairs
record Parts (version : Version) (cs ds : List (List ℕ)) (ts us : List LeveledTree)
    (due due' : List Due) : Type 0 where
  pub shared : List Pair
  pub left : List LeveledTree
  pub left' : List LeveledTree
  pub each : AllByRecursion (λ t. IsTreeOf version cs t.level t.tree) left
  pub each' : AllByRecursion (λ t. IsTreeOf version ds t.level t.tree) left'
  pub named : tops_of version left ≡ map (λ d. d.reference) due
  pub named' : tops_of version left' ≡ map (λ d. d.reference) due'
  pub are : pairs_of ts ≡ shared ++ pairs_of left
  pub are' : pairs_of us ≡ shared ++ pairs_of left'

module _ (version : Version) (cs ds : List (List ℕ)) (due due' : List Due) where
  parts : (shared shared' : List Due) (ts us : List LeveledTree) →
      map (λ d. d.reference) shared ≡ map (λ d. d.reference) shared' →
      AllByRecursion (λ t. IsTreeOf version cs t.level t.tree) ts →
      AllByRecursion (λ t. IsTreeOf version ds t.level t.tree) us →
      tops_of version ts ≡ map (λ d. d.reference) (shared ++ due) →
      tops_of version us ≡ map (λ d. d.reference) (shared' ++ due') →
      Parts version cs ds ts us due due' ⊎ Clash cs ds
  parts [] [] ts us e h k n p = inl (record {
    shared = [];
    left = ts;
    left' = us;
    each = h;
    each' = k;
    named = n;
    named' = p;
    are = refl;
    are' = refl;
  })
  parts [] (s ∷ shared') ts us e h k n p = cc
  parts (s ∷ shared) [] ts us e h k n p = cc
  parts (s ∷ shared) (s' ∷ shared') [] us e h k n p = cc
  parts (s ∷ shared) (s' ∷ shared') (t ∷ ts) [] e h k n p = cc
  parts (s ∷ shared) (s' ∷ shared') (t ∷ ts) (u ∷ us) e h k n p =
      join (trees_tell version t.level u.level t.tree u.tree h.0.lawful k.0.lawful one)
      (parts shared shared' ts us (tail_is _ _ _ _ e) h.1 k.1 (tail_is _ _ _ _ n) (tail_is _ _ _ _ p))
    where
      one : reference_of (bytes_of version t.level t.tree) ≡
          reference_of (bytes_of version u.level u.tree)
      one = head_is _ _ _ _ n ∙ head_is _ _ _ _ e ∙ sym (head_is _ _ _ _ p)

      join : (pairs_below t.level t.tree ≡ pairs_below u.level u.tree) ⊎
          Collision (post_order version t.level t.tree) (post_order version u.level u.tree) →
          Parts version cs ds ts us due due' ⊎ Clash cs ds →
          Parts version cs ds (t ∷ ts) (u ∷ us) due due' ⊎ Clash cs ds
      join (inr c) r = inr (clash_of version cs ds t u h.0.has k.0.has c)
      join (inl f) (inr clash) = inr clash
      join (inl f) (inl r) = inl (record {
        shared = pairs_below u.level u.tree ++ r.shared;
        left = r.left;
        left' = r.left';
        each = r.each;
        each' = r.each';
        named = r.named;
        named' = r.named';
        are = ap (λ ps. ps ++ pairs_of ts) f ∙ ap (λ ps. pairs_below u.level u.tree ++ ps) r.are ∙
            sym (append_assoc (pairs_below u.level u.tree) r.shared (pairs_of r.left));
        are' = ap (λ ps. pairs_below u.level u.tree ++ ps) r.are' ∙
            sym (append_assoc (pairs_below u.level u.tree) r.shared (pairs_of r.left'));
      })

pub passes_equal : PassesEqual
passes_equal version cs ds maps shared shared' due due' m n same b a =
    go (parts version cs ds due due' shared shared' b.trees a.trees same b.each a.each b.named
    a.named)
  where
    go : Parts version cs ds b.trees a.trees due due' ⊎ Clash cs ds →
        PassBy version cs ds maps (record { pairs = []; due = due })
        (record { pairs = []; due = due' }) ⊎ Clash cs ds
    go (inr clash) = inr clash
    go (inl r) =
        let rest : Maps = record { before = pairs_of r.left; after = pairs_of r.left' } in
        let alike : AreAlike maps rest = record {
          shared = r.shared;
          before_is = b.are ∙ r.are;
          after_is = a.are ∙ r.are';
        } in
        inl (record {
          rest = rest;
          alike = alike;
          before_is = record { trees = r.left; each = r.each; named = r.named; are = refl };
          after_is = record { trees = r.left'; each = r.each'; named = r.named'; are = refl };
          goes_on = still maps rest alike m n;
          silent = says_nothing maps rest alike m n;
          behind = above_both maps rest alike m n;
        })
