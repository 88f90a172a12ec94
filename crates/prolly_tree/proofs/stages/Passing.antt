-- What the leaf stage sends goes on behind closed leaves, and a leaf that no change touches stays.
use Rattle.std.proofs.Common.{◌≡◌, ◌<◌, true, List, [], ◌∷◌, ◌++◌, length, map, refl, sym, ap}
use Rattle.std.proofs.Common.{◌∙◌, subst, arith}
use Rattle.std.proofs.lemmas.List.{map-append}
use Rattle.prolly_entry.specs.declared.version.Version.{Version}
use Rattle.prolly_entry.specs.Cut.{Cut}
use Rattle.prolly_entry.specs.Keys.{Rising}
use Rattle.prolly_entry.specs.Overlay.{overlay}
use Rattle.prolly_entry.specs.Pair.{Pair}
use Rattle.prolly_entry.specs.Record.{Record, keys_of}
use Rattle.prolly_tree.specs.Chunk.{chunk_of}
use Rattle.prolly_tree.specs.Difference.{IsMap, puts}
use Rattle.prolly_tree.specs.Events.{Closing, clean, faulty, leaf_events}
use Rattle.prolly_tree.specs.Passing.{AllBehind, LeafStays, later_leaf_events, LeafEventsGoOn}
use Rattle.prolly_tree.specs.Passing.{LeafEventStays, LeafEventStaysMerged, map_input}
use Rattle.prolly_tree.specs.Merge.{merged_part}
use Rattle.prolly_tree.specs.Split.{split, is_closed, closed_groups, open_entries}
use Rattle.prolly_tree.specs.Tree.{last_key, pair_is_boundary, leaves_of}
use Rattle.prolly_tree.specs.lemmas.Splits.{flat, Ends}
use Rattle.prolly_tree.proofs.splits.Behind.{FirstGroup, first_group, split_group, closed_group}
use Rattle.prolly_tree.proofs.splits.Behind.{split_goes_on, whole_ends}
use Rattle.prolly_tree.proofs.splits.Splits.{ends_nonempty, split_splits}
use Rattle.prolly_tree.proofs.merging.Passing.{front_stays, front_stays_merged}

module _ (cut : Cut) where
  -- Where the first leaf is closed and no change has a key up to its last one, it stays in front.
  record Stays (m : List Pair) (changes : List Record) (leaf : List Pair)
      (others : List (List Pair)) : Type 0 where
    first : FirstGroup (pair_is_boundary cut) 1 m leaf others
    over : overlay (puts m ∷ changes ∷ []) ≡ leaf ++ overlay (puts (flat others) ∷ changes ∷ [])

  stays : (m : List Pair) (changes : List Record) (leaf : List Pair) (others : List (List Pair)) →
      IsMap m → Rising (keys_of changes) → split (pair_is_boundary cut) 1 m ≡ leaf ∷ others →
      is_closed (pair_is_boundary cut) 1 leaf ≡ true → AllBehind (last_key leaf) changes →
      Stays m changes leaf others
  stays m changes leaf others h k e c b =
      let f = first_group (pair_is_boundary cut) 1 m leaf others e c in
      record {
        first = f;
        over = ap (λ x. overlay (puts x ∷ changes ∷ [])) f.whole ∙ front_stays leaf (flat others)
            changes (subst IsMap f.whole h) k
            (ends_nonempty (pair_is_boundary cut) 1 0 leaf f.ends) b;
      }

  -- A leaf that no change touches stays.
  pub leaf_stays : LeafStays cut
  leaf_stays m changes leaf others h k e c b =
      let s = stays m changes leaf others h k e c b in (
        s.first.whole,
        s.first.rest,
        ap (split (pair_is_boundary cut) 1) s.over ∙ split_group (pair_is_boundary cut) 1 leaf
            (overlay (puts (flat others) ∷ changes ∷ [])) s.first.ends,
      )

module _ (cut : Cut) (version : Version) where
  -- Where there are pairs, no leaf without pairs is added.
  leaves_some : (xs : List Pair) → 0 < length xs →
      leaves_of (split (pair_is_boundary cut) 1 xs) ≡ split (pair_is_boundary cut) 1 xs
  leaves_some xs some = go (split (pair_is_boundary cut) 1 xs)
      (split_splits (pair_is_boundary cut) 1 xs).whole
    where
      go : (gs : List (List Pair)) → flat gs ≡ xs → leaves_of gs ≡ gs
      go [] e = absurd (let none : length xs ≡ 0 = sym (ap length e) in omega arith)
      go (g ∷ gs) e = refl

  later_is : (closing : Closing) (xs : List Pair) → 0 < length xs →
      leaf_events cut version closing xs ≡ later_leaf_events cut version closing xs
  later_is clean xs some = ap (map (chunk_of version 0)) (leaves_some xs some)
  later_is faulty xs some = refl

  goes_on : (closing : Closing) (xs ys : List Pair) →
      open_entries (pair_is_boundary cut) 1 xs ≡ [] →
      later_leaf_events cut version closing (xs ++ ys) ≡ leaf_events cut version faulty xs ++
      later_leaf_events cut version closing ys
  goes_on clean xs ys e =
      ap (map (chunk_of version 0)) ((split_goes_on (pair_is_boundary cut) 1 xs ys).0
      ∙ ap (λ o. closed_groups (pair_is_boundary cut) 1 xs ++ split (pair_is_boundary cut) 1
      (o ++ ys)) e)
      ∙ map-append (chunk_of version 0) (closed_groups (pair_is_boundary cut) 1 xs)
      (split (pair_is_boundary cut) 1 ys)
  goes_on faulty xs ys e =
      ap (map (chunk_of version 0)) ((split_goes_on (pair_is_boundary cut) 1 xs ys).1
      ∙ ap (λ o. closed_groups (pair_is_boundary cut) 1 xs ++ closed_groups (pair_is_boundary cut) 1
      (o ++ ys)) e)
      ∙ map-append (chunk_of version 0) (closed_groups (pair_is_boundary cut) 1 xs)
      (closed_groups (pair_is_boundary cut) 1 ys)

  longer : (xs ys : List Pair) → 0 < length xs → 0 < length (xs ++ ys)
  longer [] ys h = absurd (omega arith)
  longer (x ∷ xs) ys h = omega arith

  longer_behind : (xs ys : List Pair) → 0 < length ys → 0 < length (xs ++ ys)
  longer_behind [] ys h = h
  longer_behind (x ∷ xs) ys h = omega arith

  -- Behind closed leaves the events go on as those of the pairs that follow.
  pub leaf_events_go_on : LeafEventsGoOn cut version
  leaf_events_go_on closing xs ys e =
      let more = goes_on closing xs ys e in (
        more,
        λ some. later_is closing (xs ++ ys) (longer xs ys some) ∙ more,
        λ some. later_is closing (xs ++ ys) (longer_behind xs ys some) ∙ more
            ∙ ap (λ es. leaf_events cut version faulty xs ++ es) (sym (later_is closing ys some)),
      )

  group_first : (closing : Closing) (leaf ys : List Pair) →
      Ends (pair_is_boundary cut) 1 0 leaf →
      leaf_events cut version closing (leaf ++ ys) ≡ chunk_of version 0 leaf ∷
      later_leaf_events cut version closing ys
  group_first closing leaf ys h = later_is closing (leaf ++ ys)
      (longer leaf ys (ends_nonempty (pair_is_boundary cut) 1 0 leaf h)) ∙ go closing
    where
      go : (closing : Closing) → later_leaf_events cut version closing (leaf ++ ys) ≡
          chunk_of version 0 leaf ∷ later_leaf_events cut version closing ys
      go clean = ap (map (chunk_of version 0)) (split_group (pair_is_boundary cut) 1 leaf ys h)
      go faulty = ap (map (chunk_of version 0)) (closed_group (pair_is_boundary cut) 1 leaf ys h)

  -- The event of a leaf that no change touches is sent first.
  pub leaf_event_stays : LeafEventStays cut version
  leaf_event_stays closing m changes leaf others h k e c b =
      let s = stays cut m changes leaf others h k e c b in
      ap (leaf_events cut version closing) s.over
      ∙ group_first closing leaf (overlay (puts (flat others) ∷ changes ∷ [])) s.first.ends

  -- So it is where either end may be a fault.
  pub leaf_event_stays_merged : {F : Type 0} → LeafEventStaysMerged F cut version
  leaf_event_stays_merged {F} closing leaf rest fault changes h k e b s =
      let ends = whole_ends (pair_is_boundary cut) 1 leaf e in
      ap (leaf_events cut version closing) (front_stays_merged {F = F} leaf rest fault changes h k
      (ends_nonempty (pair_is_boundary cut) 1 0 leaf ends) b s).0
      ∙ group_first closing leaf (merged_part (map_input rest fault ∷ changes ∷ [])) ends
