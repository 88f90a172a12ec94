-- The pairs of a range among those of a leaf: they stand together.
use Rattle.std.proofs.Common.{◌≡◌, ℕ, ◌+◌, ◌-◌, ◌<◌, Bool, true, false, not, ◌&&◌, List, [], ◌∷◌}
use Rattle.std.proofs.Common.{◌++◌, length, drop, Option, Some, None, refl, sym, ap, ◌∙◌, subst}
use Rattle.std.proofs.Common.{cond, arith, append_assoc, append-nil}
use Rattle.std.specs.List.{filter, flat_map, AllByRecursion}
use Rattle.std.specs.Ordering.{is_lt}
use Rattle.std.proofs.lemmas.List.{length-append}
use Rattle.std.proofs.lemmas.List.Concat.{flat_map-append}
use Rattle.prolly_look_up.specs.Entries.{IsLeaf}
use Rattle.prolly_look_up.specs.PairsFrom.{pairs_from}
use Rattle.prolly_look_up.specs.lemmas.PairLists.{above_not, from_first}
use Rattle.prolly_entry.specs.Keys.{key_order}
use Rattle.prolly_entry.specs.Pair.{Pair, IsPair}
use Rattle.prolly_entry.specs.Spelling.{pair_spelling}
use Rattle.prolly_entry.specs.lemmas.Lists.{all_front}
use Rattle.prolly_entry.specs.lemmas.Orders.{below_greater}
use Rattle.prolly_io.specs.Frame.{framed, frame_start}
use Rattle.prolly_range.specs.KeySet.{is_before, pairs_wanted}
use Rattle.prolly_range.specs.KeySet.KeySet.{Range}
use Rattle.prolly_tree.specs.lemmas.Maps.{Above, Rises}
use Rattle.prolly_c.proofs.Cursors.{drop_front}
use Rattle.prolly_c.specs.RangeProofs.{pairs_behind}
use Rattle.prolly_c.specs.Runs.{IsEnd}
use Rattle.prolly_c.specs.Writing.{Spells}

-- ---- the pairs of a range

abbrev is_from : List ℕ → Pair → Bool
is_from from p = not (is_lt (key_order p.key from))

-- They are those of the pairs from its start on that are before its end.
kept_twice : (from : List ℕ) (to : Option (List ℕ)) (ps : List Pair) →
    pairs_wanted (Range from to) ps ≡ filter (λ p. is_before to p.key) (pairs_from from ps)
kept_twice from to [] = refl
kept_twice from to (p ∷ ps) = go (is_from from p) (is_before to p.key) refl (kept_twice from to ps)
  where
    go : (over under : Bool) → under ≡ is_before to p.key →
        pairs_wanted (Range from to) ps ≡
        filter (λ p. is_before to p.key) (filter (is_from from) ps) →
        cond (over && under) (p ∷ pairs_wanted (Range from to) ps) (pairs_wanted (Range from to) ps)
        ≡ filter (λ p. is_before to p.key)
        (cond over (p ∷ filter (is_from from) ps) (filter (is_from from) ps))
    go true true e below = rw (sym e) (ap (λ x. p ∷ x) below)
    go true false e below = rw (sym e) below
    go false under e below = below

-- What is kept of pairs above a key is above it, and what is kept of pairs that rise rises.
above_kept : (test : Pair → Bool) (key : List ℕ) (ps : List Pair) → Above key ps →
    Above key (filter test ps)
above_kept test key [] h = tt
above_kept test key (p ∷ ps) h = go (test p) (above_kept test key ps h.1)
  where
    go : (b : Bool) → Above key (filter test ps) →
        Above key (cond b (p ∷ filter test ps) (filter test ps))
    go true more = (h.0, more)
    go false more = more

rises_kept : (test : Pair → Bool) (ps : List Pair) → Rises ps → Rises (filter test ps)
rises_kept test [] h = tt
rises_kept test (p ∷ ps) h = go (test p) (rises_kept test ps h.1)
  where
    go : (b : Bool) → Rises (filter test ps) →
        Rises (cond b (p ∷ filter test ps) (filter test ps))
    go true more = (above_kept test p.key ps h.0, more)
    go false more = more

pub from_rises : (from : List ℕ) (ps : List Pair) → Rises ps → Rises (pairs_from from ps)
from_rises from ps h = rises_kept (is_from from) ps h

-- None of the pairs above a key is before it.
none_before : (to : List ℕ) (ps : List Pair) → Above to ps →
    filter (λ p. is_before (Some to) p.key) ps ≡ []
none_before to [] h = refl
none_before to (p ∷ ps) h = rw (below_greater to p.key h.0) (none_before to ps h.1)

-- Pairs that rise are those before a key, and then those from it on.
parted : (to : List ℕ) (ps : List Pair) → Rises ps →
    ps ≡ filter (λ p. is_before (Some to) p.key) ps ++ pairs_from to ps
parted to [] h = refl
parted to (p ∷ ps) h = go (is_lt (key_order p.key to)) refl (parted to ps h.1)
  where
    go : (b : Bool) → is_lt (key_order p.key to) ≡ b →
        ps ≡ filter (λ p. is_before (Some to) p.key) ps ++ pairs_from to ps →
        p ∷ ps ≡ filter (λ p. is_before (Some to) p.key) (p ∷ ps) ++ pairs_from to (p ∷ ps)
    go true e more = rw e (ap (λ x. p ∷ x) more)
    go false e more = sym (ap (λ x. filter (λ p. is_before (Some to) p.key) (p ∷ ps) ++ x)
        (from_first to p ps h e) ∙ ap (λ x. x ++ p ∷ ps) none)
      where
        none : filter (λ p. is_before (Some to) p.key) (p ∷ ps) ≡ []
        none = rw e (none_before to ps (above_not p.key to ps e h.0))

all_before : (ps : List Pair) → filter (λ p. is_before None p.key) ps ≡ ps
all_before [] = refl
all_before (p ∷ ps) = ap (λ x. p ∷ x) (all_before ps)

-- The pairs from the start of a range on are those of the range, and then those behind its end.
pub range_parts : (from : List ℕ) (to : Option (List ℕ)) (ps : List Pair) → Rises ps →
    pairs_from from ps ≡
    pairs_wanted (Range from to) ps ++ pairs_behind to (pairs_from from ps)
range_parts from None ps h = sym (append-nil (pairs_wanted (Range from None) ps) ∙
    kept_twice from None ps ∙ all_before (pairs_from from ps))
range_parts from (Some to) ps h =
    parted to (pairs_from from ps) (from_rises from ps h) ∙
    ap (λ x. x ++ pairs_from to (pairs_from from ps)) (sym (kept_twice from (Some to) ps))

-- ---- where they stand

-- Where the entries from the start of the range on are the last of the entries, these are in the bytes,
-- with what is behind the frame.
pub wanted_begins : (rest chunk behind entries wanted : List ℕ) →
    rest ≡ framed chunk ++ behind → 0 < length chunk → entries ≡ drop 1 chunk →
    IsEnd entries wanted →
    drop (length rest - (length wanted + length behind)) rest ≡ wanted ++ behind
wanted_begins rest [] behind entries wanted is some inside end = absurd (omega arith)
wanted_begins rest (level ∷ more) behind entries wanted is some inside end =
    let front = frame_start (length (level ∷ more)) ++ level ∷ end.front in
    let spelled : rest ≡ front ++ (wanted ++ behind) = is ∙
    ap (λ x. (frame_start (length (level ∷ more)) ++ level ∷ x) ++ behind) (sym inside ∙ end.is) ∙
    regroup (frame_start (length (level ∷ more))) level end.front in
    let size = length-append front (wanted ++ behind) in
    let tail = length-append wanted behind in
    let whole = ap length spelled in
    let at : length rest - (length wanted + length behind) ≡ length front = omega arith in
    ap (λ n. drop n rest) at ∙ ap (drop (length front)) spelled ∙
    drop_front front (wanted ++ behind)
  where
    regroup : (start : List ℕ) (level : ℕ) (front : List ℕ) →
        (start ++ level ∷ (front ++ wanted)) ++ behind ≡
        (start ++ level ∷ front) ++ (wanted ++ behind)
    regroup start level front = append_assoc start (level ∷ (front ++ wanted)) behind ∙
        ap (λ x. start ++ level ∷ x) (append_assoc front wanted behind) ∙
        sym (append_assoc start (level ∷ front) (wanted ++ behind))

-- There they are spelled, before the pairs behind the end of the range, and what is behind the frame.
pub wanted_spelled : (from : List ℕ) (to : Option (List ℕ)) (ps : List Pair)
    (wanted beyond behind : List ℕ) → Rises ps → IsLeaf wanted (pairs_from from ps) →
    IsLeaf beyond (pairs_behind to (pairs_from from ps)) →
    Spells (wanted ++ behind) (pairs_wanted (Range from to) ps) (beyond ++ behind)
wanted_spelled from to ps wanted beyond behind rise leaf past =
    let parts = range_parts from to ps rise in
    let here = pairs_wanted (Range from to) ps in
    let there = pairs_behind to (pairs_from from ps) in
    record {
      is = ap (λ x. x ++ behind) (leaf.is ∙ ap (flat_map pair_spelling) parts ∙
          flat_map-append pair_spelling here there) ∙
          append_assoc (flat_map pair_spelling here) (flat_map pair_spelling there) behind ∙
          ap (λ x. flat_map pair_spelling here ++ (x ++ behind)) (sym past.is);
      lawful = all_front IsPair here there (subst (AllByRecursion IsPair) parts leaf.lawful);
    }
