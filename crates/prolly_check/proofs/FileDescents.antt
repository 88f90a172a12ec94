-- Going down the tree of a file that was checked.
use Rattle.std.proofs.Common.{rules, ◌≡◌, ℕ, suc, ◌<◌, ◌≤◌, inl, inr, List, [], ◌∷◌, ◌++◌, length}
use Rattle.std.proofs.Common.{All, map, refl, sym, ap, ◌∙◌, subst, arith}
use Rattle.std.specs.Borrow.{Bor}
use Rattle.std.specs.List.{AllByRecursion}
use Rattle.std.proofs.lemmas.List.{length-append, map-append}
use Rattle.prolly_entry.specs.Byte.{IsByte}
use Rattle.prolly_entry.specs.Pair.{Pair}
use Rattle.prolly_entry.specs.Reference.{reference_of}
use Rattle.prolly_entry.specs.declared.version.Version.{Version}
use Rattle.prolly_entry.specs.lemmas.Lists.{all_append}
use Rattle.prolly_tree.specs.Chunk.{IsIn, chunk_of}
use Rattle.prolly_tree.specs.Tree.{bytes_of, pairs_below}
use Rattle.prolly_laws.specs.Trees.{top_in}
use Rattle.prolly_check.specs.Chunks.{HasFile, HasReference, HasAt}
use Rattle.prolly_look_up.specs.Content.{chunks_of, Content, root_bytes, nth_chunk}
use Rattle.prolly_check.specs.FileWays.{CanBeSought, IsWayEnd, IsNamedAt, IsNextOnWay, IsTop}
use Rattle.prolly_look_up.specs.HeldPairs.{pairs_held}
use Rattle.prolly_look_up.specs.Kinds.{kind_of}
use Rattle.prolly_look_up.specs.Sought.{Sought, EndsAt, LeadsOn, sought_of}
use Rattle.prolly_look_up.specs.Sought.Sought.{Key, Number}
use Rattle.prolly_look_up.specs.Way.{Clash, IsOrdered, Lead, LevelsFall, level_of}
use Rattle.prolly_check.specs.declared.look_up.descent.At.{At}
use Rattle.prolly_look_up.specs.lemmas.Ways.{lead_more}
use Rattle.prolly_check.specs.lemmas.Sizes.{few_pairs}
use Rattle.prolly_look_up.specs.lemmas.Chosen.{CanCount}
use Rattle.prolly_look_up.specs.lemmas.Apart.{one_chunk}
use Rattle.prolly_look_up.specs.lemmas.MapTree.{root_is, top_is_read, height_is, is_there}
use Rattle.prolly_look_up.specs.lemmas.MapTree.{root_of, root_pairs}
use Rattle.prolly_look_up.specs.lemmas.TreeWays.{Tells, stands_in_all, GoesTo, goes_to, way_right}

-- ---- from one chunk to the next

can_count : (content : Content) (there : Sought) (number : ℕ) (top : IsTop content number) →
    CanBeSought content.version there →
    CanCount content.version there (pairs_below top.level top.tree)
can_count content (Key key) number top counted = tt
can_count content (Number n) number top counted = (counted, top.few)

is_counted : (version : Version) (sought : Sought) (pairs : List Pair) →
    CanCount version sought pairs → CanBeSought version sought
is_counted version (Key key) pairs can = tt
is_counted version (Number n) pairs can = can.0

module _ (content : Content) (f : HasFile content) (number : ℕ) (top : IsTop content number) where
  pub is_ordered : IsOrdered content.version (nth_chunk content number)
  is_ordered = subst (IsOrdered content.version) (sym top.is)
      (top_is_read content.version (chunks_of content) top.level top.tree top.of).0

  pub named_at : All IsByte (nth_chunk content number) → IsNamedAt content number
  named_at bytes = record { bytes = bytes; is = refl; ordered = is_ordered }

  module _ (there next : Sought) (reference : List ℕ) (counted : CanBeSought content.version there)
      (on : LeadsOn there (kind_of content.version (nth_chunk content number)) reference next) where
    to : GoesTo content.version (chunks_of content) (pairs_below top.level top.tree) there next
        reference top.level
    to = goes_to content.version (chunks_of content) (pairs_below top.level top.tree) there there
        next reference top.level top.tree (record {
          of = top.of;
          stands = stands_in_all there (pairs_below top.level top.tree)
              (pairs_below top.level top.tree) refl;
          can = can_count content there number top counted;
        })
        (subst (λ c. LeadsOn there (kind_of content.version c) reference next) top.is on)

    pub is_there_below : HasReference (chunks_of content) reference
    is_there_below = record {
      chunk = bytes_of content.version to.level to.t;
      is_in = to.at.of.has (chunk_of content.version to.level to.t)
          (top_in content.version to.level to.t);
      is = sym to.named;
    }

    pub one_below : (n : ℕ) → HasAt (chunks_of content) n reference →
        IsTop content n × (level_of (nth_chunk content number) ≡ suc (level_of (nth_chunk content n)))
        × CanBeSought content.version next
    unfolding to is_there_below
    one_below n at =
        let is : nth_chunk content n ≡ bytes_of content.version to.level to.t =
        one_chunk (chunks_of content) (nth_chunk content n)
        (bytes_of content.version to.level to.t) f.is.apart
        (is_there (chunks_of content) n at.within) is_there_below.is_in (at.is ∙ to.named) in
        let few : length (pairs_below to.level to.t) ≤ length (pairs_below top.level top.tree) =
        part to.at.stands.before (pairs_below to.level to.t) to.at.stands.after
        (pairs_below top.level top.tree) to.at.stands.are in (
          record {
            within = at.within;
            level = to.level;
            tree = to.t;
            is = is;
            of = to.at.of;
            few = let all = top.few in omega (arith, few);
          },
          ap level_of top.is ∙ height_is content.version top.level top.tree ∙ to.lower ∙
              ap suc (sym (ap level_of is ∙ height_is content.version to.level to.t)),
          is_counted content.version next (pairs_below to.level to.t) to.at.can,
        )
      where
        part : (before own after m : List Pair) → m ≡ before ++ (own ++ after) →
            length own ≤ length m
        part before own after m e = omega (
          arith,
          ap length e,
          length-append before (own ++ after),
          length-append own after,
        )

pub next_is : (content : Content) (f : HasFile content) (at next : At)
    (top : IsTop content at.number) (reference : List ℕ) →
    CanBeSought content.version (sought_of at.sought) →
    LeadsOn (sought_of at.sought) (kind_of content.version (nth_chunk content at.number)) reference
    (sought_of next.sought) → HasAt (chunks_of content) next.number reference →
    IsNextOnWay content at next
next_is content f at next top reference counted on has =
    let below = one_below content f at.number top (sought_of at.sought) (sought_of next.sought)
    reference counted on next.number has in
    record {
      leads = subst (λ r. LeadsOn (sought_of at.sought)
          (kind_of content.version (nth_chunk content at.number)) r (sought_of next.sought))
          (sym has.is) on;
      falls = below.1;
      top = below.0;
      counted = below.2;
    }

-- ---- chunks one below another

-- one more level down
falls_more : (chunks : List (List ℕ)) (chunk below : List ℕ) → LevelsFall (chunks ++ chunk ∷ []) →
    level_of chunk ≡ suc (level_of below) → LevelsFall ((chunks ++ chunk ∷ []) ++ below ∷ [])
falls_more [] chunk below down one = (one, tt)
falls_more (c ∷ []) chunk below down one = (down.0, falls_more [] chunk below down.1 one)
falls_more (c ∷ d ∷ chunks) chunk below down one =
    (down.0, falls_more (d ∷ chunks) chunk below down.1 one)

-- the chunks behind references, of which one more was kept
pub pushed : (items new : List (Bor (List ℕ))) (one : Bor (List ℕ)) (chunk : List ℕ) →
    new ≡ items ++ one ∷ [] → one.now ≡ chunk →
    map (λ c. c.now) new ≡ map (λ c. c.now) items ++ chunk ∷ []
pushed items new one chunk is at = search (rules, map-append)

-- these chunks of the file led a look-up to the chunk of this number
pub record OnWay (content : Content) (sought : Sought) (above : List (List ℕ)) (number : ℕ)
    (there : Sought) : Type 0 where
  pub top : IsTop content number
  pub counted : CanBeSought content.version there
  pub lead : Lead content.version sought (reference_of (root_bytes content)) above
      (reference_of (nth_chunk content number)) there
  pub down : LevelsFall (above ++ nth_chunk content number ∷ [])
  pub inside : AllByRecursion (λ c. IsIn c (chunks_of content)) above

-- some chunks did
pub record IsOnWay (content : Content) (sought : Sought) (number : ℕ) (there : Sought) : Type 0
  where
    pub above : List (List ℕ)
    pub on : OnWay content sought above number there

pub way_begins : (content : Content) (sought : Sought) (number : ℕ) → HasFile content →
    number < length (chunks_of content) → nth_chunk content number ≡ root_bytes content →
    CanBeSought content.version sought → OnWay content sought [] number sought
way_begins content sought number f within is counted = record {
  top = record {
    within = within;
    level = (root_of content).level;
    tree = (root_of content).tree;
    is = is;
    of = root_is content.version content.bits content.pairs f.is.lawful f.is.rising;
    few = let short = f.short in omega (
      arith,
      few_pairs f.bytes content f.is,
      ap length (root_pairs content),
    );
  };
  counted = counted;
  lead = (ap reference_of (sym is), refl);
  down = tt;
  inside = tt;
}

module _ (content : Content) (sought : Sought) (above : List (List ℕ)) (at : At)
    (on : OnWay content sought above at.number (sought_of at.sought))
    (named : IsNamedAt content at.number) where
  abbrev chunk : List ℕ
  chunk = nth_chunk content at.number

  all_inside : AllByRecursion (λ c. IsIn c (chunks_of content)) (above ++ chunk ∷ [])
  all_inside = search (rules, all_append, is_there)

  pub way_goes_on : (next : At) → IsNextOnWay content at next →
      OnWay content sought (above ++ chunk ∷ []) next.number (sought_of next.sought)
  way_goes_on next to = grind (arith, lead_more, falls_more, all_inside)

  pub way_ends : EndsAt (sought_of at.sought) (kind_of content.version chunk) →
      IsWayEnd content sought at
  way_ends ends = record {
    chunks = above ++ chunk ∷ [];
    inside = all_inside;
    way = record {
      before = above;
      last = chunk;
      reference = reference_of chunk;
      there = sought_of at.sought;
      are = refl;
      lead = on.lead;
      named = named;
      down = on.down;
      ends = ends;
    };
    within = on.top.within;
    last = refl;
    there = refl;
  }

-- ---- what is found there is what the map has

module _ (content : Content) (f : HasFile content) where
  no_clash : (chunks : List (List ℕ)) → AllByRecursion (λ c. IsIn c (chunks_of content)) chunks →
      Clash chunks (chunks_of content) → ⊥
  no_clash chunks inside c = c.differ (one_chunk (chunks_of content) c.one c.other f.is.apart
      (is_inside chunks inside c.in_one) c.in_other c.same)
    where
      is_inside : (cs : List (List ℕ)) → AllByRecursion (λ c. IsIn c (chunks_of content)) cs →
          IsIn c.one cs → IsIn c.one (chunks_of content)
      is_inside [] all is_in = absurd is_in
      is_inside (d ∷ cs) all (inl e) = subst (λ c. IsIn c (chunks_of content)) (sym e) all.0
      is_inside (d ∷ cs) all (inr is_in) = is_inside cs all.1 is_in

  can_in : (sought : Sought) → CanBeSought content.version sought →
      CanCount content.version sought content.pairs
  can_in (Key key) counted = tt
  can_in (Number n) counted = grind (arith, few_pairs)

  pub end_tells : (sought : Sought) → CanBeSought content.version sought → (at : At) →
      IsWayEnd content sought at → Tells sought content.pairs (sought_of at.sought)
      (pairs_held (nth_chunk content at.number))
  end_tells sought counted at end = grind (arith, way_right, can_in, no_clash)
