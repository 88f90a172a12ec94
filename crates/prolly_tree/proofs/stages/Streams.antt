-- Events in blocks: a block ends with its one event of a level.
use Rattle.std.proofs.Common.{◌≡◌, ℕ, suc, ◌+◌, ◌*◌, ◌≤◌, Bool, true, false, nat_le, List, [], ◌∷◌}
use Rattle.std.proofs.Common.{◌++◌, length, map, refl, sym, ap, ◌∙◌, subst, arith, append_assoc}
use Rattle.std.proofs.Common.{append-nil}
use Rattle.std.proofs.lemmas.Bool.Decides.{nat_tests}
use Rattle.std.proofs.lemmas.List.{length-append, map-append}
use Rattle.std.proofs.lemmas.List.Concat.{flat_map-append}
use Rattle.std.proofs.lemmas.List.Elements.{filter-append}
use Rattle.std.specs.List.{flat_map, filter, AllByRecursion}
use Rattle.prolly_tree.specs.Split.{closed_groups, open_groups}
use Rattle.prolly_tree.specs.Chunk.{Chunk}
use Rattle.prolly_tree.specs.Events.{Closing, clean, faulty, has_level, events_through}
use Rattle.prolly_tree.specs.Events.{events_beyond, with_group_events, events_at_end, stage_events}
use Rattle.prolly_tree.specs.lemmas.Splits.{flat, as_group, Open, Ends, AllEnd}
use Rattle.prolly_tree.proofs.splits.Parts.{parts, closed_parts, open_parts, open_rest_of}
use Rattle.prolly_tree.proofs.splits.Splits.{all_two}

-- no event of the level
abbrev pub NoLevel : ℕ → List Chunk → Type 0
NoLevel level [] = Unit {0}
NoLevel level (e ∷ es) = (has_level level e ≡ false) × NoLevel level es

-- the last event is of the level, none before
abbrev pub IsBlock : ℕ → List Chunk → Chunk → Type 0
IsBlock level [] last = ⊥
IsBlock level (e ∷ []) last = (e ≡ last) × (has_level level e ≡ true)
IsBlock level (e ∷ f ∷ es) last = (has_level level e ≡ false) × IsBlock level (f ∷ es) last

pub block_from : (level : ℕ) (front : List Chunk) (last : Chunk) → NoLevel level front →
    has_level level last ≡ true → IsBlock level (front ++ last ∷ []) last
block_from level [] last none has = (refl, has)
block_from level (e ∷ []) last none has = (none.0, (refl, has))
block_from level (e ∷ f ∷ es) last none has = (none.0, block_from level (f ∷ es) last none.1 has)

pub none_append : (level : ℕ) (a b : List Chunk) → NoLevel level a → NoLevel level b →
    NoLevel level (a ++ b)
none_append level [] b p q = q
none_append level (e ∷ a) b p q = (p.0, none_append level a b p.1 q)

pub filter_none : (level : ℕ) (a : List Chunk) → NoLevel level a → filter (has_level level) a ≡ []
filter_none level [] h = refl
filter_none level (e ∷ es) h = rw h.0 (filter_none level es h.1)

pub filter_block : (level : ℕ) (b : List Chunk) (last : Chunk) → IsBlock level b last →
    filter (has_level level) b ≡ last ∷ []
filter_block level [] last h = absurd h
filter_block level (e ∷ []) last h = rw h.1 (ap (λ x. x ∷ []) h.0)
filter_block level (e ∷ f ∷ es) last h = rw h.0 (filter_block level (f ∷ es) last h.1)

pub through_true : (level n : ℕ) (e : Chunk) (es : List Chunk) → has_level level e ≡ true →
    events_through level (suc n) (e ∷ es) ≡ e ∷ events_through level n es
through_true level n e es h = rw (h, events_through) refl

pub through_false : (level n : ℕ) (e : Chunk) (es : List Chunk) → has_level level e ≡ false →
    events_through level (suc n) (e ∷ es) ≡ e ∷ events_through level (suc n) es
through_false level n e es h = rw (h, events_through) refl

pub beyond_true : (level n : ℕ) (e : Chunk) (es : List Chunk) → has_level level e ≡ true →
    events_beyond level (suc n) (e ∷ es) ≡ events_beyond level n es
beyond_true level n e es h = rw (h, events_beyond) refl

pub beyond_false : (level n : ℕ) (e : Chunk) (es : List Chunk) → has_level level e ≡ false →
    events_beyond level (suc n) (e ∷ es) ≡ events_beyond level (suc n) es
beyond_false level n e es h = rw (h, events_beyond) refl

pub through_block : (level n : ℕ) (b : List Chunk) (last : Chunk) (more : List Chunk) →
    IsBlock level b last →
    events_through level (suc n) (b ++ more) ≡ b ++ events_through level n more
through_block level n [] last more h = absurd h
through_block level n (e ∷ []) last more h = through_true level n e more h.1
through_block level n (e ∷ f ∷ es) last more h =
    through_false level n e ((f ∷ es) ++ more) h.0 ∙
    ap (λ xs. e ∷ xs) (through_block level n (f ∷ es) last more h.1)

pub beyond_block : (level n : ℕ) (b : List Chunk) (last : Chunk) (more : List Chunk) →
    IsBlock level b last →
    events_beyond level (suc n) (b ++ more) ≡ events_beyond level n more
beyond_block level n [] last more h = absurd h
beyond_block level n (e ∷ []) last more h = beyond_true level n e more h.1
beyond_block level n (e ∷ f ∷ es) last more h =
    beyond_false level n e ((f ∷ es) ++ more) h.0 ∙ beyond_block level n (f ∷ es) last more h.1

-- ---- items that stand for blocks: top is the block's last event

module _ {X : Type 0} (level : ℕ) (block : X → List Chunk) (top : X → Chunk) where
  abbrev pub Blocks : List X → Type 0
  Blocks xs = AllByRecursion (λ x. IsBlock level (block x) (top x)) xs

  pub filter_blocks : (xs : List X) → Blocks xs → filter (has_level level) (flat_map block xs) ≡
      map top xs
  filter_blocks [] h = refl
  filter_blocks (x ∷ xs) h = filter-append (has_level level) (block x) (flat_map block xs)
      ∙ ap (λ a. a ++ filter (has_level level) (flat_map block xs))
      (filter_block level (block x) (top x) h.0)
      ∙ ap (λ a. top x ∷ a) (filter_blocks xs h.1)

  pub through_blocks : (xs : List X) (more : List Chunk) → Blocks xs →
      events_through level (length (map top xs)) (flat_map block xs ++ more) ≡ flat_map block xs
  through_blocks [] more h = refl
  through_blocks (x ∷ xs) more h = rw append_assoc
      (through_block level (length (map top xs)) (block x) (top x) (flat_map block xs ++ more) h.0
      ∙ ap (λ a. block x ++ a) (through_blocks xs more h.1))

  pub beyond_blocks : (xs : List X) (more : List Chunk) → Blocks xs →
      events_beyond level (length (map top xs)) (flat_map block xs ++ more) ≡ more
  beyond_blocks [] more h = refl
  beyond_blocks (x ∷ xs) more h = rw append_assoc
      (beyond_block level (length (map top xs)) (block x) (top x) (flat_map block xs ++ more) h.0
      ∙ beyond_blocks xs more h.1)

  -- the groups' events put in behind the groups' blocks
  pub put_in_blocks : (event_of : List Chunk → Chunk) (gs : List (List X)) (more : List Chunk) →
      AllByRecursion Blocks gs →
      with_group_events level event_of (map (map top) gs) (flat_map block (flat gs) ++ more)
      ≡ flat_map (λ g. flat_map block g ++ event_of (map top g) ∷ []) gs ++ more
  put_in_blocks event_of [] more h = refl
  put_in_blocks event_of (g ∷ gs) more h =
      let split_up : flat_map block (flat (g ∷ gs)) ++ more ≡ flat_map block g ++
      (flat_map block (flat gs) ++ more) =
      ap (λ a. a ++ more) (flat_map-append block g (flat gs)) ∙
      append_assoc (flat_map block g) (flat_map block (flat gs)) more in
      ap (λ a. events_through level (length (map top g)) a ++ event_of (map top g) ∷
      with_group_events level event_of (map (map top) gs)
      (events_beyond level (length (map top g)) a)) split_up
      ∙ ap (λ a. a ++ event_of (map top g) ∷ with_group_events level event_of (map (map top) gs)
      (events_beyond level (length (map top g))
      (flat_map block g ++ (flat_map block (flat gs) ++ more))))
      (through_blocks g (flat_map block (flat gs) ++ more) h.0)
      ∙ ap (λ a. flat_map block g ++ event_of (map top g) ∷ with_group_events level event_of
      (map (map top) gs) a)
      (beyond_blocks g (flat_map block (flat gs) ++ more) h.0)
      ∙ ap (λ a. flat_map block g ++ event_of (map top g) ∷ a) (put_in_blocks event_of gs more h.1)
      ∙ simp append_assoc

-- ---- parts of what a function gives

module _ {X Y : Type 0} (test : Y → Bool) (least : ℕ) (f : X → Y) where
  pub open_map : (before : ℕ) (xs : List X) → Open (λ x. test (f x)) least before xs →
      Open test least before (map f xs)
  open_map before [] h = tt
  open_map before (x ∷ xs) h = (h.0, open_map (suc before) xs h.1)

  pub ends_map : (before : ℕ) (xs : List X) → Ends (λ x. test (f x)) least before xs →
      Ends test least before (map f xs)
  ends_map before [] h = absurd h
  ends_map before (x ∷ []) h = h
  ends_map before (x ∷ y ∷ xs) h = (h.0, ends_map (suc before) (y ∷ xs) h.1)

  pub all_end_map : (before : ℕ) (gs : List (List X)) → AllEnd (λ x. test (f x)) least before gs →
      AllEnd test least before (map (map f) gs)
  all_end_map before [] h = tt
  all_end_map before (g ∷ gs) h = (ends_map before g h.0, all_end_map 0 gs h.1)

pub map_flat : {X Y : Type 0} (f : X → Y) (gs : List (List X)) →
    map f (flat gs) ≡ flat (map (map f) gs)
map_flat f [] = refl
map_flat f (g ∷ gs) = map-append f g (flat gs) ∙ ap (λ a. map f g ++ a) (map_flat f gs)

-- ---- a stage over blocks

module _ {X : Type 0} (level : ℕ) (block : X → List Chunk) (top : X → Chunk) (ends : Chunk →
    Bool) (event_of : List Chunk → Chunk) where
  -- what the stage sends of a group
  abbrev pub group_block : List X → List Chunk
  group_block g = flat_map block g ++ event_of (map top g) ∷ []

  entries_of : (xs : List X) (tail : List Chunk) → Blocks level block top xs → NoLevel level tail →
      filter (has_level level) (flat_map block xs ++ tail) ≡ map top xs
  entries_of xs tail h none = filter-append (has_level level) (flat_map block xs) tail
      ∙ ap (λ a. filter (has_level level) (flat_map block xs) ++ a) (filter_none level tail none)
      ∙ append-nil (filter (has_level level) (flat_map block xs)) ∙
      filter_blocks level block top xs h

  blocks_front : (g : List X) (gs : List (List X)) (rest : List X) → Blocks level block top g →
      Blocks level block top (flat gs ++ rest) → Blocks level block top ((g ++ flat gs) ++ rest)
  blocks_front [] gs rest k h = h
  blocks_front (x ∷ xs) gs rest k h = (k.0, blocks_front xs gs rest k.1 h)

  blocks_flat : (gs : List (List X)) (rest : List X) → AllByRecursion (Blocks level block top) gs →
      Blocks level block top rest → Blocks level block top (flat gs ++ rest)
  blocks_flat [] rest hs h = h
  blocks_flat (g ∷ gs) rest hs h = blocks_front g gs rest hs.0 (blocks_flat gs rest hs.1 h)

  pub stage_of_parts : (closing : Closing) (gs : List (List X)) (rest : List X)
      (tail : List Chunk) →
      AllEnd (λ x. ends (top x)) 2 0 gs → Open (λ x. ends (top x)) 2 0 rest →
      AllByRecursion (Blocks level block top) gs → Blocks level block top rest →
      NoLevel level tail →
      stage_events ends event_of level closing (flat_map block (flat gs ++ rest) ++ tail)
      ≡ (flat_map group_block gs ++ (flat_map block rest ++ tail))
      ++ events_at_end closing event_of (length (map top (flat gs ++ rest)))
      (as_group (map top rest))
  stage_of_parts closing gs rest tail all_end is_open blocks block_rest none =
      let events = flat_map block (flat gs ++ rest) ++ tail in
      let entries : filter (has_level level) events ≡ map top (flat gs ++ rest) =
      entries_of (flat gs ++ rest) tail (blocks_flat gs rest blocks block_rest) none in
      let mapped : map top (flat gs ++ rest) ≡ flat (map (map top) gs) ++ map top rest =
      map-append top (flat gs) rest ∙ ap (λ a. a ++ map top rest) (map_flat top gs) in
      let ends' : AllEnd ends 2 0 (map (map top) gs) = all_end_map ends 2 top 0 gs all_end in
      let open' : Open ends 2 0 (map top rest) = open_map ends 2 top 0 rest is_open in
      let closed : closed_groups ends 2 (map top (flat gs ++ rest)) ≡ map (map top) gs =
      ap (closed_groups ends 2) mapped ∙ closed_parts ends 2 (map (map top) gs) (map top rest) ends'
      open' in
      let opened : open_groups ends 2 (map top (flat gs ++ rest)) ≡ as_group (map top rest) =
      ap (open_groups ends 2) mapped ∙ open_parts ends 2 (map (map top) gs) (map top rest) ends'
      open' in
      let laid : events ≡ flat_map block (flat gs) ++ (flat_map block rest ++ tail) =
      ap (λ a. a ++ tail) (flat_map-append block (flat gs) rest) ∙
      append_assoc (flat_map block (flat gs)) (flat_map block rest) tail in
      ap (λ es. with_group_events level event_of (closed_groups ends 2 es) events ++
      events_at_end closing event_of (length es) (open_groups ends 2 es)) entries
      ∙ ap (λ groups. with_group_events level event_of groups events ++ events_at_end closing
      event_of (length (map top (flat gs ++ rest)))
      (open_groups ends 2 (map top (flat gs ++ rest)))) closed
      ∙ ap (λ groups. with_group_events level event_of (map (map top) gs) events ++
      events_at_end closing event_of (length (map top (flat gs ++ rest))) groups) opened
      ∙ ap (λ es. with_group_events level event_of (map (map top) gs) es ++ events_at_end closing
      event_of (length (map top (flat gs ++ rest))) (as_group (map top rest))) laid
      ∙ ap (λ es. es ++ events_at_end closing event_of (length (map top (flat gs ++ rest)))
      (as_group (map top rest)))
      (put_in_blocks level block top event_of gs (flat_map block rest ++ tail) blocks)

-- ---- a stage that gets at most one event of its level sends what it got

module _ (level : ℕ) (ends : Chunk → Bool) (event_of : List Chunk → Chunk) (closing : Closing)
    (events : List Chunk) where
  abbrev sends : List Chunk → List Chunk
  sends entries = with_group_events level event_of (closed_groups ends 2 entries) events
      ++ events_at_end closing event_of (length entries) (open_groups ends 2 entries)

  no_groups : (gs : List (List Chunk)) (rest : List Chunk) → AllEnd ends 2 0 gs →
      length (flat gs ++ rest) ≤ 1 → gs ≡ []
  no_groups [] rest h few = refl
  no_groups (g ∷ gs) rest h few =
      let two : 2 * length (g ∷ gs) ≤ length (flat (g ∷ gs)) = all_two ends (g ∷ gs) h in
      let sum : length (flat (g ∷ gs) ++ rest) ≡ length (flat (g ∷ gs)) + length rest =
      length-append (flat (g ∷ gs)) rest in
      let two' : 2 * suc (length gs) ≤ length (flat (g ∷ gs)) = two in
      absurd (omega arith)

  none_at_end : (n : ℕ) (groups : List (List Chunk)) (c : Closing) → n ≤ 1 →
      events_at_end c event_of n groups ≡ []
  none_at_end n groups faulty few = refl
  none_at_end n groups clean few = let e : nat_le 2 n ≡ false = grind (arith, nat_tests) in
      rw e refl

  sends_same : (gs : List (List Chunk)) (rest : List Chunk) → AllEnd ends 2 0 gs →
      Open ends 2 0 rest → length (flat gs ++ rest) ≤ 1 → sends (flat gs ++ rest) ≡ events
  sends_same gs rest all_end is_open few =
      ap (λ groups. with_group_events level event_of groups events ++ events_at_end closing event_of
      (length (flat gs ++ rest)) (open_groups ends 2 (flat gs ++ rest)))
      (closed_parts ends 2 gs rest all_end is_open ∙ no_groups gs rest all_end few)
      ∙ ap (λ a. events ++ a) (none_at_end (length (flat gs ++ rest))
      (open_groups ends 2 (flat gs ++ rest)) closing few)
      ∙ append-nil events

  pub unchanged : length (filter (has_level level) events) ≤ 1 →
      stage_events ends event_of level closing events ≡ events
  unchanged few =
      let p = parts ends 2 (filter (has_level level) events) in
      let few' : length (flat p.groups ++ p.rest) ≤ 1 =
      subst (λ xs. length xs ≤ 1) (sym p.whole) few in
      ap sends (sym p.whole) ∙ sends_same p.groups p.rest p.ends
      (open_rest_of ends 2 (filter (has_level level) events) p) few'
