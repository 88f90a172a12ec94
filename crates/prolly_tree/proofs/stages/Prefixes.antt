-- What a stage sends at a fault is a front of what it sends of a longer input.
use Rattle.std.proofs.Common.{◌≡◌, ℕ, zero, suc, ◌+◌, ◌<◌, ◌≤◌, Bool, true, false, List, [], ◌∷◌}
use Rattle.std.proofs.Common.{◌++◌, length, map, refl, sym, ap, ◌∙◌, subst, arith, append_assoc}
use Rattle.std.proofs.Common.{append-nil}
use Rattle.std.proofs.lemmas.Bool.{false≢true}
use Rattle.std.proofs.lemmas.List.{length-append, map-append}
use Rattle.std.proofs.lemmas.List.Concat.{flat_map-append}
use Rattle.std.proofs.lemmas.List.Elements.{filter-append}
use Rattle.std.specs.List.{flat_map, filter}
use Rattle.prolly_entry.specs.Pair.{Pair}
use Rattle.prolly_entry.specs.declared.version.Version.{Version}
use Rattle.prolly_entry.specs.Cut.{Cut}
use Rattle.prolly_tree.specs.Split.{split, closed_groups, open_groups}
use Rattle.prolly_tree.specs.Tree.{Tree, grow, pair_is_boundary, leaves_of, tree_of}
use Rattle.prolly_tree.specs.Chunk.{Chunk, chunk_of, chunks, begun_chunks}
use Rattle.prolly_tree.specs.File.{header, frame, end_record, root_reference, file, begun_file}
use Rattle.prolly_tree.specs.File.{BegunIsPrefix}
use Rattle.prolly_tree.specs.Events.{Closing, clean, faulty, event_is_boundary, stage_events}
use Rattle.prolly_tree.specs.Events.{leaf_events, inner_events, has_level, events_through}
use Rattle.prolly_tree.specs.Events.{events_beyond, with_group_events, events_at_end, group_event}
use Rattle.prolly_tree.specs.Events.{FaultSendsPrefix}
use Rattle.prolly_entry.specs.Prefix.{IsPrefix}
use Rattle.prolly_entry.specs.lemmas.Lists.{head_is, tail_is}
use Rattle.prolly_tree.specs.lemmas.Splits.{flat, as_group, closes, Open, Ends, AllEnd}
use Rattle.prolly_tree.proofs.splits.Parts.{parts, open_rest_of, split_parts, closed_parts}
use Rattle.prolly_tree.proofs.stages.Streams.{through_true, through_false, beyond_true}
use Rattle.prolly_tree.proofs.stages.Streams.{beyond_false}
use Rattle.prolly_tree.proofs.trees.Growth.{grow_one, level_two}
use Rattle.prolly_tree.proofs.stages.Groups.{event_with}
use Rattle.prolly_tree.proofs.stages.Composition.{Reached, reached, run, walk_of}
use Rattle.prolly_tree.specs.lemmas.Stages.{count, count_true, count_false}

pub map_front : {A B : Type 0} (f : A → B) (front list : List A) → IsPrefix front list →
    IsPrefix (map f front) (map f list)
map_front f front list h = (map f h.0, ap (map f) h.1 ∙ map-append f front h.0)

-- the first group is longer
abbrev FirstLonger : {A : Type 0} → ℕ → List (List A) → Type 0
FirstLonger n [] = Unit {0}
FirstLonger n (g ∷ gs) = n < length g

-- the closed groups of a longer list
record MoreGroups {A : Type 0} (test : A → Bool) (least : ℕ) (list : List A) (gs : List (List A))
    (n : ℕ) : Type 0 where
  others : List (List A)
  last : List A
  all : split test least list ≡ gs ++ (others ++ as_group last)
  closed : closed_groups test least list ≡ gs ++ others
  longer : FirstLonger n others

module _ {A : Type 0} (test : A → Bool) (least : ℕ) where
  all_end_append : (before : ℕ) (gs hs : List (List A)) → AllEnd test least before gs →
      AllEnd test least 0 hs → (before ≡ 0) → AllEnd test least before (gs ++ hs)
  all_end_append before [] hs h k e = subst (λ b. AllEnd test least b hs) (sym e) k
  all_end_append before (g ∷ gs) hs h k e = (h.0, all_end_append 0 gs hs h.1 k refl)

  flat_append : (gs hs : List (List A)) (rest : List A) →
      flat (gs ++ hs) ++ rest ≡ flat gs ++ (flat hs ++ rest)
  flat_append gs hs rest = ap (λ a. a ++ rest) (flat_map-append (λ g. g) gs hs) ∙
      append_assoc (flat gs) (flat hs) rest

  -- what closes a group is longer than what does not
  longer_than : (before : ℕ) (rest more g others : List A) → Open test least before rest →
      Ends test least before g → rest ++ more ≡ g ++ others → length rest < length g
  longer_than before [] more [] others o h e = absurd h
  longer_than before [] more (x ∷ g) others o h e = omega arith
  longer_than before (y ∷ rest) more [] others o h e = absurd h
  longer_than before (y ∷ rest) more (x ∷ []) others o h e =
      absurd (false≢true (sym o.0 ∙ subst (λ v. closes test least before v ≡ true)
      (sym (head_is y x (rest ++ more) others e)) h))
  longer_than before (y ∷ rest) more (x ∷ x' ∷ g) others o h e =
      let less : length rest < length (x' ∷ g) =
      longer_than (suc before) rest more (x' ∷ g) others o.1 h.1
      (tail_is y x (rest ++ more) ((x' ∷ g) ++ others) e) in
      let less' : length rest < suc (length g) = less in omega arith

  first_longer : (rest more : List A) (hs : List (List A)) (last : List A) →
      Open test least 0 rest → AllEnd test least 0 hs → flat hs ++ last ≡ rest ++ more →
      FirstLonger (length rest) hs
  first_longer rest more [] last o h e = tt
  first_longer rest more (g ∷ hs) last o h e =
      longer_than 0 rest more g (flat hs ++ last) o h.0 (sym e ∙ append_assoc g (flat hs) last)

  more_groups : (gs : List (List A)) (rest more : List A) → AllEnd test least 0 gs →
      Open test least 0 rest → MoreGroups test least ((flat gs ++ rest) ++ more) gs (length rest)
  more_groups gs rest more h o =
      let p = parts test least (rest ++ more) in
      let o' : Open test least 0 p.rest = open_rest_of test least (rest ++ more) p in
      let h' : AllEnd test least 0 (gs ++ p.groups) = all_end_append 0 gs p.groups h p.ends refl in
      let e : (flat gs ++ rest) ++ more ≡ flat (gs ++ p.groups) ++ p.rest =
      append_assoc (flat gs) rest more ∙ ap (λ a. flat gs ++ a) (sym p.whole) ∙
      sym (flat_append gs p.groups p.rest) in
      record {
        others = p.groups;
        last = p.rest;
        all = ap (split test least) e ∙ split_parts test least (gs ++ p.groups) p.rest h' o' ∙
            append_assoc gs p.groups (as_group p.rest);
        closed = ap (closed_groups test least) e ∙ closed_parts test least (gs ++ p.groups) p.rest
            h' o';
        longer = first_longer rest more p.groups p.rest o p.ends p.whole;
      }

-- ---- the leaf stage

module _ (cut : Cut) (version : Version) where
  leaves_front : (gs more : List (List Pair)) → IsPrefix gs (leaves_of (gs ++ more))
  leaves_front [] more = (leaves_of more, refl)
  leaves_front (g ∷ gs) more = (more, refl)

  leaf_parts : (closing : Closing) (gs : List (List Pair)) (rest more : List Pair) →
      AllEnd (pair_is_boundary cut) 1 0 gs → Open (pair_is_boundary cut) 1 0 rest →
      IsPrefix (leaf_events cut version faulty (flat gs ++ rest))
      (leaf_events cut version closing ((flat gs ++ rest) ++ more))
  leaf_parts faulty gs rest more h o =
      let p = more_groups (pair_is_boundary cut) 1 gs rest more h o in
      map_front (chunk_of version 0) (closed_groups (pair_is_boundary cut) 1 (flat gs ++ rest))
      (closed_groups (pair_is_boundary cut) 1 ((flat gs ++ rest) ++ more)) (
        p.others,
        p.closed ∙ ap (λ a. a ++ p.others)
            (sym (closed_parts (pair_is_boundary cut) 1 gs rest h o)),
      )
  leaf_parts clean gs rest more h o =
      let p = more_groups (pair_is_boundary cut) 1 gs rest more h o in
      let f = leaves_front gs (p.others ++ as_group p.last) in
      map_front (chunk_of version 0) (closed_groups (pair_is_boundary cut) 1 (flat gs ++ rest))
      (leaves_of (split (pair_is_boundary cut) 1 ((flat gs ++ rest) ++ more))) (
        f.0,
        ap leaves_of p.all ∙ f.1 ∙ ap (λ a. a ++ f.0)
            (sym (closed_parts (pair_is_boundary cut) 1 gs rest h o)),
      )

  pub leaf_front : (closing : Closing) (front more : List Pair) →
      IsPrefix (leaf_events cut version faulty front)
      (leaf_events cut version closing (front ++ more))
  leaf_front closing front more =
      let p = parts (pair_is_boundary cut) 1 front in
      subst (λ xs. IsPrefix (leaf_events cut version faulty xs)
      (leaf_events cut version closing (xs ++ more))) p.whole
      (leaf_parts closing p.groups p.rest more p.ends
      (open_rest_of (pair_is_boundary cut) 1 front p))

-- ---- an inner stage

module _ (level : ℕ) where
  through_past : (n : ℕ) (a b : List Chunk) → count level a < n →
      IsPrefix a (events_through level n (a ++ b))
  through_past n [] b h = (events_through level n b, refl)
  through_past zero (e ∷ a) b h = absurd (omega arith)
  through_past (suc n) (e ∷ a) b h = go (has_level level e) refl (λ k. through_past n a b k)
      (λ k. through_past (suc n) a b k)
    where
      go : (t : Bool) → has_level level e ≡ t →
          (count level a < n → IsPrefix a (events_through level n (a ++ b))) →
          (count level a < suc n → IsPrefix a (events_through level (suc n) (a ++ b))) →
          IsPrefix (e ∷ a) (events_through level (suc n) (e ∷ (a ++ b)))
      go true h' k l = let c : count level (e ∷ a) ≡ suc (count level a) =
          count_true level e a h' in
          let r = k (omega arith) in (r.0, through_true level n e (a ++ b) h' ∙ ap (λ x. e ∷ x) r.1)
      go false h' k l = let c : count level (e ∷ a) ≡ count level a = count_false level e a h' in
          let r = l (omega arith) in (
            r.0,
            through_false level n e (a ++ b) h' ∙
                ap (λ x. e ∷ x) r.1,
          )

  pub record Within (n : ℕ) (a b : List Chunk) : Type 0 where
    pub front : events_through level n (a ++ b) ≡ events_through level n a
    pub back : events_beyond level n (a ++ b) ≡ events_beyond level n a ++ b
    pub left : count level (events_beyond level n a) + n ≡ count level a

  pub within : (n : ℕ) (a b : List Chunk) → n ≤ count level a → Within n a b
  within zero a b h = record { front = refl; back = refl; left = omega arith }
  within (suc n) [] b h = absurd (omega arith)
  within (suc n) (e ∷ a) b h = go (has_level level e) refl (λ k. within n a b k)
      (λ k. within (suc n) a b k)
    where
      go : (t : Bool) → has_level level e ≡ t → (n ≤ count level a → Within n a b) →
          (suc n ≤ count level a → Within (suc n) a b) → Within (suc n) (e ∷ a) b
      go true h' k l = let c : count level (e ∷ a) ≡ suc (count level a) =
          count_true level e a h' in
          let r = k (omega arith) in
          let left' : count level (events_beyond level n a) + n ≡ count level a = r.left in
          let same : count level (events_beyond level (suc n) (e ∷ a)) ≡
          count level (events_beyond level n a) =
          ap (count level) (beyond_true level n e a h') in
          record {
            front = through_true level n e (a ++ b) h' ∙ ap (λ x. e ∷ x) r.front ∙
                sym (through_true level n e a h');
            back = beyond_true level n e (a ++ b) h' ∙ r.back ∙
                ap (λ x. x ++ b) (sym (beyond_true level n e a h'));
            left = omega arith;
          }
      go false h' k l = let c : count level (e ∷ a) ≡ count level a = count_false level e a h' in
          let r = l (omega arith) in
          let left' : count level (events_beyond level (suc n) a) + suc n ≡ count level a =
          r.left in
          let same : count level (events_beyond level (suc n) (e ∷ a)) ≡
          count level (events_beyond level (suc n) a) =
          ap (count level) (beyond_false level n e a h') in
          record {
            front = through_false level n e (a ++ b) h' ∙ ap (λ x. e ∷ x) r.front ∙
                sym (through_false level n e a h');
            back = beyond_false level n e (a ++ b) h' ∙ r.back ∙
                ap (λ x. x ++ b) (sym (beyond_false level n e a h'));
            left = omega arith;
          }

  put_front : (event_of : List Chunk → Chunk) (gs hs : List (List Chunk)) (a b : List Chunk)
      (n : ℕ) → count level a ≡ length (flat gs) + n → FirstLonger n hs →
      IsPrefix (with_group_events level event_of gs a)
      (with_group_events level event_of (gs ++ hs) (a ++ b))
  put_front event_of [] [] a b n c l = (b, refl)
  put_front event_of [] (h ∷ hs) a b n c l =
      let r = through_past (length h) a b (omega arith) in
      let rest = event_of h ∷ with_group_events level event_of hs
      (events_beyond level (length h) (a ++ b)) in
      (r.0 ++ rest, ap (λ x. x ++ rest) r.1 ∙ append_assoc a r.0 rest)
  put_front event_of (g ∷ gs) hs a b n c l =
      let size : length (flat (g ∷ gs)) ≡ length g + length (flat gs) = length-append g (flat gs) in
      let w = within (length g) a b (omega arith) in
      let left' : count level (events_beyond level (length g) a) + length g ≡ count level a =
      w.left in
      let r = put_front event_of gs hs (events_beyond level (length g) a) b n (omega arith) l in (
        r.0,
        ap (λ x. x ++ event_of g ∷ with_group_events level event_of (gs ++ hs)
            (events_beyond level (length g) (a ++ b))) w.front
            ∙ ap (λ x. events_through level (length g) a ++ event_of g ∷ with_group_events level
            event_of (gs ++ hs) x) w.back
            ∙ ap (λ x. events_through level (length g) a ++ event_of g ∷ x) r.1
            ∙ sym (append_assoc (events_through level (length g) a)
            (event_of g ∷ with_group_events level event_of gs
            (events_beyond level (length g) a)) r.0),
      )

  module _ (ends : Chunk → Bool) (event_of : List Chunk → Chunk) where
    stage_parts : (closing : Closing) (a b : List Chunk) (gs : List (List Chunk))
        (rest : List Chunk) → flat gs ++ rest ≡ filter (has_level level) a →
        AllEnd ends 2 0 gs → Open ends 2 0 rest →
        IsPrefix (stage_events ends event_of level faulty a)
        (stage_events ends event_of level closing (a ++ b))
    stage_parts closing a b gs rest whole h o =
        let m = more_groups ends 2 gs rest (filter (has_level level) b) h o in
        let all : filter (has_level level) (a ++ b) ≡ (flat gs ++ rest) ++ filter (has_level level)
        b =
        filter-append (has_level level) a b ∙ ap (λ x. x ++ filter (has_level level) b) (sym whole)
        in
        let c : count level a ≡ length (flat gs) + length rest = ap length (sym whole) ∙
        length-append (flat gs) rest in
        let r = put_front event_of gs m.others a b (length rest) c m.longer in
        let tail = events_at_end closing event_of (length (filter (has_level level) (a ++ b)))
        (open_groups ends 2 (filter (has_level level) (a ++ b))) in
        let mine : stage_events ends event_of level faulty a ≡ with_group_events level event_of gs a
        =
        append-nil (with_group_events level event_of
        (closed_groups ends 2 (filter (has_level level) a)) a)
        ∙ ap (λ groups. with_group_events level event_of groups a)
        (ap (closed_groups ends 2) (sym whole) ∙ closed_parts ends 2 gs rest h o) in (
          r.0 ++ tail,
          ap (λ groups. with_group_events level event_of groups (a ++ b) ++ tail)
              (ap (closed_groups ends 2) all ∙ m.closed)
              ∙ ap (λ x. x ++ tail) r.1 ∙ append_assoc (with_group_events level event_of gs a) r.0
              tail ∙ ap (λ x. x ++ (r.0 ++ tail)) (sym mine),
        )

    pub stage_front : (closing : Closing) (a b : List Chunk) →
        IsPrefix (stage_events ends event_of level faulty a)
        (stage_events ends event_of level closing (a ++ b))
    stage_front closing a b =
        let p = parts ends 2 (filter (has_level level) a) in
        stage_parts closing a b p.groups p.rest p.whole p.ends
        (open_rest_of ends 2 (filter (has_level level) a) p)

inner_front : (cut : Cut) (version : Version) (closing : Closing) (level : ℕ)
    (front more : List Chunk) →
    IsPrefix (inner_events level cut version faulty front)
    (inner_events level cut version closing (front ++ more))
inner_front cut version closing zero front more = (more, refl)
inner_front cut version closing (suc below) front more =
    stage_front below (event_is_boundary cut version) (group_event version (suc below)) closing
    front more

pub fault_is_prefix : (cut : Cut) (version : Version) → FaultSendsPrefix cut version
fault_is_prefix cut version = (
  λ closing front more. leaf_front cut version closing front more,
  λ closing level front more. inner_front cut version closing level front more,
)

-- ---- what is begun_file

module _ (cut : Cut) (version : Version) where
  abbrev same_count : ℕ → ℕ
  same_count n = n

  run_of : List Pair → Closing → ℕ → List Chunk
  run_of m closing n = run cut version m same_count (λ k h. refl) closing n

  run_front : (front more : List Pair) (n : ℕ) →
      IsPrefix (run_of front faulty n) (run_of (front ++ more) clean n)
  unfolding run_of
  run_front front more zero = leaf_front cut version clean front more
  run_front front more (suc n) =
      let r = run_front front more n in
      let s = stage_front n (event_is_boundary cut version) (event_with same_count version (suc n))
      clean (run cut version front same_count (λ k h. refl) faulty n) r.0 in (
        s.0,
        ap (stage_events (event_is_boundary cut version) (event_with same_count version (suc n))
            n clean) r.1 ∙ s.1,
      )

  level_from : (level : ℕ) (ts : List (Tree level)) → 0 < length ts →
      level ≤ (grow cut version level ts).level
  level_from level [] h = absurd (omega arith)
  level_from level (t ∷ []) h = let e : (grow cut version level (t ∷ [])).level ≡ level =
      ap (λ x. x.level) (grow_one cut version level t) in omega arith
  level_from level (t ∷ u ∷ ts) h = let l : level < (grow cut version level (t ∷ u ∷ ts)).level =
      level_two cut version level t u ts in omega arith

  at_last : (m : List Pair) (closing : Closing) (n : ℕ) (events : List Chunk) →
      (tree_of cut version m).level < n → Reached cut version closing m n events →
      events ≡ walk_of cut version closing (tree_of cut version m)
  at_last m closing n events low (Reached.going ts e g) =
      let l : n ≤ (grow cut version n ts).level = level_from n ts g.some in
      let same : (tree_of cut version m).level ≡ (grow cut version n ts).level =
      ap (λ x. x.level) g.grown in
      absurd (omega arith)
  at_last m closing n events low (Reached.done low' e) = e

  chunks_front : (front more : List Pair) → IsPrefix (begun_chunks cut version front)
      (chunks cut version (front ++ more))
  unfolding run_of
  chunks_front front more =
      let n : ℕ = suc ((tree_of cut version front).level +
      (tree_of cut version (front ++ more)).level) in
      let r = run_front front more n in
      let mine : run_of front faulty n ≡ begun_chunks cut version front =
      at_last front faulty n (run_of front faulty n) (omega arith)
      (reached cut version front same_count (λ k h. refl) faulty n) in
      let whole : run_of (front ++ more) clean n ≡ chunks cut version (front ++ more) =
      at_last (front ++ more) clean n (run_of (front ++ more) clean n) (omega arith)
      (reached cut version (front ++ more) same_count (λ k h. refl) clean n) in
      (r.0, sym whole ∙ r.1 ∙ ap (λ x. x ++ r.0) mine)

  file_front : (front more : List Pair) → IsPrefix (begun_file cut version front)
      (file cut version (front ++ more))
  file_front front more =
      let r = chunks_front front more in
      let tail = end_record (root_reference cut version (front ++ more))
      (length (chunks cut version (front ++ more))) in (
        flat_map frame r.0 ++ tail,
        ap (λ x. (header version cut.bits ++ flat_map frame x) ++ tail) r.1
            ∙ ap (λ x. (header version cut.bits ++ x) ++ tail)
            (flat_map-append frame (begun_chunks cut version front) r.0)
            ∙ simp append_assoc,
      )

  pub begun_is_prefix : BegunIsPrefix cut version
  begun_is_prefix front m h = subst (λ x. IsPrefix (begun_file cut version front)
      (file cut version x)) (sym h.1) (file_front front h.0)
