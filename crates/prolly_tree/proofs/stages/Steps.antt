-- A split, and what a stage has sent, go on by one entry.
use Rattle.std.proofs.Common.{◌≡◌, ℕ, zero, suc, ◌+◌, ◌<◌, ◌≤◌, Bool, true, false, cond, ◌&&◌, List}
use Rattle.std.proofs.Common.{[], ◌∷◌, ◌++◌, length, refl, sym, ap, ◌∙◌, subst, arith, add-zero}
use Rattle.std.proofs.Common.{append_assoc, append-nil}
use Rattle.std.proofs.lemmas.List.{length-append}
use Rattle.std.proofs.lemmas.List.Concat.{flat_map-append}
use Rattle.std.proofs.lemmas.List.Elements.{filter-append}
use Rattle.std.specs.List.{filter}
use Rattle.prolly_tree.specs.Split.{is_closed, closed_groups, open_groups, open_entries, SplitStep}
use Rattle.prolly_tree.specs.Chunk.{Chunk}
use Rattle.prolly_tree.specs.Events.{clean, faulty, stage_events, has_level, events_through}
use Rattle.prolly_tree.specs.Events.{events_beyond, with_group_events, events_at_end, StageStep}
use Rattle.prolly_tree.specs.lemmas.Splits.{flat, as_group, closes, Open, Ends, AllEnd}
use Rattle.prolly_tree.proofs.splits.Parts.{parts, open_rest_of, closed_parts, open_parts}
use Rattle.prolly_tree.proofs.splits.Parts.{ends_more, ends_closed, open_not_closed}
use Rattle.prolly_tree.specs.lemmas.Stages.{count, count_true, count_false}
use Rattle.prolly_tree.proofs.stages.Prefixes.{within}
use Rattle.prolly_tree.proofs.stages.Streams.{through_true, through_false, beyond_true}
use Rattle.prolly_tree.proofs.stages.Streams.{beyond_false}

flat_as_group : {A : Type 0} (rest : List A) → flat (as_group rest) ≡ rest
flat_as_group [] = refl
flat_as_group (x ∷ xs) = append-nil (x ∷ xs)

module _ {A : Type 0} (test : A → Bool) (least : ℕ) where
  ends_snoc : (before : ℕ) (rest : List A) (x : A) → Open test least before rest →
      closes test least (before + length rest) x ≡ true → Ends test least before (rest ++ x ∷ [])
  ends_snoc before [] x o h = rw add-zero at h
  ends_snoc before (y ∷ ys) x o h = let e : before + suc (length ys) ≡ suc before + length ys =
      omega arith in
      ends_more test least before y (ys ++ x ∷ []) o.0 (ends_snoc (suc before) ys x o.1 (rw e at h))

  open_snoc : (before : ℕ) (rest : List A) (x : A) → Open test least before rest →
      closes test least (before + length rest) x ≡ false → Open test least before (rest ++ x ∷ [])
  open_snoc before [] x o h = (rw add-zero at h, tt)
  open_snoc before (y ∷ ys) x o h = let e : before + suc (length ys) ≡ suc before + length ys =
      omega arith in
      (o.0, open_snoc (suc before) ys x o.1 (rw e at h))

  all_end_snoc : (before : ℕ) (gs : List (List A)) (g : List A) → AllEnd test least before gs →
      Ends test least 0 g → before ≡ 0 → AllEnd test least before (gs ++ g ∷ [])
  all_end_snoc before [] g h k e = (subst (λ b. Ends test least b g) (sym e) k, tt)
  all_end_snoc before (g' ∷ gs) g h k e = (h.0, all_end_snoc 0 gs g h.1 k refl)

  -- the parts of a list with one entry more
  record Next (gs : List (List A)) (rest : List A) (x : A) : Type 0 where
    closed : is_closed test least (rest ++ x ∷ []) ≡ true
    ends : AllEnd test least 0 (gs ++ (rest ++ x ∷ []) ∷ [])
    whole : (flat gs ++ rest) ++ x ∷ [] ≡ flat (gs ++ (rest ++ x ∷ []) ∷ []) ++ []

  next_closed : (gs : List (List A)) (rest : List A) (x : A) → AllEnd test least 0 gs →
      Open test least 0 rest → closes test least (0 + length rest) x ≡ true → Next gs rest x
  next_closed gs rest x h o c =
      let e : Ends test least 0 (rest ++ x ∷ []) = ends_snoc 0 rest x o c in
      record {
        closed = ends_closed test least (rest ++ x ∷ []) e;
        ends = all_end_snoc 0 gs (rest ++ x ∷ []) h e refl;
        whole = append_assoc (flat gs) rest (x ∷ []) ∙
            ap (λ a. flat gs ++ a) (sym (append-nil (rest ++ x ∷ [])))
            ∙ sym (flat_map-append (λ g. g) gs ((rest ++ x ∷ []) ∷ [])) ∙
            sym (append-nil (flat (gs ++ (rest ++ x ∷ []) ∷ [])));
      }

  Step : List A → List (List A) → List A → A → Type 0
  Step list gs rest x =
      (closed_groups test least (list ++ x ∷ []) ≡ gs ++
      cond (is_closed test least (rest ++ x ∷ [])) ((rest ++ x ∷ []) ∷ []) [])
      × (open_groups test least (list ++ x ∷ []) ≡ cond (is_closed test least (rest ++ x ∷ [])) []
      (as_group (rest ++ x ∷ [])))

  step_parts : (gs : List (List A)) (rest : List A) (x : A) → AllEnd test least 0 gs →
      Open test least 0 rest → Step (flat gs ++ rest) gs rest x
  unfolding Step
  step_parts gs rest x h o = go (closes test least (0 + length rest) x) refl
    where
      go : (c : Bool) → closes test least (0 + length rest) x ≡ c → Step (flat gs ++ rest) gs rest x
      go true c =
          let n = next_closed gs rest x h o c in (
            ap (closed_groups test least) n.whole ∙
                closed_parts test least (gs ++ (rest ++ x ∷ []) ∷ []) [] n.ends tt
                ∙ sym (ap (λ b. gs ++ cond b ((rest ++ x ∷ []) ∷ []) []) n.closed),
            ap (open_groups test least) n.whole ∙
                open_parts test least (gs ++ (rest ++ x ∷ []) ∷ []) [] n.ends tt
                ∙ sym (ap (λ b. cond b [] (as_group (rest ++ x ∷ []))) n.closed),
          )
      go false c =
          let o' : Open test least 0 (rest ++ x ∷ []) = open_snoc 0 rest x o c in
          let not_closed : is_closed test least (rest ++ x ∷ []) ≡ false =
          open_not_closed test least (rest ++ x ∷ []) o' in
          let e : (flat gs ++ rest) ++ x ∷ [] ≡ flat gs ++ (rest ++ x ∷ []) =
          append_assoc (flat gs) rest (x ∷ []) in (
            ap (closed_groups test least) e ∙ closed_parts test least gs (rest ++ x ∷ []) h o' ∙
                sym (append-nil gs)
                ∙ sym (ap (λ b. gs ++ cond b ((rest ++ x ∷ []) ∷ []) []) not_closed),
            ap (open_groups test least) e ∙ open_parts test least gs (rest ++ x ∷ []) h o'
                ∙ sym (ap (λ b. cond b [] (as_group (rest ++ x ∷ []))) not_closed),
          )

  flat_cond : (b : Bool) (g : List A) → flat (cond b [] (as_group g)) ≡ cond b [] g
  flat_cond true g = refl
  flat_cond false g = flat_as_group g

  split_parts_step : (gs : List (List A)) (rest : List A) (x : A) → AllEnd test least 0 gs →
      Open test least 0 rest → SplitStep test least (flat gs ++ rest) x
  unfolding Step
  split_parts_step gs rest x h o =
      let s = step_parts gs rest x h o in
      let mine : open_entries test least (flat gs ++ rest) ≡ rest =
      ap flat (open_parts test least gs rest h o) ∙ flat_as_group rest in
      let closed : closed_groups test least (flat gs ++ rest) ≡ gs =
      closed_parts test least gs rest h o in (
        s.0 ∙ sym (ap (λ r. closed_groups test least (flat gs ++ rest) ++
            cond (is_closed test least (r ++ x ∷ [])) ((r ++ x ∷ []) ∷ []) []) mine
            ∙ ap (λ g. g ++ cond (is_closed test least (rest ++ x ∷ [])) ((rest ++ x ∷ []) ∷ []) [])
            closed),
        ap flat s.1 ∙ flat_cond (is_closed test least (rest ++ x ∷ [])) (rest ++ x ∷ [])
            ∙ sym (ap (λ r. cond (is_closed test least (r ++ x ∷ [])) [] (r ++ x ∷ [])) mine),
      )

  pub closed_step : (gs : List (List A)) (rest : List A) (x : A) → AllEnd test least 0 gs →
      Open test least 0 rest →
      closed_groups test least ((flat gs ++ rest) ++ x ∷ []) ≡ gs ++
      cond (is_closed test least (rest ++ x ∷ [])) ((rest ++ x ∷ []) ∷ []) []
  unfolding Step
  closed_step gs rest x h o = (step_parts gs rest x h o).0

  pub split_step : (list : List A) (x : A) → SplitStep test least list x
  split_step list x =
      let p = parts test least list in
      subst (λ xs. SplitStep test least xs x) p.whole
      (split_parts_step p.groups p.rest x p.ends (open_rest_of test least list p))

-- ---- a stage

module _ (level : ℕ) (event_of : List Chunk → Chunk) where
  put_append : (gs : List (List Chunk)) (a b : List Chunk) → length (flat gs) ≤ count level a →
      with_group_events level event_of gs (a ++ b) ≡ with_group_events level event_of gs a ++ b
  put_append [] a b h = refl
  put_append (g ∷ gs) a b h =
      let size : length (flat (g ∷ gs)) ≡ length g + length (flat gs) = length-append g (flat gs) in
      let w = within level (length g) a b (omega arith) in
      let left' : count level (events_beyond level (length g) a) + length g ≡ count level a =
      w.left in
      ap (λ x. x ++ event_of g ∷ with_group_events level event_of gs
      (events_beyond level (length g) (a ++ b))) w.front
      ∙ ap (λ x. events_through level (length g) a ++ event_of g ∷ with_group_events level event_of
      gs x) w.back
      ∙ ap (λ x. events_through level (length g) a ++ event_of g ∷ x)
      (put_append gs (events_beyond level (length g) a) b (omega arith))
      ∙ sym (append_assoc (events_through level (length g) a)
      (event_of g ∷ with_group_events level event_of gs (events_beyond level (length g) a)) b)

  count_append : (a b : List Chunk) → count level (a ++ b) ≡ count level a + count level b
  count_append a b = ap length (filter-append (has_level level) a b) ∙
      length-append (filter (has_level level) a) (filter (has_level level) b)

  -- up to the last entry, which is the last event
  through_last : (n : ℕ) (a : List Chunk) (e : Chunk) → has_level level e ≡ true →
      count level a + 1 ≡ n → events_through level n (a ++ e ∷ []) ≡ a ++ e ∷ []
  through_last zero a e has h = absurd (omega arith)
  through_last (suc n) [] e has h = let z : n ≡ 0 = (let h' : 0 + 1 ≡ suc n = h in omega arith) in
      through_true level n e [] has ∙ ap (λ k. e ∷ events_through level k []) z
  through_last (suc n) (x ∷ a) e has h = go (has_level level x) refl (λ k. through_last n a e has k)
      (λ k. through_last (suc n) a e has k)
    where
      go : (t : Bool) → has_level level x ≡ t →
          (count level a + 1 ≡ n → events_through level n (a ++ e ∷ []) ≡ a ++ e ∷ []) →
          (count level a + 1 ≡ suc n → events_through level (suc n) (a ++ e ∷ []) ≡ a ++ e ∷ []) →
          events_through level (suc n) (x ∷ (a ++ e ∷ [])) ≡ x ∷ (a ++ e ∷ [])
      go true t k l = let c : count level (x ∷ a) ≡ suc (count level a) = count_true level x a t in
          through_true level n x (a ++ e ∷ []) t ∙ ap (λ y. x ∷ y) (k (omega arith))
      go false t k l = let c : count level (x ∷ a) ≡ count level a = count_false level x a t in
          through_false level n x (a ++ e ∷ []) t ∙ ap (λ y. x ∷ y) (l (omega arith))

  beyond_last : (n : ℕ) (a : List Chunk) (e : Chunk) → has_level level e ≡ true →
      count level a + 1 ≡ n → events_beyond level n (a ++ e ∷ []) ≡ []
  beyond_last zero a e has h = absurd (omega arith)
  beyond_last (suc n) [] e has h = let z : n ≡ 0 = (let h' : 0 + 1 ≡ suc n = h in omega arith) in
      beyond_true level n e [] has ∙ ap (λ k. events_beyond level k []) z
  beyond_last (suc n) (x ∷ a) e has h = go (has_level level x) refl (λ k. beyond_last n a e has k)
      (λ k. beyond_last (suc n) a e has k)
    where
      go : (t : Bool) → has_level level x ≡ t →
          (count level a + 1 ≡ n → events_beyond level n (a ++ e ∷ []) ≡ []) →
          (count level a + 1 ≡ suc n → events_beyond level (suc n) (a ++ e ∷ []) ≡ []) →
          events_beyond level (suc n) (x ∷ (a ++ e ∷ [])) ≡ []
      go true t k l = let c : count level (x ∷ a) ≡ suc (count level a) = count_true level x a t in
          beyond_true level n x (a ++ e ∷ []) t ∙ k (omega arith)
      go false t k l = let c : count level (x ∷ a) ≡ count level a = count_false level x a t in
          beyond_false level n x (a ++ e ∷ []) t ∙ l (omega arith)

  -- all events, and the event of a last group behind them
  put_last : (gs : List (List Chunk)) (h : List Chunk) (a : List Chunk) (e : Chunk) →
      has_level level e ≡ true → count level a + 1 ≡ length (flat gs) + length h → 0 < length h →
      with_group_events level event_of (gs ++ h ∷ []) (a ++ e ∷ []) ≡ with_group_events level
      event_of gs a ++ e ∷ event_of h ∷ []
  put_last [] h a e has n some =
      let n' : count level a + 1 ≡ length h =
      (let n0 : count level a + 1 ≡ 0 + length h = n in omega arith) in
      ap (λ x. x ++ event_of h ∷ events_beyond level (length h) (a ++ e ∷ []))
      (through_last (length h) a e has n')
      ∙ ap (λ x. (a ++ e ∷ []) ++ event_of h ∷ x) (beyond_last (length h) a e has n')
      ∙ append_assoc a (e ∷ []) (event_of h ∷ [])
  put_last (g ∷ gs) h a e has n some =
      let size : length (flat (g ∷ gs)) ≡ length g + length (flat gs) = length-append g (flat gs) in
      let w = within level (length g) a (e ∷ []) (omega arith) in
      let left' : count level (events_beyond level (length g) a) + length g ≡ count level a =
      w.left in
      ap (λ x. x ++ event_of g ∷ with_group_events level event_of (gs ++ h ∷ [])
      (events_beyond level (length g) (a ++ e ∷ []))) w.front
      ∙ ap (λ x. events_through level (length g) a ++ event_of g ∷ with_group_events level event_of
      (gs ++ h ∷ []) x) w.back
      ∙ ap (λ x. events_through level (length g) a ++ event_of g ∷ x)
      (put_last gs h (events_beyond level (length g) a) e has (omega arith) some)
      ∙ sym (append_assoc (events_through level (length g) a)
      (event_of g ∷ with_group_events level event_of gs (events_beyond level (length g) a))
      (e ∷ event_of h ∷ []))

  module _ (ends : Chunk → Bool) where
    stage_of_groups : (events : List Chunk) (gs : List (List Chunk)) →
        closed_groups ends 2 (filter (has_level level) events) ≡ gs →
        stage_events ends event_of level faulty events ≡ with_group_events level event_of gs events
    stage_of_groups events gs h = append-nil (with_group_events level event_of
        (closed_groups ends 2 (filter (has_level level) events)) events)
        ∙ ap (λ g. with_group_events level event_of g events) h

    stage_parts_step : (events : List Chunk) (e : Chunk) (gs : List (List Chunk))
        (rest : List Chunk) → flat gs ++ rest ≡ filter (has_level level) events →
        AllEnd ends 2 0 gs → Open ends 2 0 rest → (b : Bool) → has_level level e ≡ b →
        stage_events ends event_of level faulty (events ++ e ∷ [])
        ≡ stage_events ends event_of level faulty events ++
        e ∷ cond (b && is_closed ends 2 (rest ++ e ∷ [])) (event_of (rest ++ e ∷ []) ∷ []) []
    stage_parts_step events e gs rest whole h o false has =
        let same : filter (has_level level) (events ++ e ∷ []) ≡ filter (has_level level) events =
        filter-append (has_level level) events (e ∷ []) ∙
        ap (λ a. filter (has_level level) events ++ cond a (e ∷ []) []) has ∙
        append-nil (filter (has_level level) events) in
        let closed : closed_groups ends 2 (filter (has_level level) events) ≡ gs =
        ap (closed_groups ends 2) (sym whole) ∙ closed_parts ends 2 gs rest h o in
        let enough : length (flat gs) ≤ count level events =
        (let n : count level events ≡ length (flat gs) + length rest = ap length (sym whole) ∙
        length-append (flat gs) rest in omega arith) in
        stage_of_groups (events ++ e ∷ []) gs (ap (closed_groups ends 2) same ∙ closed)
        ∙ put_append gs events (e ∷ []) enough ∙
        ap (λ x. x ++ e ∷ []) (sym (stage_of_groups events gs closed))
    stage_parts_step events e gs rest whole h o true has =
        let more : filter (has_level level) (events ++ e ∷ []) ≡ (flat gs ++ rest) ++ e ∷ [] =
        filter-append (has_level level) events (e ∷ []) ∙
        ap (λ a. filter (has_level level) events ++ cond a (e ∷ []) []) has ∙
        ap (λ x. x ++ e ∷ []) (sym whole) in
        let closed : closed_groups ends 2 (filter (has_level level) events) ≡ gs =
        ap (closed_groups ends 2) (sym whole) ∙ closed_parts ends 2 gs rest h o in
        let n : count level events ≡ length (flat gs) + length rest = ap length (sym whole) ∙
        length-append (flat gs) rest in
        let m : length (rest ++ e ∷ []) ≡ length rest + 1 = length-append rest (e ∷ []) in
        let s : closed_groups ends 2 ((flat gs ++ rest) ++ e ∷ []) ≡ gs ++
        cond (is_closed ends 2 (rest ++ e ∷ [])) ((rest ++ e ∷ []) ∷ []) [] =
        closed_step ends 2 gs rest e h o in
        go (is_closed ends 2 (rest ++ e ∷ [])) refl (ap (closed_groups ends 2) more ∙ s) closed n m
      where
        go : (c : Bool) → is_closed ends 2 (rest ++ e ∷ []) ≡ c →
            closed_groups ends 2 (filter (has_level level) (events ++ e ∷ [])) ≡ gs ++
            cond (is_closed ends 2 (rest ++ e ∷ [])) ((rest ++ e ∷ []) ∷ []) [] →
            closed_groups ends 2 (filter (has_level level) events) ≡ gs →
            count level events ≡ length (flat gs) + length rest →
            length (rest ++ e ∷ []) ≡ length rest + 1 →
            stage_events ends event_of level faulty (events ++ e ∷ [])
            ≡ stage_events ends event_of level faulty events ++
            e ∷ cond (is_closed ends 2 (rest ++ e ∷ [])) (event_of (rest ++ e ∷ []) ∷ []) []
        go true c all closed n m =
            stage_of_groups (events ++ e ∷ []) (gs ++ (rest ++ e ∷ []) ∷ [])
            (all ∙ ap (λ b. gs ++ cond b ((rest ++ e ∷ []) ∷ []) []) c)
            ∙ put_last gs (rest ++ e ∷ []) events e has (omega arith) (omega arith)
            ∙ ap (λ x. x ++ e ∷ event_of (rest ++ e ∷ []) ∷ [])
            (sym (stage_of_groups events gs closed))
            ∙ sym (ap (λ b. stage_events ends event_of level faulty events ++
            e ∷ cond b (event_of (rest ++ e ∷ []) ∷ []) []) c)
        go false c all closed n m =
            stage_of_groups (events ++ e ∷ []) gs
            (all ∙ ap (λ b. gs ++ cond b ((rest ++ e ∷ []) ∷ []) []) c ∙ append-nil gs)
            ∙ put_append gs events (e ∷ []) (omega arith)
            ∙ ap (λ x. x ++ e ∷ []) (sym (stage_of_groups events gs closed))
            ∙ sym (ap (λ b. stage_events ends event_of level faulty events ++
            e ∷ cond b (event_of (rest ++ e ∷ []) ∷ []) []) c)

    pub stage_step : (events : List Chunk) (e : Chunk) → StageStep ends event_of level events e
    stage_step events e =
        let p = parts ends 2 (filter (has_level level) events) in
        let o : Open ends 2 0 p.rest = open_rest_of ends 2 (filter (has_level level) events) p in
        let mine : open_entries ends 2 (filter (has_level level) events) ≡ p.rest =
        ap (open_entries ends 2) (sym p.whole) ∙
        ap flat (open_parts ends 2 p.groups p.rest p.ends o) ∙ flat_as_group p.rest in (
          stage_parts_step events e p.groups p.rest p.whole p.ends o (has_level level e) refl
              ∙ sym (ap (λ r. stage_events ends event_of level faulty events ++
              e ∷ cond (has_level level e && is_closed ends 2 (r ++ e ∷ []))
              (event_of (r ++ e ∷ []) ∷ []) []) mine),
          ap (λ x. x ++ events_at_end clean event_of (length (filter (has_level level) events))
              (open_groups ends 2 (filter (has_level level) events)))
              (sym (append-nil (with_group_events level event_of
              (closed_groups ends 2 (filter (has_level level) events)) events))),
        )
