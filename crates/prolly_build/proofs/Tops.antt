-- What the writer of a pipeline writes of one event more.
use Rattle.std.proofs.Common.{◌≡◌, ℕ, suc, ◌+◌, ◌≤◌, Bool, true, false, List, [], ◌∷◌, ◌++◌, length}
use Rattle.std.proofs.Common.{refl, sym, ap, ◌∙◌, arith, length-append, append_assoc}
use Rattle.std.specs.List.{filter, flat_map}
use Rattle.std.proofs.lemmas.List.Elements.{filter-append}
use Rattle.std.proofs.lemmas.List.Concat.{flat_map-append}
use Rattle.std.proofs.lemmas.List.{append-nil}
use Rattle.prolly_tree.specs.Chunk.{Chunk}
use Rattle.prolly_tree.specs.File.{frame}
use Rattle.prolly_tree.specs.Events.{has_level}
use Rattle.prolly_tree.specs.Pipeline.{before_first, before_second}
use Rattle.prolly_entry.specs.Prefix.{IsPrefix}
use Rattle.prolly_tree.specs.lemmas.Stages.{count, count_true, count_false}
use Rattle.prolly_build.specs.WriterState.{frames_of}

module _ (level : ℕ) where
  pub one_more : (es : List Chunk) (e : Chunk) → count level (es ++ e ∷ []) ≡ count level es +
      count level (e ∷ [])
  one_more es e = ap length (filter-append (has_level level) es (e ∷ [])) ∙
      length-append (filter (has_level level) es) (filter (has_level level) (e ∷ []))

  -- ---- events of which none, or one, has the level

  first_all : (es : List Chunk) → count level es ≡ 0 → before_first level es ≡ es
  first_all [] h = refl
  first_all (e ∷ es) h = go (has_level level e) refl (first_all es)
    where
      go : (t : Bool) → has_level level e ≡ t → (count level es ≡ 0 → before_first level es ≡ es) →
          before_first level (e ∷ es) ≡ e ∷ es
      go true t ih = let c : count level (e ∷ es) ≡ suc (count level es) =
          count_true level e es t in absurd (omega arith)
      go false t ih = let c : count level (e ∷ es) ≡ count level es = count_false level e es t in
          rw t (ap (λ z. e ∷ z) (ih (sym c ∙ h)))

  pub second_all : (es : List Chunk) → count level es ≤ 1 → before_second level es ≡ es
  second_all [] h = refl
  second_all (e ∷ es) h = go (has_level level e) refl (second_all es)
    where
      go : (t : Bool) → has_level level e ≡ t → (count level es ≤ 1 → before_second level es ≡ es) →
          before_second level (e ∷ es) ≡ e ∷ es
      go true t ih =
          let c : count level (e ∷ es) ≡ suc (count level es) = count_true level e es t in
          rw t (ap (λ z. e ∷ z) (first_all es (omega arith)))
      go false t ih =
          let c : count level (e ∷ es) ≡ count level es = count_false level e es t in
          rw t (ap (λ z. e ∷ z) (ih (omega arith)))

  -- ---- the first event of the level, or the second, comes last

  first_last : (es : List Chunk) (e : Chunk) → count level es ≡ 0 → has_level level e ≡ true →
      before_first level (es ++ e ∷ []) ≡ es
  first_last [] e h t = rw t refl
  first_last (d ∷ es) e h t = go (has_level level d) refl (λ k. first_last es e k t)
    where
      go : (s : Bool) → has_level level d ≡ s →
          (count level es ≡ 0 → before_first level (es ++ e ∷ []) ≡ es) →
          before_first level (d ∷ (es ++ e ∷ [])) ≡ d ∷ es
      go true s ih = let c : count level (d ∷ es) ≡ suc (count level es) =
          count_true level d es s in absurd (omega arith)
      go false s ih = let c : count level (d ∷ es) ≡ count level es = count_false level d es s in
          rw s (ap (λ z. d ∷ z) (ih (sym c ∙ h)))

  pub second_last : (es : List Chunk) (e : Chunk) → count level es ≡ 1 → has_level level e ≡ true →
      before_second level (es ++ e ∷ []) ≡ es
  second_last [] e h t = absurd (omega arith)
  second_last (d ∷ es) e h t = go (has_level level d) refl (λ k. second_last es e k t)
    where
      go : (s : Bool) → has_level level d ≡ s →
          (count level es ≡ 1 → before_second level (es ++ e ∷ []) ≡ es) →
          before_second level (d ∷ (es ++ e ∷ [])) ≡ d ∷ es
      go true s ih =
          let c : count level (d ∷ es) ≡ suc (count level es) = count_true level d es s in
          rw s (ap (λ z. d ∷ z) (first_last es e (omega arith) t))
      go false s ih = let c : count level (d ∷ es) ≡ count level es = count_false level d es s in
          rw s (ap (λ z. d ∷ z) (ih (sym c ∙ h)))

  -- ---- what comes behind the second one changes nothing

  first_stays : (es more : List Chunk) → 1 ≤ count level es →
      before_first level (es ++ more) ≡ before_first level es
  first_stays [] more h = absurd (omega arith)
  first_stays (d ∷ es) more h = go (has_level level d) refl (first_stays es more)
    where
      go : (s : Bool) → has_level level d ≡ s →
          (1 ≤ count level es → before_first level (es ++ more) ≡ before_first level es) →
          before_first level (d ∷ (es ++ more)) ≡ before_first level (d ∷ es)
      go true s ih = rw s refl
      go false s ih = let c : count level (d ∷ es) ≡ count level es = count_false level d es s in
          rw s (ap (λ z. d ∷ z) (ih (omega arith)))

  pub second_stays : (es more : List Chunk) → 2 ≤ count level es →
      before_second level (es ++ more) ≡ before_second level es
  second_stays [] more h = absurd (omega arith)
  second_stays (d ∷ es) more h = go (has_level level d) refl (second_stays es more)
    where
      go : (s : Bool) → has_level level d ≡ s →
          (2 ≤ count level es → before_second level (es ++ more) ≡ before_second level es) →
          before_second level (d ∷ (es ++ more)) ≡ before_second level (d ∷ es)
      go true s ih =
          let c : count level (d ∷ es) ≡ suc (count level es) = count_true level d es s in
          rw s (ap (λ z. d ∷ z) (first_stays es more (omega arith)))
      go false s ih = let c : count level (d ∷ es) ≡ count level es = count_false level d es s in
          rw s (ap (λ z. d ∷ z) (ih (omega arith)))

-- ---- frames

-- the frames of a prefix are a prefix of the frames
pub frames_front : (head : List ℕ) (a b : List Chunk) → IsPrefix a b →
    IsPrefix (frames_of head a) (frames_of head b)
frames_front head a b h = (
  flat_map frame h.0,
  ap (λ cs. frames_of head cs) h.1 ∙
      (ap (λ (z : List ℕ). head ++ z) (flat_map-append frame a h.0) ∙
      sym (append_assoc head (flat_map frame a) (flat_map frame h.0))),
)

-- one frame more
pub frames_more : (head : List ℕ) (es : List Chunk) (e : Chunk) →
    frames_of head (es ++ e ∷ []) ≡ frames_of head es ++ frame e
frames_more head es e =
    ap (λ (z : List ℕ). head ++ z) (flat_map-append frame es (e ∷ [])) ∙
    (ap (λ (z : List ℕ). head ++ (flat_map frame es ++ z)) (append-nil (frame e)) ∙
    sym (append_assoc head (flat_map frame es) (frame e)))
