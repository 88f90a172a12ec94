-- That one fault is the first for a walk.
use Rattle.std.proofs.Common.{◌≡◌, ◌∙◌, ℕ, inl, inr, List, [], ◌∷◌, ◌++◌, sym, ap, subst}
use Rattle.prolly_look_up.specs.lemmas.Chosen.{one_same}
use Rattle.prolly_entry.specs.declared.version.Version.{Version}
use Rattle.prolly_entry.specs.lemmas.Lists.{head_is, no_cons, tail_is}
use Rattle.prolly_entry.specs.lemmas.Overlays.{some_none}
use Rattle.prolly_root.specs.ChunkFile.{ChunkFile, nth_in}
use Rattle.prolly_root.specs.LookUpFault.{IsFaultOfChunk}
use Rattle.prolly_root.specs.declared.root_fault.RootFault.{RootFault}
use Rattle.prolly_root.specs.lemmas.Flaws.{no_fault_of, one_fault_of}
use Rattle.prolly_root.specs.lemmas.Levels.{behind_one, nth_one}
use Rattle.prolly_root_diff.specs.FirstFault.{DueAt, IsFaultAt, IsMissing, LeafFaultsAreOne}
use Rattle.prolly_root_diff.specs.FirstFault.{ReadsAt, ReadsEach, Spot, IsAtSpot, StopsWith}
use Rattle.prolly_root_diff.specs.FirstFault.{due_under, level_over}

module _ (version : Version) (file : ChunkFile) where
  -- ---- one chunk stands there

  one_there : (spot : Spot) (n from m below : ℕ) → IsAtSpot version file spot n from →
      IsAtSpot version file spot m below → (n ≡ m) × (from ≡ below)
  one_there Spot.Root n from m below s t = (s.1 ∙ sym t.1, s.2 ∙ sym t.2)
  one_there (Spot.Child level first number) n from m below s t = (
    nth_one file _ number first n m s.0 t.0,
    behind_one file _ number first from below s.1 t.1,
  )

  none_missing : (spot : Spot) (n from : ℕ) (fault : RootFault) →
      IsAtSpot version file spot n from → IsMissing version file spot fault → ⊥
  none_missing Spot.Root n from fault s missing = some_none fault (sym missing ∙ s.0)
  none_missing (Spot.Child level first number) n from fault s missing = missing.0 n s.0

  one_missing : (spot : Spot) (fault other : RootFault) → IsMissing version file spot fault →
      IsMissing version file spot other → fault ≡ other
  one_missing Spot.Root fault other f g = one_same fault other (sym f ∙ g)
  one_missing (Spot.Child level first number) fault other f g = f.1 ∙ sym g.1

  -- ---- one fault, or one step

  one_fault_at : (due : DueAt) (fault other : RootFault) → IsFaultAt version file due fault →
      IsFaultAt version file due other → fault ≡ other
  one_fault_at due fault other (inl f) (inl g) = one_missing due.spot fault other f g
  one_fault_at due fault other (inl f) (inr g) =
      absurd (none_missing due.spot g.0 g.1 fault g.2 f)
  one_fault_at due fault other (inr f) (inl g) =
      absurd (none_missing due.spot f.0 f.1 other f.2 g)
  one_fault_at due fault other (inr f) (inr g) =
      one_fault_of _ (subst (λ n. IsFaultOfChunk version due.reference (level_over due.spot)
      (nth_in file n) n fault) (one_there due.spot f.0 f.1 g.0 g.1 f.2 g.2).0 f.3) g.3

  pub one_stop : (due : List DueAt) (fault other : RootFault) → StopsWith version file due fault →
      StopsWith version file due other → fault ≡ other
  one_stop due fault other s t = one_fault_at t.first fault other
      (subst (λ d. IsFaultAt version file d fault) (head_is _ _ _ _ (sym s.was ∙ t.was)) s.why) t.why

  pub no_read : (chunk : List ℕ) (due next : List DueAt) (fault : RootFault) →
      StopsWith version file due fault → ReadsAt version file chunk due next → ⊥
  no_read chunk due next fault s r =
      none (subst (λ d. IsFaultAt version file d fault) (head_is _ _ _ _ (sym s.was ∙ r.was)) s.why)
    where
      none : IsFaultAt version file r.first fault → ⊥
      none (inl missing) = none_missing r.first.spot r.number r.from fault r.stands missing
      none (inr f) =
          let same : nth_in file f.0 ≡ chunk = ap (nth_in file)
          (one_there r.first.spot f.0 f.1 r.number r.from f.2 r.stands).0 ∙ sym r.chunk_is in
          no_fault_of _ r.named r.falls (subst (λ c. IsFaultOfChunk version r.first.reference
          (level_over r.first.spot) c f.0 fault) same f.3)

  pub one_read : (chunk other : List ℕ) (due next next' : List DueAt) →
      ReadsAt version file chunk due next → ReadsAt version file other due next' →
      (chunk ≡ other) × (next ≡ next')
  one_read chunk other due next next' r s =
      let there = one_there s.first.spot r.number r.from s.number s.from
      (subst (λ d. IsAtSpot version file d.spot r.number r.from)
      (head_is _ _ _ _ (sym r.was ∙ s.was)) r.stands) s.stands in
      let chunks : chunk ≡ other = r.chunk_is ∙ ap (nth_in file) there.0 ∙ sym s.chunk_is in (
        chunks,
        r.is ∙ ap (λ c. due_under version c r.from ++ r.others) chunks ∙
            ap (λ f. due_under version other f ++ r.others) there.1 ∙
            ap (λ os. due_under version other s.from ++ os) (tail_is _ _ _ _ (sym r.was ∙ s.was)) ∙
            sym s.is,
      )

  -- ---- a walk over the leaves

  one_leaf_fault : (read other : List (List ℕ)) (old due due' : List DueAt)
      (fault fault' : RootFault) → ReadsEach version file read old due →
      ReadsEach version file other old due' →
      StopsWith version file due fault → StopsWith version file due' fault' → fault ≡ fault'
  one_leaf_fault [] [] old due due' fault fault' c d s t = one_stop due' fault fault'
      (subst (λ x. StopsWith version file x fault) (sym c ∙ d) s) t
  one_leaf_fault [] (chunk ∷ other) old due due' fault fault' c d s t =
      absurd (no_read chunk old d.0 fault (subst (λ x. StopsWith version file x fault) (sym c) s) d.1)
  one_leaf_fault (chunk ∷ read) [] old due due' fault fault' c d s t =
      absurd (no_read chunk old c.0 fault' (subst (λ x. StopsWith version file x fault') (sym d) t)
      c.1)
  one_leaf_fault (chunk ∷ read) (chunk' ∷ other) old due due' fault fault' c d s t =
      let same = one_read chunk chunk' old c.0 d.0 c.1 d.1 in
      one_leaf_fault read other d.0 due due' fault fault'
      (subst (λ x. ReadsEach version file read x due) same.1 c.2) d.2 s t

  -- where nothing is due the walk neither goes on nor stops
  no_leaf_fault : (read other : List (List ℕ)) (old due : List DueAt) (fault : RootFault) →
      ReadsEach version file read old [] → ReadsEach version file other old due →
      StopsWith version file due fault → ⊥
  no_leaf_fault [] [] old due fault c d s = no_cons _ _ (sym s.was ∙ sym d ∙ c)
  no_leaf_fault [] (chunk ∷ other) old due fault c d s = no_cons _ _ (sym d.1.was ∙ c)
  no_leaf_fault (chunk ∷ read) [] old due fault c d s =
      no_read chunk old c.0 fault (subst (λ x. StopsWith version file x fault) (sym d) s) c.1
  no_leaf_fault (chunk ∷ read) (chunk' ∷ other) old due fault c d s =
      let same = one_read chunk chunk' old c.0 d.0 c.1 d.1 in
      no_leaf_fault read other d.0 due fault
      (subst (λ x. ReadsEach version file read x []) same.1 c.2) d.2 s

pub leaf_faults_are_one : LeafFaultsAreOne
leaf_faults_are_one = record {
  one = λ version file root fault other f g. one_leaf_fault version file f.on.read g.on.read _ f.last
      g.last fault other f.on.comes g.on.comes f.stops g.stops;
  none = λ version file root fault has f. no_leaf_fault version file has.read f.on.read _ f.last
      fault has.comes f.on.comes f.stops;
}
