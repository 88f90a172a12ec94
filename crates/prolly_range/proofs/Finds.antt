-- Where the chunks that are due stand in a chunk file of any bytes.
use Rattle.std.proofs.Common.{◌≡◌, ◌∙◌, ◌-◌, ◌<◌, ℕ, zero, suc, List, [], ◌∷◌, ◌++◌, drop, map}
use Rattle.std.proofs.Common.{Some, Ok, Err, inl, inr, ◌⊎◌, refl, sym, ap, subst, arith}
use Rattle.std.proofs.Common.{append_assoc, append-nil}
use Rattle.std.proofs.lemmas.Simd.{map-map}
use Rattle.prolly_look_up.specs.Entries.{children_in}
use Rattle.prolly_look_up.specs.Kinds.{kind_of}
use Rattle.prolly_look_up.specs.Way.{FallsTo, IsNamed, level_of}
use Rattle.prolly_entry.specs.declared.version.Version.{Version}
use Rattle.prolly_root.specs.ChunkFile.{ChunkFile, nth_in}
use Rattle.prolly_root.specs.ChunkSource.{FindsChild}
use Rattle.prolly_root.specs.Path.{IsPath}
use Rattle.prolly_root.specs.LookUpFault.{IsFaultOfChunk}
use Rattle.prolly_root.specs.RootFault.{MayFail}
use Rattle.prolly_root.specs.declared.root_fault.RootFault.{RootFault}
use Rattle.prolly_root.specs.lemmas.Paths.{path_more}
use Rattle.prolly_root.specs.Subtree.{HasNoNth}
use Rattle.prolly_root.specs.Walk.{IsBehind, IsNth}
use Rattle.prolly_range.specs.Children.{SeenMet, seen_met}
use Rattle.prolly_range.specs.KeySet.{KeySet, met_in, set_of}
use Rattle.prolly_range.specs.Prover.{located_due}
use Rattle.prolly_range.specs.FirstFault.{AreChildren, DueAt, EndsBehind, GoesOn, IsDue, LacksOne}
use Rattle.prolly_range.specs.FirstFault.{StopsBehind, StopsWith, chunk_at, numbers_met}
use Rattle.prolly_range.specs.SetProof.{due_below}
use Rattle.prolly_range.specs.Places.{AreFound, MayLack, EachStandsAs, StandsAs}
use Rattle.prolly_range.specs.declared.located.Located.{Located}

-- the numbers of the children of a node that are met
pub numbers_node : (version : Version) (set : KeySet) (chunk : List ℕ) (met : List SeenMet) →
    0 < level_of chunk →
    met ≡ map seen_met (met_in (λ c. c.key) 0 (Some set) (children_in version (drop 1 chunk))) →
    map (λ m. m.number) met ≡ numbers_met set (kind_of version chunk)
numbers_node version set [] met high e = absurd (omega (arith, high))
numbers_node version set (zero ∷ entries) met high e = absurd (omega (arith, high))
numbers_node version set (suc level ∷ entries) met high e =
    ap (map (λ m. m.number)) e ∙ map-map (λ m. m.number) seen_met
    (met_in (λ c. c.key) 0 (Some set) (children_in version entries))

-- ---- one child behind the others

pub one_more_child : (file : ChunkFile) (level from : ℕ) (numbers : List ℕ) (children : List DueAt)
    (number : ℕ) (child : DueAt) → AreChildren file level from numbers children →
    IsNth file level from number child.number → IsBehind file level from number child.from →
    AreChildren file level from (numbers ++ number ∷ []) (children ++ child ∷ [])
one_more_child file level from [] [] number child are nth behind = (nth, behind, tt)
one_more_child file level from [] (c ∷ cs) number child are nth behind = absurd are
one_more_child file level from (n ∷ ns) [] number child are nth behind = absurd are
one_more_child file level from (n ∷ ns) (c ∷ cs) number child are nth behind =
    (are.0, are.1, one_more_child file level from ns cs number child are.2 nth behind)

pub one_lacks : (file : ChunkFile) (level from : ℕ) (numbers : List ℕ) (number : ℕ)
    (others : List ℕ) → HasNoNth file level from number →
    LacksOne file level from (numbers ++ number ∷ others)
one_lacks file level from [] number others none = inl none
one_lacks file level from (n ∷ ns) number others none =
    inr (one_lacks file level from ns number others none)

module _ {T : Type 0} (stands : ChunkFile → T → ℕ → ℕ → Type 0) (file : ChunkFile) where
  -- those of two lists, one behind the other
  pub stand_both : (located more : List (Located T)) (at behind : List DueAt) →
      EachStandsAs stands file located at → EachStandsAs stands file more behind →
      EachStandsAs stands file (located ++ more) (at ++ behind)
  stand_both [] more [] behind h k = k
  stand_both [] more (a ∷ at) behind h k = absurd h
  stand_both (l ∷ located) more [] behind h k = absurd h
  stand_both (l ∷ located) more (a ∷ at) behind h k =
      (h.0, stand_both located more at behind h.1 k)

  -- what stands there is what is due
  pub same_dues : (located : List (Located T)) (at : List DueAt) →
      EachStandsAs stands file located at → map (λ d. d.due) at ≡ map located_due located
  same_dues [] [] h = refl
  same_dues [] (a ∷ at) h = absurd h
  same_dues (l ∷ located) [] h = absurd h
  same_dues (l ∷ located) (a ∷ at) h =
      ap (λ d. d ∷ map (λ d. d.due) at) (sym h.0.0) ∙
      ap (λ ds. located_due l ∷ ds) (same_dues located at h.1)

  -- the first that is due, and the others
  pub record First (first : Located T) (others : List (Located T)) (at : List DueAt) : Type 0 where
    pub there : DueAt
    pub left : List DueAt
    pub are : at ≡ there ∷ left
    pub stands_there : StandsAs stands file first there
    pub others_stand : EachStandsAs stands file others left

  pub first_there : (first : Located T) (others : List (Located T)) (at : List DueAt) →
      EachStandsAs stands file (first ∷ others) at → First first others at
  first_there first others [] h = absurd h
  first_there first others (a ∷ at) h = record {
    there = a;
    left = at;
    are = refl;
    stands_there = h.0;
    others_stand = h.1;
  }

  pub none_there : (at : List DueAt) → EachStandsAs stands file [] at → at ≡ []
  none_there [] h = refl
  none_there (a ∷ at) h = absurd h

  -- ---- finding the children of a node, one after another

  -- those of the first numbers were found
  pub record Finding (level from : ℕ) (found : List (Located T)) (all left : List ℕ) : Type 0 where
    pub passed : List ℕ
    pub children : List DueAt
    pub are : AreChildren file level from passed children
    pub stand : EachStandsAs stands file found children
    pub all_are : all ≡ passed ++ left

  pub none_found : (level from : ℕ) (all : List ℕ) → Finding level from [] all all
  none_found level from all =
      record { passed = []; children = []; are = tt; stand = tt; all_are = refl }

  module _ {level from number : ℕ} {found : List (Located T)} {all others : List ℕ}
      (f : Finding level from found all (number ∷ others)) where
    pub one_found : (located : Located T) →
        FindsChild stands file level from number (Ok located.place) →
        (now : List (Located T)) → now ≡ found ++ located ∷ [] → Finding level from now all others
    one_found located is now more =
        let child : DueAt =
        record { due = located_due located; number = is.0; from = is.1 } in record {
          passed = f.passed ++ number ∷ [];
          children = f.children ++ child ∷ [];
          are = one_more_child file level from f.passed f.children number child f.are is.3 is.4;
          stand = subst (λ ls. EachStandsAs stands file ls (f.children ++ child ∷ [])) (sym more)
              (stand_both found (located ∷ []) f.children (child ∷ []) f.stand ((refl, is.2), tt));
          all_are = f.all_are ∙ sym (append_assoc f.passed (number ∷ []) others);
        }

    pub may_lack : (fault : RootFault) → FindsChild stands file level from number (Err fault) →
        MayLack file level from all fault
    may_lack fault (inl only) = inl (inr only)
    may_lack fault (inr none) = inr (
      subst (LacksOne file level from) (sym f.all_are)
          (one_lacks file level from f.passed number others none.1),
      none.0,
    )

  pub all_found : {level from : ℕ} {found : List (Located T)} {all left : List ℕ} →
      Finding level from found all left → left ≡ [] → AreFound stands file level from all found
  all_found {level = level} {from = from} f none = (
    f.children,
    subst (λ ns. AreChildren file level from ns f.children)
        (sym (f.all_are ∙ ap (λ ns. f.passed ++ ns) none ∙ append-nil f.passed)) f.are,
    f.stand,
  )

  -- ---- one chunk after another

  module _ (version : Version) {at : List DueAt} where
    -- the chunk that stands there is not the right one
    pub chunk_stops : {first : Located T} {others : List (Located T)} (f : First first others at)
        {fault : RootFault} → MayFail fault ⊎
        IsFaultOfChunk version first.due.reference.0 first.due.above (nth_in file f.there.number)
        f.there.number fault → MayFail fault ⊎ StopsWith version file at fault
    chunk_stops f (inl may) = inl may
    chunk_stops f {fault = fault} (inr flaw) = inr (record {
      first = f.there;
      others = f.left;
      was = f.are;
      why = inl (subst (λ d. IsFaultOfChunk version d.reference d.above
          (nth_in file f.there.number) f.there.number fault) f.stands_there.0 flaw);
    })

    module _ {first : Located T} {others : List (Located T)} (f : First first others at)
        {chunk : List ℕ} (is : chunk ≡ nth_in file f.there.number)
        (named : IsNamed version first.due.reference.0 chunk)
        (falls : FallsTo first.due.above chunk)
      where
        right : IsDue version file f.there
        right = record {
          named = subst (λ d. IsNamed version d.reference (chunk_at file f.there)) f.stands_there.0
              (subst (IsNamed version first.due.reference.0) is named);
          falls = subst (λ d. FallsTo d.above (chunk_at file f.there)) f.stands_there.0
              (subst (FallsTo first.due.above) is falls);
        }

        abbrev numbers : KeySet → List ℕ
        numbers set = numbers_met set (kind_of version (nth_in file f.there.number))

        -- a child of it is missing
        pub child_stops : {fault : RootFault} →
            MayLack file (level_of (nth_in file f.there.number) - 1) f.there.from
            (numbers (set_of first.due.set)) fault → MayFail fault ⊎ StopsWith version file at fault
        child_stops (inl may) = inl may
        child_stops {fault = fault} (inr lacks) = inr (record {
          first = f.there;
          others = f.left;
          was = f.are;
          why = inr (
            right,
            subst (λ d. LacksOne file (level_of (nth_in file f.there.number) - 1) f.there.from
                (numbers d.set)) f.stands_there.0 lacks.0,
            lacks.1,
          );
        })

        -- what is due below it is due next
        pub goes_on : (below : List (Located T)) → map located_due below ≡
            due_below (level_of chunk) (set_of first.due.set) (kind_of version chunk) →
            AreFound stands file (level_of (nth_in file f.there.number) - 1) f.there.from
            (numbers (set_of first.due.set)) below → (new : List (Located T)) →
            new ≡ below ++ others →
            (next : List DueAt) × GoesOn version file at next × EachStandsAs stands file new next
        goes_on below dues found new all = (
          found.0 ++ f.left,
          record {
            first = f.there;
            others = f.left;
            was = f.are;
            right = right;
            below = found.0;
            dues = same_dues below found.0 found.2 ∙ dues ∙
                ap (λ c. due_below (level_of c) (set_of first.due.set) (kind_of version c)) is ∙
                ap (λ d. due_below (level_of (chunk_at file f.there)) d.set
                (kind_of version (chunk_at file f.there))) f.stands_there.0;
            stand = subst (λ d. AreChildren file (level_of (nth_in file f.there.number) - 1)
                f.there.from (numbers d.set) found.0) f.stands_there.0 found.1;
            is = refl;
          },
          subst (λ ls. EachStandsAs stands file ls (found.0 ++ f.left)) (sym all)
              (stand_both below others found.0 f.left found.2 f.others_stand),
        )

-- ---- all that is due

module _ (version : Version) (file : ChunkFile) where
  -- it came so far
  pub record HasGone (due at : List DueAt) : Type 0 where
    pub steps : List (List DueAt)
    pub leads : IsPath (GoesOn version file) due steps at

  pub goes_further : {due at next : List DueAt} → HasGone due at → GoesOn version file at next →
      HasGone due next
  goes_further {due = due} {at = at} {next = next} gone step = record {
    steps = gone.steps ++ next ∷ [];
    leads = path_more (GoesOn version file) due gone.steps at next gone.leads step;
  }

  pub stops_there : {due at : List DueAt} → HasGone due at → {fault : RootFault} →
      MayFail fault ⊎ StopsWith version file at fault →
      MayFail fault ⊎ StopsBehind version file due fault
  stops_there gone (inl may) = inl may
  stops_there {at = at} gone (inr stops) =
      inr (record { steps = gone.steps; last = at; leads = gone.leads; stops = stops })

  pub ends_there : {due at : List DueAt} → HasGone due at → at ≡ [] → EndsBehind version file due
  ends_there {due = due} gone none = record {
    steps = gone.steps;
    leads = subst (IsPath (GoesOn version file) due gone.steps) none gone.leads;
  }
