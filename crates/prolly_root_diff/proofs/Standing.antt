-- Where the subtrees that are due stand in a chunk file of any bytes.
use Rattle.std.proofs.Common.{◌≡◌, ◌∙◌, ◌-◌, ◌<◌, ◌⊎◌, ℕ, zero, suc, List, [], ◌∷◌, ◌++◌, drop, length}
use Rattle.std.proofs.Common.{map, option_map, Option, Some, None, Result, Ok, Err, inl, inr, refl, sym}
use Rattle.std.proofs.Common.{ap, subst, arith}
use Rattle.std.proofs.lemmas.List.{length-map}
use Rattle.prolly_look_up.specs.Entries.{children_in}
use Rattle.prolly_look_up.specs.Kinds.{kind_of}
use Rattle.prolly_look_up.specs.Way.{FallsTo, IsNamed, level_of}
use Rattle.prolly_entry.specs.declared.reference.Ref.{Ref}
use Rattle.prolly_entry.specs.declared.version.Version.{Version}
use Rattle.prolly_entry.specs.lemmas.Lists.{head_is, no_cons, tail_is}
use Rattle.prolly_root.specs.ChunkFile.{ChunkFile, nth_in}
use Rattle.prolly_root.specs.ChunkSource.{FindsChild, FindsRoot}
use Rattle.prolly_root.specs.LookUpFault.{IsFaultOfChunk}
use Rattle.prolly_root.specs.RootFault.{MayFail}
use Rattle.prolly_root.specs.declared.root_fault.RootFault.{RootFault}
use Rattle.prolly_root_diff.specs.FirstFault.{DueAt, IsFaultAt, MayStopWith, ReadsAt, Spot}
use Rattle.prolly_root_diff.specs.FirstFault.{IsAtSpot, children_at, due_under, level_over}
use Rattle.prolly_root_diff.specs.Left.{references_in}
use Rattle.prolly_root_diff.specs.Places.{AllStand, FindsFirst, IsThere, SiblingsStand}
use Rattle.prolly_root_diff.specs.Places.{StandBelow}
use Rattle.prolly_root_diff.specs.Sides.{AreChildrenOf, PutBehindFirst, level_above}
use Rattle.prolly_root_diff.specs.declared.siblings.Parent.{Parent}
use Rattle.prolly_root_diff.specs.declared.siblings.Siblings.{Siblings}

module _ {T : Type 0} (stands : ChunkFile → T → ℕ → ℕ → Type 0) (file : ChunkFile) where
  -- ---- the next subtree below one node

  -- it is due first
  pub record IsNextOf (parent : Option (Parent T)) (next : Ref) (own : List DueAt) : Type 0 where
    pub first : DueAt
    pub more : List DueAt
    pub are : own ≡ first ∷ more
    pub reference : first.reference ≡ next.0
    pub above : level_over first.spot ≡ option_map (λ p. p.level) parent

  pub next_of : (parent : Option (Parent T)) (next : Ref) (behind : List Ref) (own : List DueAt) →
      StandBelow stands file parent next behind own → IsNextOf parent next own
  next_of None next behind own st =
      record { first = _; more = []; are = st.1; reference = refl; above = refl }
  next_of (Some p) next behind own st =
      record { first = _; more = _; are = st.2; reference = refl; above = refl }

  pub first_is : (parent : Option (Parent T)) (next : Ref) (behind : List Ref) (first : DueAt)
      (others : List DueAt) → StandBelow stands file parent next behind (first ∷ others) →
      (first.reference ≡ next.0) × (level_over first.spot ≡ option_map (λ p. p.level) parent)
  first_is parent next behind first others st =
      let n = next_of parent next behind (first ∷ others) st in
      let same : first ≡ n.first = head_is _ _ _ _ n.are in
      (ap (λ d. d.reference) same ∙ n.reference, ap (λ d. level_over d.spot) same ∙ n.above)

  -- ---- finding it

  pub root_found : (version : Version) (next : Ref) (behind : List Ref) (first : DueAt)
      (others : List DueAt) → StandBelow stands file None next behind (first ∷ others) →
      (found : Result T RootFault) → FindsRoot stands version file found →
      FindsFirst stands version file first found
  root_found version next behind first others st found finds =
      subst (λ d. FindsFirst stands version file d found) (sym (head_is _ _ _ _ st.1)) (at_root found finds)
    where
      at_root : (found : Result T RootFault) → FindsRoot stands version file found →
          FindsFirst stands version file (record { reference = next.0; spot = Spot.Root }) found
      at_root (Ok place) is = (length file.chunks - 1, 0, is.1, (is.0, refl, refl))
      at_root (Err fault) (inl only) = inl only
      at_root (Err fault) (inr told) = inr told

  module _ (p : Parent T) (next : Ref) (behind : List Ref) (level number : ℕ)
      (lower : level ≡ p.level - 1) (number_is : number ≡ p.count - length behind - 1) where
    pub child_found : (version : Version) (first : DueAt) (others : List DueAt) →
        StandBelow stands file (Some p) next behind (first ∷ others) → (found : Result T RootFault) →
        ((n from : ℕ) → stands file p.place n from → level ≡ level_of (nth_in file n) - 1 →
        FindsChild stands file level from number found) →
        FindsFirst stands version file first found
    child_found version first others st found finds =
        subst (λ d. FindsFirst stands version file d found) (sym (head_is _ _ _ _ st.2))
        (at_child found (subst (λ l. FindsChild stands file l st.0 number found) lower
        (finds st.1.number st.0 st.1.there (lower ∙ ap (λ l. l - 1) st.1.level))))
      where
        at_child : (found : Result T RootFault) →
            FindsChild stands file (p.level - 1) st.0 number found →
            FindsFirst stands version file (record {
              reference = next.0;
              spot = Spot.Child p.level st.0 (p.count - length behind - 1);
            }) found
        at_child (Ok place) is = rw (← number_is) (is.0, is.1, is.2, (is.3, is.4))
        at_child (Err fault) (inl only) = inl only
        at_child (Err fault) (inr none) = rw (← number_is) (inr (none.1, none.0))

    pub node_stays : (new : T) (due : List DueAt) →
        StandBelow stands file (Some p) next behind due →
        ((n from : ℕ) → stands file p.place n from → level ≡ level_of (nth_in file n) - 1 →
        stands file new n from) → StandBelow stands file
        (Some (record { place = new; level = p.level; count = p.count })) next behind due
    node_stays new due st stays = (
      st.0,
      record {
        number = st.1.number;
        there = stays st.1.number st.0 st.1.there (lower ∙ ap (λ l. l - 1) st.1.level);
        level = st.1.level;
        fewer = st.1.fewer;
      },
      st.2,
    )

  -- ---- its chunk

  -- the chunk that stands there is not the one that is due
  pub chunk_fault : (version : Version) (first : DueAt) (n from : ℕ) →
      IsAtSpot version file first.spot n from → (reference : List ℕ) (above : Option ℕ) →
      first.reference ≡ reference → level_over first.spot ≡ above → (fault : RootFault) →
      MayFail fault ⊎ IsFaultOfChunk version reference above (nth_in file n) n fault →
      MayFail fault ⊎ IsFaultAt version file first fault
  chunk_fault version first n from there reference above named level fault (inl may) = inl may
  chunk_fault version first n from there reference above named level fault (inr flaw) = inr (inr (
    n,
    from,
    there,
    subst (λ r. IsFaultOfChunk version r (level_over first.spot) (nth_in file n) n fault)
        (sym named) (subst (λ a. IsFaultOfChunk version reference a (nth_in file n) n fault)
        (sym level) flaw),
  ))

  -- ---- behind it

  pub put_stands : (first : Siblings T) (others all : List (Siblings T)) →
      PutBehindFirst first others all → (d : DueAt) (ds rest : List DueAt) →
      SiblingsStand stands file first (d ∷ ds) → AllStand stands file others rest →
      AllStand stands file all (ds ++ rest)
  put_stands first others all (inl none) d ds rest st so =
      subst (λ ss. AllStand stands file ss (ds ++ rest)) (sym none.1)
      (subst (λ es. AllStand stands file others (es ++ rest))
      (sym (alone first.parent (subst (λ b. StandBelow stands file first.parent first.next b (d ∷ ds))
      none.0 st))) so)
    where
      alone : (parent : Option (Parent T)) →
          StandBelow stands file parent first.next [] (d ∷ ds) → ds ≡ []
      alone None st = tail_is _ _ _ _ st.1
      alone (Some p) st = tail_is _ _ _ _ st.2
  put_stands first others all (inr some) d ds rest st so =
      subst (λ ss. AllStand stands file ss (ds ++ rest)) (sym some.2) (
        ds,
        rest,
        refl,
        subst (λ p. StandBelow stands file p some.0.next some.0.behind.items ds)
            (sym some.1.parent) (behind_first first.parent
            (subst (λ b. StandBelow stands file first.parent first.next b (d ∷ ds)) some.1.are st)),
        so,
      )
    where
      behind_first : (parent : Option (Parent T)) →
          StandBelow stands file parent first.next (some.0.next ∷ some.0.behind.items) (d ∷ ds) →
          StandBelow stands file parent some.0.next some.0.behind.items ds
      behind_first None st = no_cons _ _ st.0
      behind_first (Some p) st =
          let left = some.0.behind.items in
          let fewer = st.1.fewer in
          let one_on : suc (p.count - suc (length left) - 1) ≡ p.count - length left - 1 =
          omega (arith, fewer) in (
            st.0,
            record {
              number = st.1.number;
              there = st.1.there;
              level = st.1.level;
              fewer = omega (arith, fewer);
            },
            tail_is _ _ _ _ st.2 ∙ ap (λ k. children_at p.level st.0 k
                (some.0.next.0 ∷ map (λ r. r.0) left)) one_on,
          )

  -- ---- the subtrees below a node

  pub children_stand : (version : Version) (node : List ℕ) (place : T) (s : Siblings T)
      (n from : ℕ) → AreChildrenOf version node place s → 0 < level_of node →
      stands file place n from → node ≡ nth_in file n →
      SiblingsStand stands file s (due_under version node from)
  children_stand version node place s n from c high there is =
      subst (λ p. StandBelow stands file p s.next s.behind.items (due_under version node from))
      (sym c.above) (
        from,
        record {
          number = n;
          there = subst (λ place. stands file place n from) (sym c.stands) there;
          level = c.level ∙ ap level_of is;
          fewer = omega (arith, long);
        },
        ap (λ l. children_at l from 0 (references_in (kind_of version node))) (sym c.level) ∙
            ap (λ rs. children_at c.parent.level from 0 rs) (held node high ∙ sym c.references) ∙
            ap (λ k. children_at c.parent.level from k
            (s.next.0 ∷ map (λ r. r.0) s.behind.items)) (omega (arith, long)),
      )
    where
      long : suc (length s.behind.items) ≡ c.parent.count
      long = ap suc (sym (length-map s.behind.items (λ r. r.0))) ∙ ap length c.references ∙
          length-map (children_in version (drop 1 node)) (λ c. c.reference) ∙ sym c.count

      held : (node : List ℕ) → 0 < level_of node → references_in (kind_of version node) ≡
          map (λ c. c.reference) (children_in version (drop 1 node))
      held [] high = absurd (omega (arith, high))
      held (zero ∷ entries) high = absurd (omega (arith, high))
      held (suc level ∷ entries) high = refl

-- nothing is due below a leaf
pub none_under : (version : Version) (chunk : List ℕ) (from : ℕ) → level_of chunk ≡ 0 →
    due_under version chunk from ≡ []
none_under version [] from low = refl
none_under version (zero ∷ entries) from low = refl
none_under version (suc level ∷ entries) from low = absurd (omega (arith, low))

-- nor below a node without children
pub no_children_under : (version : Version) (chunk : List ℕ) (from : ℕ) → 0 < level_of chunk →
    children_in version (drop 1 chunk) ≡ [] → due_under version chunk from ≡ []
no_children_under version [] from high none = absurd (omega (arith, high))
no_children_under version (zero ∷ entries) from high none = absurd (omega (arith, high))
no_children_under version (suc level ∷ entries) from high none =
    ap (λ cs. children_at (suc level) from 0 (map (λ c. c.reference) cs)) none

-- ---- one step

module _ {T : Type 0} (stands : ChunkFile → T → ℕ → ℕ → Type 0) (version : Version)
    (file : ChunkFile) (due : List (Siblings T)) (siblings : Siblings T) (others : List (Siblings T))
    (old : List DueAt) (popped : due ≡ siblings ∷ others) (st : AllStand stands file due old) where
  pub all : AllStand stands file (siblings ∷ others) old
  all = subst (λ ss. AllStand stands file ss old) popped st

  pub next_due : IsNextOf stands file siblings.parent siblings.next all.0
  next_due = next_of stands file siblings.parent siblings.next siblings.behind.items all.0 all.3

  abbrev pub first_due : DueAt
  first_due = next_due.first

  abbrev pub due_behind_it : List DueAt
  due_behind_it = next_due.more ++ all.1

  own_stand : SiblingsStand stands file siblings (first_due ∷ next_due.more)
  own_stand = subst (SiblingsStand stands file siblings) next_due.are all.3

  pub was : old ≡ first_due ∷ due_behind_it
  was = all.2 ∙ ap (λ own. own ++ all.1) next_due.are

  -- What is told of the subtree that is due first.
  abbrev pub OfFirst : (DueAt → Type 0) → Type 0
  OfFirst Told = (first : DueAt) (more : List DueAt) →
      SiblingsStand stands file siblings (first ∷ more) → Told first

  -- it stops there
  pub stops_there : (fault : RootFault) →
      OfFirst (λ first. MayFail fault ⊎ IsFaultAt version file first fault) →
      MayStopWith version file old fault
  stops_there fault told = so (told first_due next_due.more own_stand)
    where
      so : MayFail fault ⊎ IsFaultAt version file first_due fault →
          MayStopWith version file old fault
      so (inl may) = inl may
      so (inr why) =
          inr (record { first = first_due; others = due_behind_it; was = was; why = why })

  module _ (left : Siblings T) (stays : (ds : List DueAt) → SiblingsStand stands file siblings ds →
      SiblingsStand stands file left ds) (put : List (Siblings T))
      (is_put : PutBehindFirst left others put) where
    pub put_there : AllStand stands file put due_behind_it
    put_there = put_stands stands file left others put is_put first_due next_due.more all.1
        (stays (first_due ∷ next_due.more) own_stand) all.4

    module _ (chunk : List ℕ) (place : T)
        (told : OfFirst (λ first. IsThere stands version file first chunk place))
        (named : IsNamed version siblings.next.0 chunk)
        (falls : FallsTo (level_above siblings) chunk) where
      there : IsThere stands version file first_due chunk place
      there = told first_due next_due.more own_stand

      reads_at : (new : List DueAt) → new ≡ due_under version chunk there.1 ++ due_behind_it →
          ReadsAt version file chunk old new
      reads_at new is = record {
        first = first_due;
        others = due_behind_it;
        was = was;
        number = there.0;
        from = there.1;
        stands = there.3;
        chunk_is = there.4;
        named = subst (λ r. IsNamed version r chunk) (sym next_due.reference) named;
        falls = subst (λ a. FallsTo a chunk) (sym next_due.above) falls;
        is = is;
      }

      -- below the chunk nothing is due
      pub reads_low : ((from : ℕ) → due_under version chunk from ≡ []) → (new : List DueAt) ×
          ReadsAt version file chunk old new × AllStand stands file put new
      reads_low none = (
        due_behind_it,
        reads_at due_behind_it (ap (λ ds. ds ++ due_behind_it) (sym (none there.1))),
        put_there,
      )

      -- its children are due first
      pub reads_node : (s : Siblings T) → AreChildrenOf version chunk place s → 0 < level_of chunk →
          (new_due : List (Siblings T)) → new_due ≡ s ∷ put → (new : List DueAt) ×
          ReadsAt version file chunk old new × AllStand stands file new_due new
      reads_node s c high new_due is = (
        due_under version chunk there.1 ++ due_behind_it,
        reads_at (due_under version chunk there.1 ++ due_behind_it) refl,
        subst (λ ss. AllStand stands file ss (due_under version chunk there.1 ++ due_behind_it))
            (sym is) (
              due_under version chunk there.1,
              due_behind_it,
              refl,
              children_stand stands file version chunk place s there.0 there.1 c high there.2 there.4,
              put_there,
            ),
      )
