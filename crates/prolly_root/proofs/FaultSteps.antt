-- Going down in a chunk file of any bytes, from where a look-up stands to where it stands next.
use Rattle.std.proofs.Common.{◌≡◌, ◌∙◌, ℕ, ◌-◌, List, [], ◌∷◌, ◌++◌, Some, inl, inr}
use Rattle.std.proofs.Common.{Ok, Err, refl, sym, ap, subst, get_or}
use Rattle.std.specs.List.{AllByRecursion}
use Rattle.prolly_look_up.specs.Entries.{IsWhole}
use Rattle.prolly_look_up.specs.Kinds.{Entries, kind_of}
use Rattle.prolly_look_up.specs.Kinds.Entries.{Leaf, Node}
use Rattle.prolly_look_up.specs.Sought.{EndsAt, Sought, IsChildOf, child_sought, sought_of}
use Rattle.prolly_look_up.specs.Way.{FallsTo, IsNamed, level_of}
use Rattle.prolly_look_up.specs.declared.sought.ChildSought.{ChildSought}
use Rattle.prolly_look_up.specs.declared.step.Due.{Due}
use Rattle.prolly_entry.specs.declared.version.Version.{Version}
use Rattle.prolly_root.specs.ChunkFile.{ChunkFile}
use Rattle.prolly_root.specs.ChunkSource.{FindsChild}
use Rattle.prolly_root.specs.Descent.{GoesOnAt, IsAt, IsAtDue, IsDueAt, IsKeptOf}
use Rattle.prolly_root.specs.LookUpFault.{ComesToEnd, GoesOnIn, HasDue, LeadsTo, MayStop, MayTell, Standing}
use Rattle.prolly_root.specs.LookUpFault.{StepsTo, at_root, chunk_of}
use Rattle.prolly_root.specs.Walk.{IsBehind, IsNth}
use Rattle.prolly_root.specs.lemmas.Paths.{path_more}
use Rattle.prolly_root.specs.declared.look_up.chunk_on_way.ChunkOnWay.{ChunkOnWay}
use Rattle.prolly_root.specs.declared.look_up.chunk_on_way.Onward.TheVariants.{Below}
use Rattle.prolly_root.specs.declared.root_fault.RootFault.{RootFault}

-- ---- one step

-- the first byte of a chunk is its level
pub level_read : (version : Version) (chunk : List ℕ) (first : ℕ) → IsWhole version chunk →
    first ≡ get_or chunk 0 first → first ≡ level_of chunk
level_read version [] first whole is = absurd whole.holds
level_read version (b ∷ entries) first whole is = is

-- the child that was chosen, by its number
goes_in : (version : Version) (chunk : List ℕ) (sought : Sought) (child : ChildSought) →
    IsChildOf sought (kind_of version chunk) child →
    GoesOnIn version chunk sought child.number child.reference.0 (sought_of child.sought)
goes_in version chunk sought child on = by_kind (kind_of version chunk) refl on
  where
    by_kind : (entries : Entries) → kind_of version chunk ≡ entries →
        IsChildOf sought entries child →
        GoesOnIn version chunk sought child.number child.reference.0 (sought_of child.sought)
    by_kind (Leaf pairs) e is = absurd is
    by_kind (Node children) e is = record {
      before = is.before;
      child = is.child;
      after = is.after;
      are = e ∙ ap Node is.are;
      number_is = is.number;
      chosen = subst (λ cs. child_sought sought cs ≡ Some (is.child, sought_of child.sought)) is.are
          is.sought_there;
      reference_is = is.reference;
    }

module _ {T : Type 0} (stands : ChunkFile → T → ℕ → ℕ → Type 0) {version : Version}
    {file : ChunkFile} {at : Standing} (due : HasDue version file at) {chunk : List ℕ}
    (is : chunk ≡ chunk_of file at) {sought : Sought} (asked : at.sought ≡ sought)
    (child : ChildSought) (on : IsChildOf sought (kind_of version chunk) child) (level : ℕ)
    (high : level ≡ level_of chunk) where
  abbrev Goes : List ℕ → Sought → Type 0
  Goes chunk sought =
      GoesOnIn version chunk sought child.number child.reference.0 (sought_of child.sought)

  goes : Goes (chunk_of file at) at.sought
  goes = subst (λ chunk. Goes chunk at.sought) is
      (subst (Goes chunk) (sym asked) (goes_in version chunk sought child on))

  pub one_below : level - 1 ≡ level_of (chunk_of file at) - 1
  one_below = ap (λ n. n - 1) (high ∙ ap level_of is)

  -- at the place of the child the look-up stands again
  pub steps_to : {next : Due} → next.reference ≡ child.reference → next.above ≡ Some level →
      next.sought ≡ child.sought → (place : T) →
      FindsChild stands file (level - 1) at.from child.number (Ok place) →
      GoesOnAt stands version file at (Below next place)
  steps_to {next = next} reference above there place found = (
    record {
      reference = child.reference.0;
      above = Some level;
      sought = sought_of child.sought;
      number = found.0;
      from = found.1;
    },
    record {
      due = due;
      child = child.number;
      on = goes;
      above = ap Some (high ∙ ap level_of is);
      nth = subst (λ l. IsNth file l at.from child.number found.0) one_below found.3;
      behind = subst (λ l. IsBehind file l at.from child.number found.1) one_below found.4;
    },
    record {
      reference = ap (λ r. r.0) (sym reference);
      above = sym above;
      sought = ap sought_of (sym there);
      stands_there = found.2;
    },
  )

  -- or there is no such place
  pub lacks : {fault : RootFault} →
      FindsChild stands file (level - 1) at.from child.number (Err fault) →
      MayStop version file at fault
  lacks (inl only) = inl (inr only)
  lacks (inr none) = inr (inr (record {
    due = due;
    child = child.number;
    reference = child.reference.0;
    there = sought_of child.sought;
    on = goes;
    none = λ n nth. none.1 n (subst (λ l. IsNth file l at.from child.number n) (sym one_below) nth);
    is = none.0;
  }))

-- ---- where a look-up has come to

module _ {T : Type 0} (stands : ChunkFile → T → ℕ → ℕ → Type 0) (version : Version)
    (file : ChunkFile) (root : List ℕ) (sought : Sought) where
  -- it stands there, and what was met and what is kept stands in the file
  pub record ComesTo (due : Due) (place : T) (met kept : List (ChunkOnWay T)) : Type 0 where
    pub steps : List Standing
    pub at : Standing
    pub leads : LeadsTo version file (at_root file root sought) steps at
    pub due_at : IsDueAt stands file due place at
    pub met_there : AllByRecursion (IsKeptOf stands file) met
    pub kept_there : AllByRecursion (IsKeptOf stands file) kept

  module _ {due : Due} {place : T} {met kept : List (ChunkOnWay T)}
      (c : ComesTo due place met kept) where
    -- what stops it there is its fault
    pub stops : {fault : RootFault} → MayStop version file c.at fault →
        MayTell version file root sought fault
    stops (inl may) = inl may
    stops (inr why) =
        inr (record { steps = c.steps; last = c.at; leads = c.leads; stops = why })

    -- the chunk that stands there is the one that is due
    pub has_due : {chunk : ChunkOnWay T} → IsAtDue version due chunk → IsAt stands file c.at chunk →
        HasDue version file c.at
    has_due {chunk = chunk} is there = record {
      named = subst (λ r. IsNamed version r (chunk_of file c.at))
          (ap (λ r. r.0) is.reference ∙ sym c.due_at.reference)
          (subst (IsNamed version chunk.reference.0) there.is is.is.named);
      falls = subst (λ above. FallsTo above (chunk_of file c.at)) (sym c.due_at.above)
          (subst (FallsTo due.above) there.is is.falls);
    }

    -- at which it ends
    pub comes_to_end : HasDue version file c.at → {chunk : ChunkOnWay T} →
        IsAt stands file c.at chunk →
        EndsAt (sought_of due.sought) (kind_of version chunk.chunk.items) →
        ComesToEnd version file root sought
    comes_to_end due_there {chunk = chunk} there ends = record {
      steps = c.steps;
      last = c.at;
      leads = c.leads;
      due = due_there;
      ends = subst (λ s. EndsAt s (kind_of version (chunk_of file c.at))) (sym c.due_at.sought)
          (subst (λ chunk. EndsAt (sought_of due.sought) (kind_of version chunk)) there.is ends);
    }

    -- one step further
    pub comes_on : {next : Due} {there : T} {now left : List (ChunkOnWay T)} →
        GoesOnAt stands version file c.at (Below next there) →
        AllByRecursion (IsKeptOf stands file) now → AllByRecursion (IsKeptOf stands file) left →
        ComesTo next there now left
    comes_on on now left = record {
      steps = c.steps ++ on.0 ∷ [];
      at = on.0;
      leads = path_more (StepsTo version file) (at_root file root sought) c.steps c.at on.0 c.leads
          on.1;
      due_at = on.2;
      met_there = now;
      kept_there = left;
    }

-- a chunk at which a look-up stood stands in the file
pub at_kept : {T : Type 0} {stands : ChunkFile → T → ℕ → ℕ → Type 0} {file : ChunkFile}
    {at : Standing} {chunk : ChunkOnWay T} → IsAt stands file at chunk →
    IsKeptOf stands file chunk
at_kept {at = at} is = record {
  number = at.number;
  from = at.from;
  stands_there = is.stands_there;
  is = is.is;
}
