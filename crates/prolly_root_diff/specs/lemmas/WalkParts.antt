-- Walks over trees in chunk files of any bytes, one part after another.
use Rattle.std.proofs.Common.{◌≡◌, ◌∙◌, ℕ, inl, inr, List, [], ◌∷◌, ◌++◌, map, refl, sym, ap, subst}
use Rattle.std.proofs.Common.{Option, Some, None, append-nil, append_assoc}
use Rattle.std.proofs.lemmas.List.{map-append}
use Rattle.prolly_entry.specs.declared.version.Version.{Version}
use Rattle.prolly_root.specs.ChunkFile.{ChunkFile}
use Rattle.prolly_root.specs.ChunkSource.{GoesOverStill}
use Rattle.prolly_root.specs.declared.root_fault.RootFault.{RootFault}
use Rattle.prolly_root_diff.specs.FileWalks.{ComesInFile, HasStill, StopsInFile, StopsInNew}
use Rattle.prolly_root_diff.specs.FileWalks.{StopsInOld, WalksOn}
use Rattle.prolly_root_diff.specs.FirstFault.{ComesBy, DueAt, MayStopBehind, ReadsEach}
use Rattle.prolly_root_diff.specs.FirstFault.{TreeStep}
use Rattle.prolly_root_diff.specs.LeafWalk.{ReadsInFile}
use Rattle.prolly_root_diff.specs.Sides.{left_of}
use Rattle.prolly_root_diff.specs.Notes.{AddsNotes, AreNoted, AreNotesOf}
use Rattle.prolly_root_diff.specs.Walks.{Leads, Lefts, Move, changes_on, new_steps, old_steps}
use Rattle.prolly_root_diff.specs.declared.change.RootChange.{RootChange}
use Rattle.prolly_root_diff.specs.declared.notes.Notes.{Notes}
use Rattle.prolly_root_diff.specs.declared.side.Side.{Side}
use Rattle.prolly_root_diff.specs.declared.siblings.Siblings.{Siblings}

-- ---- one tree

module _ (version : Version) (file : ChunkFile) where
  pub comes_on : (steps more : List TreeStep) (old mid new : List DueAt) →
      ComesBy version file steps old mid → ComesBy version file more mid new →
      ComesBy version file (steps ++ more) old new
  comes_on [] more old mid new first then =
      subst (λ due. ComesBy version file more due new) (sym first) then
  comes_on (TreeStep.Reads chunk ∷ steps) more old mid new first then =
      (first.0, first.1, comes_on steps more first.0 mid new first.2 then)
  comes_on (TreeStep.Passes ∷ steps) more old mid new first then =
      (first.0, first.1, first.2, comes_on steps more first.1 mid new first.3 then)

  -- ---- the leaves

  pub read_both : (read more : List (List ℕ)) (old mid new : List DueAt) →
      ReadsEach version file read old mid → ReadsEach version file more mid new →
      ReadsEach version file (read ++ more) old new
  read_both read more old mid new first then =
      subst (λ steps. ComesBy version file steps old new)
      (sym (map-append (λ c. TreeStep.Reads c) read more))
      (comes_on (map (λ c. TreeStep.Reads c) read) (map (λ c. TreeStep.Reads c) more) old mid new
      first then)

  pub stop_on : (read : List (List ℕ)) (old mid : List DueAt) (fault : RootFault) →
      ReadsEach version file read old mid → MayStopBehind version file mid fault →
      MayStopBehind version file old fault
  stop_on read old mid fault on (inl may) = inl may
  stop_on read old mid fault on (inr s) = inr (record {
    last = s.last;
    on = record {
      read = read ++ s.on.read;
      comes = read_both read s.on.read old mid s.last on s.on.comes;
    };
    stops = s.stops;
  })

-- ---- a walk over two trees

leads_on : (version : Version) (old mid new : Lefts) (way more : List Move) →
    Leads version old way mid → Leads version mid more new → Leads version old (way ++ more) new
leads_on version old mid new [] more first then =
    subst (λ l. Leads version l more new) (sym first) then
leads_on version old mid new (move ∷ way) more first then =
    (first.0, first.1, leads_on version first.0 mid new way more first.2 then)

pub old_on : (way more : List Move) → old_steps (way ++ more) ≡ old_steps way ++ old_steps more
old_on [] more = refl
old_on (Move.ReadsOld chunk ∷ way) more = ap (λ s. TreeStep.Reads chunk ∷ s) (old_on way more)
old_on (Move.ReadsNew chunk ∷ way) more = old_on way more
old_on (Move.PassesBoth ∷ way) more = ap (λ s. TreeStep.Passes ∷ s) (old_on way more)
old_on (Move.SkipsBoth ∷ way) more = old_on way more
old_on (Move.Gives change ∷ way) more = old_on way more

pub new_on : (way more : List Move) → new_steps (way ++ more) ≡ new_steps way ++ new_steps more
new_on [] more = refl
new_on (Move.ReadsOld chunk ∷ way) more = new_on way more
new_on (Move.ReadsNew chunk ∷ way) more = ap (λ s. TreeStep.Reads chunk ∷ s) (new_on way more)
new_on (Move.PassesBoth ∷ way) more = ap (λ s. TreeStep.Passes ∷ s) (new_on way more)
new_on (Move.SkipsBoth ∷ way) more = new_on way more
new_on (Move.Gives change ∷ way) more = new_on way more

module _ {S T : Type 0} (goes_over : S → ChunkFile → Type 0)
    (stands : ChunkFile → T → ℕ → ℕ → Type 0) (version : Version) (start : S)
    (old : List (Siblings T)) where
  pub file_stays : ComesInFile goes_over stands version start [] old old
  file_stays file due goes st = (due, refl, st)

  file_on : (source : S) → GoesOverStill goes_over start source → (steps more : List TreeStep)
      (mid new : List (Siblings T)) → ComesInFile goes_over stands version start steps old mid →
      ComesInFile goes_over stands version source more mid new →
      ComesInFile goes_over stands version start (steps ++ more) old new
  file_on source still steps more mid new first then file due goes st =
      let on = first file due goes st in
      let further = then file on.0 (still file goes) on.2 in
      (further.0, comes_on version file steps more due on.0 further.0 on.1 further.1, further.2)

  pub both_in_file : (source : S) → GoesOverStill goes_over start source →
      (read more : List (List ℕ)) (mid new : List (Siblings T)) →
      ReadsInFile goes_over stands version start read old mid →
      ReadsInFile goes_over stands version source more mid new →
      ReadsInFile goes_over stands version start (read ++ more) old new
  both_in_file source still read more mid new first then =
      subst (λ steps. ComesInFile goes_over stands version start steps old new)
      (sym (map-append (λ c. TreeStep.Reads c) read more))
      (file_on source still (map (λ c. TreeStep.Reads c) read) (map (λ c. TreeStep.Reads c) more) mid
      new first then)

  file_stops : (source : S) → GoesOverStill goes_over start source →
      (steps more : List TreeStep) (mid : List (Siblings T)) (fault : RootFault) →
      ComesInFile goes_over stands version start steps old mid →
      StopsInFile goes_over stands version source more mid fault →
      StopsInFile goes_over stands version start (steps ++ more) old fault
  file_stops source still steps more mid fault first stops file due goes st =
      let on = first file due goes st in
      let there = stops file on.0 (still file goes) on.2 in
      (there.0, comes_on version file steps more due on.0 there.0 on.1 there.1, there.2)

changes_more : (way more : List Move) →
    changes_on (way ++ more) ≡ changes_on way ++ changes_on more
changes_more [] more = refl
changes_more (Move.ReadsOld chunk ∷ way) more = changes_more way more
changes_more (Move.ReadsNew chunk ∷ way) more = changes_more way more
changes_more (Move.PassesBoth ∷ way) more = changes_more way more
changes_more (Move.SkipsBoth ∷ way) more = changes_more way more
changes_more (Move.Gives change ∷ way) more = ap (λ cs. change ∷ cs) (changes_more way more)

-- Nothing was noted.
notes_none : (notes : Option Notes) → AddsNotes [] notes notes
notes_none None way noted = tt
notes_none (Some notes) way noted = subst (λ w. AreNotesOf w notes) (sym (append-nil way)) noted

notes_on : (first more : List Move) (old mid new : Option Notes) → AddsNotes first old mid →
    AddsNotes more mid new → AddsNotes (first ++ more) old new
notes_on first more old mid new adds then way noted =
    subst (λ w. AreNoted w new) (append_assoc way first more)
    (then (way ++ first) (adds way noted))

-- Nothing was done yet.
pub walks_none : {S T R U : Type 0} (goes_over : S → ChunkFile → Type 0)
    (stands : ChunkFile → T → ℕ → ℕ → Type 0) (goes_over' : R → ChunkFile → Type 0)
    (stands' : ChunkFile → U → ℕ → ℕ → Type 0) (version : Version) (start : S) (start' : R)
    (before : Side T) (after : Side U) (notes : Option Notes) → WalksOn goes_over stands goes_over'
    stands' version start start' before before after after [] notes notes
walks_none goes_over stands goes_over' stands' version start start' before after notes = record {
  way = [];
  lead = refl;
  gives = refl;
  noted = notes_none notes;
  comes = file_stays goes_over stands version start before.due.items;
  comes' = file_stays goes_over' stands' version start' after.due.items;
}

module _ {S : Type 0} (goes_over : S → ChunkFile → Type 0) (failures : S → ℕ) where
  pub has_still : (source : S) → HasStill goes_over failures source source
  has_still source = record { goes_still = λ file goes. goes; failures_are = refl }

  pub still_on : (start old new : S) → HasStill goes_over failures start old →
      GoesOverStill goes_over old new × (failures new ≡ failures old) →
      HasStill goes_over failures start new
  still_on start old new still asked = record {
    goes_still = λ file goes. asked.0 file (still.goes_still file goes);
    failures_are = asked.1 ∙ still.failures_are;
  }

module _ {S T R U : Type 0} (goes_over : S → ChunkFile → Type 0)
    (stands : ChunkFile → T → ℕ → ℕ → Type 0) (goes_over' : R → ChunkFile → Type 0)
    (stands' : ChunkFile → U → ℕ → ℕ → Type 0) (version : Version) (start source : S)
    (start' source' : R) (still : GoesOverStill goes_over start source)
    (still' : GoesOverStill goes_over' start' source') (before at : Side T) (after at' : Side U)
    (given : List RootChange) (notes mid_notes : Option Notes) (on : WalksOn goes_over stands
    goes_over' stands' version start start' before at after at' given notes mid_notes) where
  abbrev Start : Lefts
  Start = record { before = left_of before; after = left_of after }

  abbrev Mid : Lefts
  Mid = record { before = left_of at; after = left_of at' }

  old_comes : (more : List Move) (new : Side T) → ComesInFile goes_over stands version source
      (old_steps more) at.due.items new.due.items → ComesInFile goes_over stands version start
      (old_steps (on.way ++ more)) before.due.items new.due.items
  old_comes more new comes = subst (λ steps. ComesInFile goes_over stands version start steps
      before.due.items new.due.items) (sym (old_on on.way more)) (file_on goes_over stands version
      start before.due.items source still (old_steps on.way) (old_steps more) at.due.items
      new.due.items on.comes comes)

  new_comes : (more : List Move) (new : Side U) → ComesInFile goes_over' stands' version source'
      (new_steps more) at'.due.items new.due.items → ComesInFile goes_over' stands' version start'
      (new_steps (on.way ++ more)) after.due.items new.due.items
  new_comes more new comes = subst (λ steps. ComesInFile goes_over' stands' version start' steps
      after.due.items new.due.items) (sym (new_on on.way more)) (file_on goes_over' stands' version
      start' after.due.items source' still' (new_steps on.way) (new_steps more) at'.due.items
      new.due.items on.comes' comes)

  -- It went further.
  pub walks_on : (next : Side T) (next' : Side U) (then : List RootChange) (later : Option Notes) →
      WalksOn goes_over stands goes_over' stands' version source source' at next at' next' then
      mid_notes later → WalksOn goes_over stands goes_over' stands' version start start' before next
      after next' (given ++ then) notes later
  walks_on next next' then later more = record {
    way = on.way ++ more.way;
    lead = leads_on version Start Mid (record { before = left_of next; after = left_of next' })
        on.way more.way on.lead more.lead;
    gives = changes_more on.way more.way ∙ ap (λ cs. cs ++ changes_on more.way) on.gives ∙
        ap (λ cs. given ++ cs) more.gives;
    noted = notes_on on.way more.way notes mid_notes later on.noted more.noted;
    comes = old_comes more.way next more.comes;
    comes' = new_comes more.way next' more.comes';
  }

  -- It went further, and stopped.
  pub stops_in_old : (next : Side T) (next' : Side U) (fault : RootFault) →
      StopsInOld goes_over stands goes_over' stands' version source source' at next at' next' fault →
      StopsInOld goes_over stands goes_over' stands' version start start' before next after next'
      fault
  stops_in_old next next' fault more = record {
    way = on.way ++ more.way;
    lefts = more.lefts;
    lead = leads_on version Start Mid more.lefts on.way more.way on.lead more.lead;
    onward = more.onward;
    stops = subst (λ steps. StopsInFile goes_over stands version start steps before.due.items fault)
        (sym (old_on on.way more.way)) (file_stops goes_over stands version start before.due.items
        source still (old_steps on.way) (old_steps more.way) at.due.items fault on.comes more.stops);
    comes' = new_comes more.way next' more.comes';
  }

  pub stops_in_new : (next : Side T) (next' : Side U) (fault : RootFault) →
      StopsInNew goes_over stands goes_over' stands' version source source' at next at' next' fault →
      StopsInNew goes_over stands goes_over' stands' version start start' before next after next'
      fault
  stops_in_new next next' fault more = record {
    way = on.way ++ more.way;
    lefts = more.lefts;
    lead = leads_on version Start Mid more.lefts on.way more.way on.lead more.lead;
    onward = more.onward;
    comes = old_comes more.way next more.comes;
    stops = subst (λ steps. StopsInFile goes_over' stands' version start' steps after.due.items
        fault) (sym (new_on on.way more.way)) (file_stops goes_over' stands' version start'
        after.due.items source' still' (new_steps on.way) (new_steps more.way) at'.due.items fault
        on.comes' more.stops);
  }
