-- That a walk over two trees in two chunk files goes one way, and stops with one fault.
use Rattle.std.proofs.Common.{◌≡◌, ◌∙◌, ◌<◌, ◌≤◌, ◌⊎◌, ℕ, inl, inr, length, List, [], ◌∷◌, ◌++◌, Option, Some}
use Rattle.std.proofs.Common.{None, refl, sym, ap, subst, arith, if◌then◌else◌, false}
use Rattle.std.specs.Prelude.{nat_lt}
use Rattle.std.specs.Str.{bytes_eq}
use Rattle.std.specs.declared.cmp.Ordering.{Ordering}
use Rattle.std.specs.declared.cmp.Ordering.TheVariants.{Equal, Greater, Less}
use Rattle.std.proofs.lemmas.Bool.{false_from_ne_true, le-ltb, lt-ltb}
use Rattle.std.proofs.lemmas.Slice.Eq.{bytes_eq-Decides}
use Rattle.prolly_entry.specs.Keys.{key_order}
use Rattle.prolly_entry.specs.Pair.{Pair}
use Rattle.prolly_entry.specs.declared.version.Version.{Version}
use Rattle.prolly_entry.specs.lemmas.Orders.{below_greater, order_self}
use Rattle.prolly_entry.specs.lemmas.Lists.{no_cons, tail_is}
use Rattle.prolly_look_up.specs.Kinds.{kind_of}
use Rattle.prolly_look_up.specs.Way.{level_of}
use Rattle.prolly_root.specs.ChunkFile.{ChunkFile}
use Rattle.prolly_root.specs.Path.{IsPath}
use Rattle.prolly_root.specs.lemmas.Paths.{one_end}
use Rattle.prolly_root_diff.specs.FileWalks.{HasAllOfWalk, IsWalkFault, StopsIn, WalkFaultsAreOne}
use Rattle.prolly_root_diff.specs.FirstFault.{ComesBy, DueAt, TreeStep, tree_at}
use Rattle.prolly_root_diff.specs.Left.{Due, Left, Opens, opened}
use Rattle.prolly_root_diff.specs.Walks.{BeginAlike, ComesTo, FirstPair, GoesByPairs, IsAtEnd, IsMove, IsOnward}
use Rattle.prolly_root_diff.specs.Walks.{IsReady, Leads, Lefts, Move, Takes, at_roots, new_steps}
use Rattle.prolly_root_diff.specs.Walks.{old_steps}
use Rattle.prolly_root_diff.specs.declared.change.RootChange.TheVariants.{Added, Changed, Removed}
use Rattle.prolly_root_diff.specs.declared.fault.RootDiffFault.{RootDiffFault}
use Rattle.prolly_root_diff.specs.declared.fault.RootDiffFault.TheVariants as faults
use Rattle.prolly_root_diff.specs.declared.onward.Onward.{Onward}
use Rattle.prolly_root_diff.specs.declared.onward.Onward.TheVariants as ways
use Rattle.prolly_root_diff.specs.lemmas.WalkParts.{new_on, old_on}
use Rattle.prolly_root_diff.proofs.OneFault.{no_read, one_read, one_stop}

-- ---- how it goes on, computed

abbrev by_order : Ordering → Onward
by_order Less = ways.Removed
by_order Equal = ways.Skip
by_order Greater = ways.Added

abbrev by_pairs : List Pair → List Pair → Onward
by_pairs [] [] = ways.End
by_pairs (p ∷ ps) [] = ways.Removed
by_pairs [] (q ∷ qs) = ways.Added
by_pairs (p ∷ ps) (q ∷ qs) = by_order (key_order p.key q.key)

abbrev by_tops : Due → Due → Onward
by_tops d e = if bytes_eq d.reference e.reference then ways.Pass
    else (if nat_lt d.bound e.bound then ways.OpenNew else ways.OpenOld)

abbrev rule : List Pair → List Due → List Pair → List Due → Onward
rule [] (d ∷ ds) [] (e ∷ es) = by_tops d e
rule [] (d ∷ ds) [] [] = ways.OpenOld
rule [] (d ∷ ds) (q ∷ qs) es = ways.OpenOld
rule [] [] [] (e ∷ es) = ways.OpenNew
rule [] [] [] [] = ways.End
rule [] [] (q ∷ qs) es = ways.Added
rule (p ∷ ps) ds [] (e ∷ es) = ways.OpenNew
rule (p ∷ ps) ds [] [] = ways.Removed
rule (p ∷ ps) ds (q ∷ qs) es = by_order (key_order p.key q.key)

-- two pairs of one key are taken alike, whether they are given or not
abbrev merged : Onward → Onward
merged ways.Pass = ways.Pass
merged ways.OpenOld = ways.OpenOld
merged ways.OpenNew = ways.OpenNew
merged ways.Skip = ways.Skip
merged ways.Removed = ways.Removed
merged ways.Added = ways.Added
merged ways.Changed = ways.Skip
merged ways.End = ways.End

-- ---- that it is so

by_two : (p q : Pair) (way : Onward) → ComesTo (Some p) (Some q) way →
    merged way ≡ by_order (key_order p.key q.key)
by_two p q ways.Removed below = rw below refl
by_two p q ways.Added below = rw (below_greater q.key p.key below) refl
by_two p q ways.Changed same = rw (same.0, order_self q.key) refl
by_two p q ways.Skip same = rw (same.0, order_self q.key) refl
by_two p q ways.Pass none = absurd none
by_two p q ways.OpenOld none = absurd none
by_two p q ways.OpenNew none = absurd none
by_two p q ways.End none = absurd none

by_first : (ps qs : List Pair) (p q : Option Pair) (way : Onward) → FirstPair ps p →
    FirstPair qs q → ComesTo p q way → merged way ≡ by_pairs ps qs
by_first ps qs None None way none none' comes = rw (none, none', comes) refl
by_first ps qs (Some p) None way some none comes = rw (some.1, none, comes) refl
by_first ps qs None (Some q) way none some comes = rw (none, some.1, comes) refl
by_first ps qs (Some p) (Some q) way some some' comes =
    rw (some.1, some'.1) (by_two p q way comes)

both_ready : (ps : List Pair) (ds : List Due) (qs : List Pair) (es : List Due) →
    (ps ≡ [] → ds ≡ []) → (qs ≡ [] → es ≡ []) → rule ps ds qs es ≡ by_pairs ps qs
both_ready [] (d ∷ ds) qs es ready ready' = no_cons _ _ (ready refl)
both_ready [] [] [] (e ∷ es) ready ready' = no_cons _ _ (ready' refl)
both_ready [] [] [] [] ready ready' = refl
both_ready [] [] (q ∷ qs) es ready ready' = refl
both_ready (p ∷ ps) ds [] (e ∷ es) ready ready' = no_cons _ _ (ready' refl)
both_ready (p ∷ ps) ds [] [] ready ready' = refl
both_ready (p ∷ ps) ds (q ∷ qs) es ready ready' = refl

unlike : (d e : Due) (ds es : List Due) → (BeginAlike (record { pairs = []; due = d ∷ ds })
    (record { pairs = []; due = e ∷ es }) → ⊥) → bytes_eq d.reference e.reference ≡ false
unlike d e ds es none = false_from_ne_true (bytes_eq d.reference e.reference) (λ h. none (record {
  first = d;
  second = e;
  due = ds;
  due' = es;
  before_is = refl;
  after_is = refl;
  same = (bytes_eq-Decides d.reference e.reference).0 h;
}))

old_next : (ps : List Pair) (ds : List Due) (qs : List Pair) (es : List Due) →
    IsOnward (record { pairs = ps; due = ds }) (record { pairs = qs; due = es }) ways.OpenOld →
    rule ps ds qs es ≡ ways.OpenOld
old_next (p ∷ ps) ds qs es on = no_cons _ _ on.0.0
old_next [] [] qs es on = absurd (omega (arith, on.0.1))
old_next [] (d ∷ ds) (q ∷ qs) es on = refl
old_next [] (d ∷ ds) [] [] on = refl
old_next [] (d ∷ ds) [] (e ∷ es) on = rw (unlike d e ds es on.1) (by_bound on.2)
  where
    by_bound : IsReady (record { pairs = []; due = e ∷ es }) ⊎ (e.bound ≤ d.bound) →
        (if nat_lt d.bound e.bound then ways.OpenNew else ways.OpenOld) ≡ ways.OpenOld
    by_bound (inl ready) = no_cons _ _ (ready refl)
    by_bound (inr low) = rw (le-ltb d.bound e.bound low) refl

new_next : (ps : List Pair) (ds : List Due) (qs : List Pair) (es : List Due) →
    IsOnward (record { pairs = ps; due = ds }) (record { pairs = qs; due = es }) ways.OpenNew →
    rule ps ds qs es ≡ ways.OpenNew
new_next ps ds (q ∷ qs) es on = no_cons _ _ on.0.0
new_next ps ds [] [] on = absurd (omega (arith, on.0.1))
new_next (p ∷ ps) ds [] (e ∷ es) on = refl
new_next [] [] [] (e ∷ es) on = refl
new_next [] (d ∷ ds) [] (e ∷ es) on = rw (unlike d e ds es on.1) (by_bound on.2)
  where
    by_bound : IsReady (record { pairs = []; due = d ∷ ds }) ⊎ (d.bound < e.bound) →
        (if nat_lt d.bound e.bound then ways.OpenNew else ways.OpenOld) ≡ ways.OpenNew
    by_bound (inl ready) = no_cons _ _ (ready refl)
    by_bound (inr low) = rw (lt-ltb d.bound e.bound low) refl

both_next : (before after : Left) → BeginAlike before after →
    rule before.pairs before.due after.pairs after.due ≡ ways.Pass
both_next before after a = rw (
  a.before_is,
  a.after_is,
  a.same,
  (bytes_eq-Decides a.second.reference a.second.reference).1 refl,
) refl

pairs_next : (before after : Left) (way : Onward) → GoesByPairs before after way →
    merged way ≡ rule before.pairs before.due after.pairs after.due
pairs_next before after way g =
    by_first before.pairs after.pairs g.p g.q way g.first g.second g.comes ∙
    sym (both_ready before.pairs before.due after.pairs after.due g.before_ready g.after_ready)

abbrev rule_at : Lefts → Onward
rule_at lefts = rule lefts.before.pairs lefts.before.due lefts.after.pairs lefts.after.due

-- ---- the moves

abbrev way_of : Move → Onward
way_of (Move.ReadsOld chunk) = ways.OpenOld
way_of (Move.ReadsNew chunk) = ways.OpenNew
way_of Move.PassesBoth = ways.Pass
way_of Move.SkipsBoth = ways.Skip
way_of (Move.Gives (Removed pair)) = ways.Removed
way_of (Move.Gives (Added pair)) = ways.Added
way_of (Move.Gives (Changed pair other)) = ways.Changed

module _ (version : Version) where
  move_is : (old : Lefts) (move : Move) (new : Lefts) → IsMove version old move new →
      merged (way_of move) ≡ rule_at old
  move_is old (Move.ReadsOld chunk) new m =
      sym (old_next old.before.pairs old.before.due old.after.pairs old.after.due m.3)
  move_is old (Move.ReadsNew chunk) new m =
      sym (new_next old.before.pairs old.before.due old.after.pairs old.after.due m.3)
  move_is old Move.PassesBoth new m = sym (both_next old.before old.after m.0)
  move_is old Move.SkipsBoth new m = pairs_next old.before old.after ways.Skip m.4
  move_is old (Move.Gives (Removed pair)) new m = pairs_next old.before old.after ways.Removed m.2
  move_is old (Move.Gives (Added pair)) new m = pairs_next old.before old.after ways.Added m.2
  move_is old (Move.Gives (Changed pair other)) new m =
      pairs_next old.before old.after ways.Changed m.2

  -- the same was taken, or read
  one_left : (l m : Left) → l.pairs ≡ m.pairs → l.due ≡ m.due → l ≡ m
  one_left l m e f = ap (λ ps. at ps l.due) e ∙ ap (at m.pairs) f
    where
      at : List Pair → List Due → Left
      at pairs due = record { pairs = pairs; due = due }

  one_taken : (old new other : Left) (p q : Pair) → Takes old p new → Takes old q other →
      new ≡ other
  one_taken old new other p q t u =
      one_left new other (tail_is _ _ _ _ (sym t.0 ∙ u.0)) (t.1 ∙ sym u.1)

  one_opened : (old new other : Left) (o : Opens version old new) (r : Opens version old other) →
      o.chunk ≡ r.chunk → new ≡ other
  one_opened old new other o r same = o.is ∙
      ap (λ c. opened (level_of c) (kind_of version c) o.due) same ∙
      ap (opened (level_of r.chunk) (kind_of version r.chunk))
      (tail_is _ _ _ _ (ap (λ l. l.due) (sym o.was ∙ r.was))) ∙ sym r.is

  one_passed : (before after other other' : Left) (a b : BeginAlike before after) →
      other ≡ record { pairs = []; due = a.due } → other' ≡ record { pairs = []; due = b.due } →
      other ≡ other'
  one_passed before after other other' a b e f = e ∙
      ap (λ ds. record { pairs = []; due = ds })
      (tail_is _ _ _ _ (ap (λ l. l.due) (sym a.before_is ∙ b.before_is))) ∙ sym f

  one_passed_after : (before after other other' : Left) (a b : BeginAlike before after) →
      other ≡ record { pairs = []; due = a.due' } → other' ≡ record { pairs = []; due = b.due' } →
      other ≡ other'
  one_passed_after before after other other' a b e f = e ∙
      ap (λ ds. record { pairs = []; due = ds })
      (tail_is _ _ _ _ (ap (λ l. l.due) (sym a.after_is ∙ b.after_is))) ∙ sym f

-- ---- in two files

-- what is left of both trees, and where it stands
record At : Type 0 where
  pub lefts : Lefts
  pub due : List DueAt
  pub due' : List DueAt

one_at : (a b : At) → a.lefts.before ≡ b.lefts.before → a.lefts.after ≡ b.lefts.after →
    a.due ≡ b.due → a.due' ≡ b.due' → a ≡ b
one_at a b e f g h = ap (λ l. at l a.lefts.after a.due a.due') e ∙
    ap (λ l. at b.lefts.before l a.due a.due') f ∙
    ap (λ d. at b.lefts.before b.lefts.after d a.due') g ∙
    ap (at b.lefts.before b.lefts.after b.due) h
  where
    at : Left → Left → List DueAt → List DueAt → At
    at before after due due' =
        record { lefts = record { before = before; after = after }; due = due; due' = due' }

module _ (version : Version) (old new : ChunkFile) where
  abbrev Steps : Move → At → At → Type 0
  Steps move s t = IsMove version s.lefts move t.lefts ×
      ComesBy version old (old_steps (move ∷ [])) s.due t.due ×
      ComesBy version new (new_steps (move ∷ [])) s.due' t.due'

  -- both first pairs are taken
  abbrev TakesPairs : At → At → Type 0
  TakesPairs s t = (p : Pair) × (q : Pair) × Takes s.lefts.before p t.lefts.before ×
      Takes s.lefts.after q t.lefts.after × (s.due ≡ t.due) × (s.due' ≡ t.due')

  -- what is done where it goes on so
  abbrev Does : Onward → At → At → Type 0
  Does ways.Pass s t = Steps Move.PassesBoth s t
  Does ways.OpenOld s t = (chunk : List ℕ) × Steps (Move.ReadsOld chunk) s t
  Does ways.OpenNew s t = (chunk : List ℕ) × Steps (Move.ReadsNew chunk) s t
  Does ways.Skip s t = TakesPairs s t
  Does ways.Removed s t = (p : Pair) × Steps (Move.Gives (Removed p)) s t
  Does ways.Added s t = (q : Pair) × Steps (Move.Gives (Added q)) s t
  Does ways.Changed s t = TakesPairs s t
  Does ways.End s t = ⊥

  does : (move : Move) (s t : At) → Steps move s t → Does (merged (way_of move)) s t
  does (Move.ReadsOld chunk) s t h = (chunk, h)
  does (Move.ReadsNew chunk) s t h = (chunk, h)
  does Move.PassesBoth s t h = h
  does Move.SkipsBoth s t h = (h.0.0, h.0.1, h.0.2, h.0.3, h.1, h.2)
  does (Move.Gives (Removed p)) s t h = (p, h)
  does (Move.Gives (Added q)) s t h = (q, h)
  does (Move.Gives (Changed p q)) s t h = (p, q, h.0.0, h.0.1, h.1, h.2)

  one_behind : (s t u : At) → Steps Move.PassesBoth s t → Steps Move.PassesBoth s u → t ≡ u
  one_behind s t u h k = one_at t u (one_passed version s.lefts.before s.lefts.after t.lefts.before
      u.lefts.before h.0.0 k.0.0 h.0.1 k.0.1) (one_passed_after version s.lefts.before s.lefts.after
      t.lefts.after u.lefts.after h.0.0 k.0.0 h.0.2 k.0.2)
      (sym h.1.3 ∙ (tail_is _ _ _ _ (sym h.1.2 ∙ k.1.2)) ∙ k.1.3)
      (sym h.2.3 ∙ (tail_is _ _ _ _ (sym h.2.2 ∙ k.2.2)) ∙ k.2.3)

  one_pair : (s t u : At) → TakesPairs s t → TakesPairs s u → t ≡ u
  one_pair s t u h k = one_at t u
      (one_taken version s.lefts.before t.lefts.before u.lefts.before h.0 k.0 h.2 k.2)
      (one_taken version s.lefts.after t.lefts.after u.lefts.after h.1 k.1 h.3 k.3)
      (sym h.4 ∙ k.4) (sym h.5 ∙ k.5)

  one_by : (way : Onward) (s t u : At) → Does way s t → Does way s u → t ≡ u
  one_by ways.OpenOld s t u (c, h) (d, k) =
      let read = one_read version old c d s.due h.1.0 k.1.0 h.1.1 k.1.1 in
      one_at t u (one_opened version s.lefts.before t.lefts.before u.lefts.before h.0.0 k.0.0
      (sym h.0.1 ∙ read.0 ∙ k.0.1)) (h.0.2 ∙ sym k.0.2) (sym h.1.2 ∙ read.1 ∙ k.1.2)
      (sym h.2 ∙ k.2)
  one_by ways.OpenNew s t u (c, h) (d, k) =
      let read = one_read version new c d s.due' h.2.0 k.2.0 h.2.1 k.2.1 in
      one_at t u (h.0.2 ∙ sym k.0.2) (one_opened version s.lefts.after t.lefts.after u.lefts.after
      h.0.0 k.0.0 (sym h.0.1 ∙ read.0 ∙ k.0.1)) (sym h.1 ∙ k.1) (sym h.2.2 ∙ read.1 ∙ k.2.2)
  one_by ways.Pass s t u h k = one_behind s t u h k
  one_by ways.End s t u h k = absurd h
  one_by ways.Removed s t u (p, h) (q, k) = one_at t u (one_taken version s.lefts.before
      t.lefts.before u.lefts.before p q h.0.0 k.0.0) (h.0.1 ∙ sym k.0.1) (sym h.1 ∙ k.1)
      (sym h.2 ∙ k.2)
  one_by ways.Added s t u (p, h) (q, k) = one_at t u (h.0.1 ∙ sym k.0.1) (one_taken version
      s.lefts.after t.lefts.after u.lefts.after p q h.0.0 k.0.0) (sym h.1 ∙ k.1) (sym h.2 ∙ k.2)
  one_by ways.Skip s t u h k = one_pair s t u h k
  one_by ways.Changed s t u h k = one_pair s t u h k

  abbrev Goes : At → At → Type 0
  Goes s t = (move : Move) × Steps move s t

  -- a step is that of the rule
  by_rule : (s t : At) → Goes s t → Does (rule_at s.lefts) s t
  by_rule s t g = subst (λ way. Does way s t) (move_is version s.lefts g.0 t.lefts g.1.0)
      (does g.0 s t g.1)

  one_step : (s t u : At) → Goes s t → Goes s u → t ≡ u
  one_step s t u g h = one_by (rule_at s.lefts) s t u (by_rule s t g) (by_rule s u h)

  abbrev Stops : RootDiffFault → At → Type 0
  Stops fault s = StopsIn version old new s.lefts s.due s.due' fault

  no_step : (fault : RootDiffFault) (s t : At) → Stops fault s → Goes s t → ⊥
  no_step (faults.Old fault) s t stops g =
      let is = old_next s.lefts.before.pairs s.lefts.before.due s.lefts.after.pairs
      s.lefts.after.due stops.0 in
      let reads : Does ways.OpenOld s t = subst (λ way. Does way s t) is (by_rule s t g) in
      no_read version old reads.0 s.due reads.1.1.0 fault stops.1 reads.1.1.1
  no_step (faults.New fault) s t stops g =
      let is = new_next s.lefts.before.pairs s.lefts.before.due s.lefts.after.pairs
      s.lefts.after.due stops.0 in
      let reads : Does ways.OpenNew s t = subst (λ way. Does way s t) is (by_rule s t g) in
      no_read version new reads.0 s.due' reads.1.2.0 fault stops.1 reads.1.2.1
  no_step faults.Memory s t stops g = stops
  no_step faults.Stopped s t stops g = stops

  two_ways : (lefts : Lefts) → IsOnward lefts.before lefts.after ways.OpenOld →
      IsOnward lefts.before lefts.after ways.OpenNew → ⊥
  two_ways lefts on on' = differ (sym (old_next lefts.before.pairs lefts.before.due
      lefts.after.pairs lefts.after.due on) ∙ new_next lefts.before.pairs lefts.before.due
      lefts.after.pairs lefts.after.due on')
    where
      differ : ways.OpenOld ≡ ways.OpenNew → ⊥
      differ e = cc

  one_end_there : (fault other : RootDiffFault) (s : At) → Stops fault s → Stops other s →
      fault ≡ other
  one_end_there (faults.Old f) (faults.Old g) s h k =
      ap faults.Old (one_stop version old s.due f g h.1 k.1)
  one_end_there (faults.New f) (faults.New g) s h k =
      ap faults.New (one_stop version new s.due' f g h.1 k.1)
  one_end_there (faults.Old f) (faults.New g) s h k = absurd (two_ways s.lefts h.0 k.0)
  one_end_there (faults.New f) (faults.Old g) s h k = absurd (two_ways s.lefts k.0 h.0)
  one_end_there faults.Memory other s h k = absurd h
  one_end_there faults.Stopped other s h k = absurd h
  one_end_there (faults.Old f) faults.Memory s h k = absurd k
  one_end_there (faults.Old f) faults.Stopped s h k = absurd k
  one_end_there (faults.New f) faults.Memory s h k = absurd k
  one_end_there (faults.New f) faults.Stopped s h k = absurd k

  -- ---- from the roots

  first_steps : (file : ChunkFile) (steps more : List TreeStep) (from to : List DueAt) →
      ComesBy version file (steps ++ more) from to →
      (mid : List DueAt) × ComesBy version file steps from mid × ComesBy version file more mid to
  first_steps file [] more from to comes = (from, refl, comes)
  first_steps file (TreeStep.Reads chunk ∷ steps) more from to comes =
      let rest = first_steps file steps more comes.0 to comes.2 in
      (rest.0, (comes.0, comes.1, rest.1), rest.2)
  first_steps file (TreeStep.Passes ∷ steps) more from to comes =
      let rest = first_steps file steps more comes.1 to comes.3 in
      (rest.0, (comes.0, comes.1, comes.2, rest.1), rest.2)

  path_of : (way : List Move) (s t : At) → Leads version s.lefts way t.lefts →
      ComesBy version old (old_steps way) s.due t.due →
      ComesBy version new (new_steps way) s.due' t.due' → (steps : List At) × IsPath Goes s steps t
  path_of [] s t lead comes comes' =
      ([], one_at s t (ap (λ l. l.before) lead) (ap (λ l. l.after) lead) comes comes')
  path_of (move ∷ way) s t lead comes comes' =
      let by = first_steps old (old_steps (move ∷ [])) (old_steps way) s.due t.due
      (subst (λ steps. ComesBy version old steps s.due t.due) (old_on (move ∷ []) way) comes) in
      let by' = first_steps new (new_steps (move ∷ [])) (new_steps way) s.due' t.due'
      (subst (λ steps. ComesBy version new steps s.due' t.due') (new_on (move ∷ []) way) comes') in
      let mid : At = record { lefts = lead.0; due = by.0; due' = by'.0 } in
      let rest = path_of way mid t lead.2 by.2 by'.2 in
      (mid ∷ rest.0, ((move, (lead.1, by.1, by'.1)), rest.1))

  -- ---- where nothing is left

  abbrev Ended : At → Type 0
  Ended s = IsAtEnd s.lefts.before × IsAtEnd s.lefts.after

  no_more : (s t : At) → Ended s → Goes s t → ⊥
  no_more s t ended g =
      let at_end : rule_at s.lefts ≡ ways.End =
      rw (ended.0.0, ended.0.1, ended.1.0, ended.1.1) refl in
      subst (λ way. Does way s t) at_end (by_rule s t g)

  not_stopped : (fault : RootDiffFault) (s : At) → Ended s → Stops fault s → ⊥
  not_stopped (faults.Old f) s ended stops = omega (arith, stops.0.0.1, ap length ended.0.1)
  not_stopped (faults.New f) s ended stops = omega (arith, stops.0.0.1, ap length ended.1.1)
  not_stopped faults.Memory s ended stops = stops
  not_stopped faults.Stopped s ended stops = stops

abbrev start_at : List ℕ → List ℕ → At
start_at root root' =
    record { lefts = at_roots root root'; due = tree_at root; due' = tree_at root' }

one_walk_fault : (version : Version) (old new : ChunkFile) (root root' : List ℕ)
    (fault other : RootDiffFault) → IsWalkFault version old new root root' fault →
    IsWalkFault version old new root root' other → fault ≡ other
one_walk_fault version old new root root' fault other f g =
    let start = start_at root root' in
    let end : At = record { lefts = f.lefts; due = f.due; due' = f.due' } in
    let end' : At = record { lefts = g.lefts; due = g.due; due' = g.due' } in
    let path = path_of version old new f.way start end f.walks.lead f.walks.comes f.walks.comes' in
    let path' = path_of version old new g.way start end' g.walks.lead g.walks.comes g.walks.comes' in
    one_end_there version old new fault other end' (subst (Stops version old new fault)
    (one_end (Goes version old new) (one_step version old new) (Stops version old new fault)
    (Stops version old new other) (no_step version old new fault) (no_step version old new other)
    start path.0 path'.0 end end' path.1 path'.1 f.stops g.stops) f.stops) g.stops

no_walk_fault : (version : Version) (old new : ChunkFile) (root root' : List ℕ)
    (fault : RootDiffFault) → HasAllOfWalk version old new root root' →
    IsWalkFault version old new root root' fault → ⊥
no_walk_fault version old new root root' fault has f =
    let start = start_at root root' in
    let end : At = record { lefts = f.lefts; due = f.due; due' = f.due' } in
    let last : At = record { lefts = has.lefts; due = has.due; due' = has.due' } in
    let path = path_of version old new f.way start end f.walks.lead f.walks.comes f.walks.comes' in
    let path' = path_of version old new has.way start last has.walks.lead has.walks.comes
    has.walks.comes' in
    not_stopped version old new fault last has.at_end (subst (Stops version old new fault)
    (one_end (Goes version old new) (one_step version old new) (Stops version old new fault)
    (Ended version old new) (no_step version old new fault) (no_more version old new) start path.0
    path'.0 end last path.1 path'.1 f.stops has.at_end) f.stops)

pub walk_faults_are_one : WalkFaultsAreOne
walk_faults_are_one = record { one = one_walk_fault; none = no_walk_fault }
