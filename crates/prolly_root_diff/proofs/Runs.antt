-- The way of a walk, and what it gives of two maps.
use Rattle.std.proofs.Common.{◌≡◌, ℕ, ◌⊎◌, inl, inr, List, [], ◌∷◌, ◌++◌, Option, None, Some, map}
use Rattle.std.proofs.Common.{refl, sym, ap, ◌∙◌, subst}
use Rattle.std.specs.List.{AllByRecursion}
use Rattle.prolly_entry.specs.Pair.{Pair}
use Rattle.prolly_entry.specs.Record.{Record}
use Rattle.prolly_entry.specs.lemmas.RisingRecords.{AllAbove, is_rising}
use Rattle.prolly_entry.specs.declared.version.Version.{Version}
use Rattle.prolly_look_up.specs.MapTree.{RootIsTree}
use Rattle.prolly_look_up.specs.Way.{Clash, level_of}
use Rattle.prolly_tree.specs.lemmas.Trees.{in_back, in_front}
use Rattle.prolly_tree.specs.LookUp.{find}
use Rattle.prolly_tree.specs.lemmas.Differences.{some_difference}
use Rattle.prolly_tree.specs.Walks.{AreAlike, AreMaps, IsFirstChange, Maps}
use Rattle.prolly_tree.specs.lemmas.Walks.{added, alike_more, alike_none, alike_one, changed}
use Rattle.prolly_tree.specs.lemmas.Walks.{maps_behind, no_change, removed}
use Rattle.prolly_root_diff.specs.Left.{IsLeft, Left, Opens, OpensFirst, PassBy}
use Rattle.prolly_root_diff.specs.Walks.{AreChangesOf, Clashing, IsReady, Leads, Lefts}
use Rattle.prolly_root_diff.specs.Walks.{Move, TakesChange, WalksAreRight, before_of, changes_on}
use Rattle.prolly_root_diff.specs.Walks.{read_on, record_of}
use Rattle.prolly_root_diff.specs.declared.change.RootChange.{RootChange}
use Rattle.prolly_root_diff.specs.declared.change.RootChange.TheVariants.{Added, Changed, Removed}
use Rattle.prolly_root_diff.specs.declared.onward.Onward.TheVariants as ways
use Rattle.prolly_root_diff.proofs.Clashes.{both_clash, more_last, read_clash}
use Rattle.prolly_root_diff.proofs.Opening.{begins_at_root}
use Rattle.prolly_root_diff.proofs.Passing.{passes_equal}
use Rattle.prolly_root_diff.proofs.Taking.{AreLeft, LeastThere, TakesFirst, adds_first, both_come}
use Rattle.prolly_root_diff.proofs.Taking.{least_there, nothing, removes_first}

-- one change before the others
module _ (maps rest : Maps) (change : RootChange) (changes : List RootChange) (new : Lefts)
    (f : IsFirstChange maps (record_of change).key (before_of change) (record_of change).value rest)
    (so : AreChangesOf rest.before rest.after changes new) where
  had_before : (cs : List RootChange) (more : List Record) →
      AllAbove (record_of change).key (map record_of cs ++ more) →
      AllByRecursion (λ c. find rest.before (record_of c).key ≡ before_of c) cs →
      AllByRecursion (λ c. find maps.before (record_of c).key ≡ before_of c) cs
  had_before [] more above had = tt
  had_before (c ∷ cs) more above had = (
    f.greater (record_of c).key above.0 ∙ had.0,
    had_before cs more above.1 had.1,
  )

  first_given : AreChangesOf maps.before maps.after (change ∷ changes) new
  first_given =
      let all = f.begins (map record_of changes ++ so.first.more) so.first.is in record {
        first = record { more = so.first.more; is = all };
        all = λ at_end at_end'. f.begins (map record_of changes) (so.all at_end at_end');
        before = (
          f.before_is,
          had_before changes so.first.more (is_rising (record_of change ∷ (map record_of changes ++
              so.first.more)) all.rising).0 so.before,
        );
      }

module _ (law : OpensFirst) (version : Version) (cs ds : List (List ℕ)) where
  abbrev Given : Maps → List RootChange → Lefts → List (List ℕ) → Type 0
  Given maps changes new read =
      AreChangesOf maps.before maps.after changes new ⊎ Clashing read (cs ++ ds)

  -- what is left of a tree stays where a chunk is read
  opens : (old new : Left) (o : Opens version old new) (all : List (List ℕ)) (pairs : List Pair) →
      IsLeft version all pairs old → IsLeft version all pairs new ⊎ Clash (o.chunk ∷ []) all
  opens old new o all pairs left =
      subst (λ l. IsLeft version all pairs l ⊎ Clash (o.chunk ∷ []) all) (sym o.is)
      (law version all pairs o.first o.due o.chunk (level_of o.chunk)
      (subst (IsLeft version all pairs) o.was left) o.named)

  -- a clash is one of a longer way, too
  read_one : (chunk : List ℕ) (maps : Maps) (changes : List RootChange) (new : Lefts)
      (read : List (List ℕ)) → Given maps changes new read → Given maps changes new (chunk ∷ read)
  read_one chunk maps changes new read (inl so) = inl so
  read_one chunk maps changes new read (inr clash) =
      inr (more_last (chunk ∷ []) read (cs ++ ds) clash)

  -- a change was given, and what is left tells the others
  module _ (old mid new : Lefts) (maps at : Maps) (m : AreMaps maps) (alike : AreAlike maps at)
      (left : AreLeft version cs ds at old) (changes : List RootChange) (read : List (List ℕ))
      (further : (rest : Maps) → AreMaps rest → AreLeft version cs ds rest mid →
      Given rest changes new read) where
    least : (r s : Option Pair) → IsReady old.before × IsReady old.after →
        TakesFirst old r s mid → (r ≡ None → s ≡ None → ⊥) → LeastThere version cs ds at r s mid
    least r s ready t some =
        least_there version old mid ready cs ds at (maps_behind maps at alike m) left r s t some

    join : (change : RootChange) (rest : Maps) (f : IsFirstChange maps (record_of change).key
        (before_of change) (record_of change).value rest) → Given rest changes new read →
        Given maps (change ∷ changes) new read
    join change rest f (inl so) = inl (first_given maps rest change changes new f so)
    join change rest f (inr clash) = inr clash

    gives_one : (change : RootChange) → TakesChange old change mid →
        Given maps (change ∷ changes) new read
    gives_one (Removed p) t =
        let l = least (Some p) None (t.2.before_ready, t.2.after_ready)
        (removes_first old mid p t) (λ e f. cc) in
        let f = removed maps at l.rest p m alike l.takes in
        join (Removed p) l.rest f (further l.rest f.left l.left)
    gives_one (Added q) t =
        let l = least None (Some q) (t.2.before_ready, t.2.after_ready)
        (adds_first old mid q t) (λ e f. cc) in
        let f = added maps at l.rest q m alike l.takes in
        join (Added q) l.rest f (further l.rest f.left l.left)
    gives_one (Changed p q) t =
        let come = both_come old.before old.after ways.Changed t.2 p q mid.before mid.after t.0
        t.1 in
        let l = least (Some p) (Some q) (t.2.before_ready, t.2.after_ready) (t.0, t.1, come.0)
        (λ e f. cc) in
        let f = subst (λ key. IsFirstChange maps key (Some p.value) (Some q.value) l.rest) come.0
        (changed maps at l.rest p q m alike l.takes come.1) in
        join (Changed p q) l.rest f (further l.rest f.left l.left)

  gave : (way : List Move) (old new : Lefts) (maps mid : Maps) → AreMaps maps →
      AreAlike maps mid → AreLeft version cs ds mid old → Leads version old way new →
      Given maps (changes_on way) new (read_on way)
  gave [] old new maps mid m alike left lead =
      let d = some_difference maps.before maps.after m.0 m.1 in
      let l = subst (AreLeft version cs ds mid) lead left in inl (record {
        first = record { more = d.0; is = d.1 };
        all = λ at_end at_end'. (no_change maps mid (record { before = []; after = [] }) m alike (
          nothing version cs mid.before new.before l.0 at_end.0 (λ e. at_end.1),
          nothing version ds mid.after new.after l.1 at_end'.0 (λ e. at_end'.1),
          refl,
          refl,
        )).same;
        before = tt;
      })
  gave (Move.ReadsOld chunk ∷ way) old new maps mid m alike left lead =
      go (opens old.before lead.0.before lead.1.0 cs mid.before left.0)
      (λ is. gave way lead.0 new maps mid m alike
      (is, subst (IsLeft version ds mid.after) (sym lead.1.2) left.1) lead.2)
    where
      go : IsLeft version cs mid.before lead.0.before ⊎ Clash (lead.1.0.chunk ∷ []) cs →
          (IsLeft version cs mid.before lead.0.before →
          Given maps (changes_on way) new (read_on way)) →
          Given maps (changes_on way) new (chunk ∷ read_on way)
      go (inl is) further = read_one chunk maps (changes_on way) new (read_on way) (further is)
      go (inr clash) further = inr (read_clash cs (cs ++ ds) (λ c. in_front c cs ds) chunk (read_on way)
          (subst (λ c. Clash (c ∷ []) cs) (sym lead.1.1) clash))
  gave (Move.ReadsNew chunk ∷ way) old new maps mid m alike left lead =
      go (opens old.after lead.0.after lead.1.0 ds mid.after left.1)
      (λ is. gave way lead.0 new maps mid m alike
      (subst (IsLeft version cs mid.before) (sym lead.1.2) left.0, is) lead.2)
    where
      go : IsLeft version ds mid.after lead.0.after ⊎ Clash (lead.1.0.chunk ∷ []) ds →
          (IsLeft version ds mid.after lead.0.after →
          Given maps (changes_on way) new (read_on way)) →
          Given maps (changes_on way) new (chunk ∷ read_on way)
      go (inl is) further = read_one chunk maps (changes_on way) new (read_on way) (further is)
      go (inr clash) further = inr (read_clash ds (cs ++ ds) (λ c. in_back c cs ds) chunk (read_on way)
          (subst (λ c. Clash (c ∷ []) ds) (sym lead.1.1) clash))
  gave (Move.PassesBoth ∷ way) old new maps mid m alike left lead =
      let a = lead.1.0 in
      let n = maps_behind maps mid alike m in
      go (passes_equal version cs ds mid (a.first ∷ []) (a.second ∷ []) a.due a.due' n.0 n.1
      (ap (λ r. r ∷ []) a.same) (subst (IsLeft version cs mid.before) a.before_is left.0)
      (subst (IsLeft version ds mid.after) a.after_is left.1))
      (λ rest alike' l. gave way lead.0 new maps rest m alike' l lead.2)
    where
      go : PassBy version cs ds mid (record { pairs = []; due = lead.1.0.due })
          (record { pairs = []; due = lead.1.0.due' }) ⊎ Clash cs ds →
          ((rest : Maps) → AreAlike maps rest → AreLeft version cs ds rest lead.0 →
          Given maps (changes_on way) new (read_on way)) →
          Given maps (changes_on way) new (read_on way)
      go (inl p) further = further p.rest (alike_more maps mid p.rest alike p.alike) (
        subst (IsLeft version cs p.rest.before) (sym lead.1.1) p.before_is,
        subst (IsLeft version ds p.rest.after) (sym lead.1.2) p.after_is,
      )
      go (inr clash) further = inr (both_clash cs ds (read_on way) clash)
  gave (Move.SkipsBoth ∷ way) old new maps mid m alike left lead =
      let t = lead.1 in
      let come = both_come old.before old.after ways.Skip t.4 t.0 t.1 lead.0.before lead.0.after
      t.2 t.3 in
      let l = least_there version old lead.0 (t.4.before_ready, t.4.after_ready) cs ds mid
      (maps_behind maps mid alike m) left (Some t.0) (Some t.1) (t.2, t.3, come.0) (λ e f. cc) in
      gave way lead.0 new maps l.rest m (alike_more maps mid l.rest alike
      (alike_one mid l.rest t.0 t.1 l.takes come.1)) l.left lead.2
  gave (Move.Gives change ∷ way) old new maps mid m alike left lead =
      gives_one old lead.0 new maps mid m alike left (changes_on way) (read_on way)
      (λ rest n l. gave way lead.0 new rest rest n (alike_none rest) l lead.2) change lead.1

pub walks_are_right : RootIsTree → OpensFirst → WalksAreRight
walks_are_right root_is law version bits bits' m m' way rest rising lawful rising' lawful' lead =
    gave law version _ _ way _ rest (record { before = m; after = m' })
    (record { before = m; after = m' }) (rising, rising')
    (alike_none (record { before = m; after = m' })) (
      begins_at_root root_is version bits m rising lawful,
      begins_at_root root_is version bits' m' rising' lawful',
    ) lead
