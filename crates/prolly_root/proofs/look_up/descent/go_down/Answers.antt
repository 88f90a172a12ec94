use Rattle.std.proofs.Common.{Err, Ok, [], ◌∷◌, ◌++◌, inl, refl, sym, subst, ◌∙◌, ap}
use Rattle.std.specs.List.{AllByRecursion}
use Rattle.prolly_look_up.specs.Sought.{sought_of}
use Rattle.prolly_look_up.specs.Way.{IsNamed}
use Rattle.prolly_entry.specs.lemmas.Lists.{all_append}
use Rattle.prolly_root.specs.Descent.{GoesOnAt, IsKeptOf, IsOnward, IsTested, chunks_on_way}
use Rattle.prolly_root.specs.LookUpFault.{at_root}
use Rattle.prolly_root.specs.declared.root_fault.RootFault.TheVariants.{Memory}
use Rattle.prolly_root.proofs.Descending.{Descended, asked_on, handed_on, less_room, next_kept}
use Rattle.prolly_root.proofs.Descending.{one_more, one_passed, way_ends}
use Rattle.prolly_root.proofs.FaultSteps.{at_kept, comes_on, comes_to_end, has_due, stops}
use Rattle.prolly_root.proofs.look_up.descent.go_down.Goals as goal

pub chunk_at-requires : goal.chunk_at-requires
chunk_at-requires g c = (next_kept (IsTested c.args.version) _ _ _ c.next.ensures.items
    c.loop-levels.invariant.kept).0

pub returns-in_err-chunk : goal.returns-in_err-chunk
returns-in_err-chunk g c =
    let before = c.loop-levels.invariant in
    let fault = c.in_err-chunk.field-0.0 in
    rw (handed_on fault c.from_residual.result c.from_residual.ensures) (record {
      found = tt;
      tells = λ file goes top keeps.
          let come = before.tells file goes top keeps in
          stops g.S.ChunkSource.stands c.args.version file _ _ come
          (c.in_err-chunk.ensures.tells file come.at (before.asked.0 file goes)
          (next_kept (IsKeptOf g.S.ChunkSource.stands file) _ _ _ c.next.ensures.items
          come.kept_there).0 come.due_at);
      asked = asked_on {T = Unit {0}} g.S.ChunkSource.goes_over g.S.ChunkSource.failures (Err fault)
          before.asked
          c.in_err-chunk.ensures.asked;
    })

pub returns-in_err-onward : goal.returns-in_err-onward
returns-in_err-onward g c =
    let before = c.loop-levels.invariant in
    let at = c.in_ok-chunk.ensures in
    let stepped = c.in_err-onward.ensures in
    let fault = c.in_err-onward.field-0.0 in
    let over = g.S.ChunkSource.goes_over in
    let failures = g.S.ChunkSource.failures in
    rw (handed_on fault c.from_residual-in_err-onward.result
    c.from_residual-in_err-onward.ensures) (record {
      found = tt;
      tells = λ file goes top keeps.
          let stands = g.S.ChunkSource.stands in
          let come = before.tells file goes top keeps in
          let there = at.tells file come.at (before.asked.0 file goes)
          (next_kept (IsKeptOf stands file) _ _ _ c.next.ensures.items come.kept_there).0
          come.due_at in
          let due = has_due stands c.args.version file _ _ come at.is there in
          stops stands c.args.version file _ _ come
          (stepped.tells file come.at (at.asked.0 file (before.asked.0 file goes)) there due
          come.due_at.sought).1;
      asked = asked_on {T = Unit {0}} over failures (Err fault)
          (asked_on {T = Unit {0}} over failures (Ok tt) before.asked at.asked) stepped.asked;
    })

pub returns-in_err-keep : goal.returns-in_err-keep
returns-in_err-keep g c =
    let over = g.S.ChunkSource.goes_over in
    let failures = g.S.ChunkSource.failures in
    rw (handed_on Memory c.from_residual-in_err-keep.result
    c.from_residual-in_err-keep.ensures) (record {
      found = tt;
      tells = λ file goes top keeps. inl (inl refl);
      asked = asked_on {T = Unit {0}} over failures (Ok tt)
          (asked_on {T = Unit {0}} over failures (Ok tt)
          c.loop-levels.invariant.asked c.in_ok-chunk.ensures.asked) c.in_ok-onward.ensures.asked;
    })

pub returns-in-End-clause-found : goal.returns-in-End-clause-found
returns-in-End-clause-found g c =
    let version = c.args.version in
    let before = c.loop-levels.invariant in
    let above = c.loop-levels.levels.items in
    let due = c.loop-levels.due in
    let chunk = c.in_ok-chunk.chunk in
    let is = c.in_ok-chunk.ensures.is in
    let stepped = c.in_ok-onward.ensures in
    let more = c.in_ok-keep.ensures in record {
      to = record {
        way = way_ends before.way
            (subst (λ r. IsNamed version r.0 chunk.chunk.items) is.reference is.is.named) is.falls
            (subst (IsOnward version (sought_of due.sought) chunk.chunk.items) c.in-End.is
            stepped.is) (chunks_on_way c.keep.new.levels.items)
            (one_more above c.keep.new.levels.items c.step.new.self more ∙
            ap (λ chunk. chunks_on_way above ++ chunk.items ∷ []) stepped.stays.1);
        there_is = refl;
      };
      all = subst (AllByRecursion (IsTested version)) (sym more)
          (all_append (IsTested version) above (c.step.new.self ∷ []) before.tested
          (stepped.level, tt));
    }

pub returns-in-End-clause-tells : goal.returns-in-End-clause-tells
returns-in-End-clause-tells g c file goes top keeps =
    let stands = g.S.ChunkSource.stands in
    let P = IsKeptOf stands file in
    let before = c.loop-levels.invariant in
    let at = c.in_ok-chunk.ensures in
    let come = before.tells file goes top keeps in
    let there = at.tells file come.at (before.asked.0 file goes)
    (next_kept P _ _ _ c.next.ensures.items come.kept_there).0 come.due_at in
    let due = has_due stands c.args.version file _ _ come at.is there in
    let later = c.in_ok-onward.ensures.tells file come.at
    (at.asked.0 file (before.asked.0 file goes)) there
    due come.due_at.sought in (
      subst (AllByRecursion P) (sym c.in_ok-keep.ensures)
          (all_append P c.loop-levels.levels.items (c.step.new.self ∷ []) come.met_there
          (at_kept later.0, tt)),
      comes_to_end stands c.args.version file _ _ come due there
          (subst (IsOnward c.args.version (sought_of c.loop-levels.due.sought)
          c.in_ok-chunk.chunk.chunk.items) c.in-End.is c.in_ok-onward.ensures.is),
    )

pub loop-levels-preserved : goal.loop-levels-preserved
loop-levels-preserved g c =
    let version = c.args.version in
    let root = c.args.root.now.0 in
    let before = c.loop-levels.invariant in
    let above = c.loop-levels.levels.items in
    let due = c.loop-levels.due in
    let chunk = c.in_ok-chunk.chunk in
    let is = c.in_ok-chunk.ensures.is in
    let stepped = c.in_ok-onward.ensures in
    let more = c.in_ok-keep.ensures in
    let on = subst (IsOnward version (sought_of due.sought) chunk.chunk.items) c.in-Below.is
    stepped.is in record {
      way = subst
          (λ chunks. Descended version root (sought_of c.args.sought) chunks c.in-Below.next) (ap
          (λ chunk. chunks_on_way above ++ chunk.items ∷ []) (sym stepped.stays.1) ∙
          sym (one_more above c.keep.new.levels.items c.step.new.self more))
          (one_passed before.way
          (subst (λ r. IsNamed version r.0 chunk.chunk.items) is.reference is.is.named) is.falls
          c.in-Below.next on.0 on.1);
      tested = subst (AllByRecursion (IsTested version)) (sym more)
          (all_append (IsTested version) above (c.step.new.self ∷ []) before.tested
          (stepped.level, tt));
      kept = (next_kept (IsTested version) _ _ _ c.next.ensures.items before.kept).1;
      asked = asked_on {T = Unit {0}} g.S.ChunkSource.goes_over g.S.ChunkSource.failures (Ok tt)
          (asked_on {T = Unit {0}} g.S.ChunkSource.goes_over g.S.ChunkSource.failures (Ok tt)
          before.asked
          c.in_ok-chunk.ensures.asked) stepped.asked;
      tells = λ file goes top keeps.
          let stands = g.S.ChunkSource.stands in
          let P = IsKeptOf stands file in
          let at = c.in_ok-chunk.ensures in
          let come = before.tells file goes top keeps in
          let next = next_kept P _ _ _ c.next.ensures.items come.kept_there in
          let there = at.tells file come.at (before.asked.0 file goes) next.0 come.due_at in
          let due = has_due stands version file _ _ come at.is there in
          let later = stepped.tells file come.at (at.asked.0 file (before.asked.0 file goes)) there
          due
          come.due_at.sought in
          comes_on stands version file _ _ come
          (subst (GoesOnAt stands version file come.at) c.in-Below.is later.1)
          (subst (AllByRecursion P) (sym more) (all_append P above (c.step.new.self ∷ [])
          come.met_there (at_kept later.0, tt))) next.1;
    }

pub loop-levels-init : goal.loop-levels-init
loop-levels-init g c = rw (c.new-levels.ensures.items, c.into_iter-kept.ensures.rest) (record {
  way = record { lead = (refl, refl); down = tt; above = refl };
  tested = tt;
  kept = c.requires;
  asked = (λ file goes. goes, refl);
  tells = λ file goes top keeps. record {
    steps = [];
    at = at_root file c.args.root.now.0 (sought_of c.args.sought);
    leads = refl;
    due_at = record { reference = refl; above = refl; sought = refl; stands_there = top };
    met_there = tt;
    kept_there = keeps;
  };
})

pub loop-levels-smaller : goal.loop-levels-smaller
loop-levels-smaller g c =
    let due = c.loop-levels.due in
    let chunk = c.in_ok-chunk.chunk.chunk.items in
    let is = c.in_ok-chunk.ensures.is in
    less_room due.above c.in-Below.next.above chunk is.is.named.bytes is.falls
    (subst (IsOnward c.args.version (sought_of due.sought) chunk) c.in-Below.is
    c.in_ok-onward.ensures.is).1

pub returns-in-End-clause-asked : goal.returns-in-End-clause-asked
returns-in-End-clause-asked g c =
    asked_on {T = Unit {0}} g.S.ChunkSource.goes_over g.S.ChunkSource.failures (Ok tt)
    (asked_on {T = Unit {0}} g.S.ChunkSource.goes_over g.S.ChunkSource.failures (Ok tt)
    c.loop-levels.invariant.asked c.in_ok-chunk.ensures.asked) c.in_ok-onward.ensures.asked
