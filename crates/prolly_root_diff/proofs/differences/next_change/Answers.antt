use Rattle.std.proofs.Common.{◌∙◌, [], arith, refl}
use Rattle.prolly_root_diff.proofs.Noting.{adds_new, adds_old, new_noted, none_noted, old_noted}
use Rattle.prolly_root_diff.specs.Sides.{left_of}
use Rattle.prolly_root_diff.proofs.Steps.{ends_there, passes_lighter, passes_move}
use Rattle.prolly_root_diff.proofs.Steps.{skips_lighter, skips_move, takes_nearer, takes_so}
use Rattle.prolly_root_diff.specs.lemmas.WalkParts.{file_stays, has_still, still_on, walks_none}
use Rattle.prolly_root_diff.proofs.FileSteps.{file_passes, file_stays_by, walks_more}
use Rattle.prolly_root_diff.specs.Walks.{Move}
use Rattle.prolly_root_diff.specs.declared.change.RootChange.TheVariants.{Added, Changed, Removed}
use Rattle.prolly_root_diff.proofs.Weights.{opens_lighter}
use Rattle.prolly_root_diff.proofs.differences.next_change.Goals as goal

pub walk-init : goal.walk-init
walk-init g c = record {
  nearer = omega arith;
  old = has_still _ _ c.args.old.now;
  new = has_still _ _ c.args.new.now;
  walked = walks_none g.S.ChunkSource.goes_over g.S.ChunkSource.stands g.R.ChunkSource.goes_over
      g.R.ChunkSource.stands c.args.version c.args.old.now c.args.new.now c.args.before.now
      c.args.after.now c.args.notes.now;
  notes = refl;
}

pub walk-smaller-in_ok-pass_first-in-Pass-2 : goal.walk-smaller-in_ok-pass_first-in-Pass-2
walk-smaller-in_ok-pass_first-in-Pass-2 g c = passes_lighter c.args.version c.walk.before
    c.pass_first.new.self c.walk.after c.pass_first-in-Pass.new.self c.in-Pass.ensures
    c.in_ok-pass_first-in-Pass.ensures c.in_ok-pass_first-in-Pass-2.ensures

pub walk-preserved-in_ok-pass_first-in-Pass-2 : goal.walk-preserved-in_ok-pass_first-in-Pass-2
walk-preserved-in_ok-pass_first-in-Pass-2 g c = record {
  nearer = omega (
    arith,
    c.walk.invariant.nearer,
    passes_lighter c.args.version c.walk.before c.pass_first.new.self c.walk.after
        c.pass_first-in-Pass.new.self c.in-Pass.ensures c.in_ok-pass_first-in-Pass.ensures
        c.in_ok-pass_first-in-Pass-2.ensures,
  );
  old = c.walk.invariant.old;
  new = c.walk.invariant.new;
  walked = walks_more g.S.ChunkSource.goes_over g.S.ChunkSource.stands g.R.ChunkSource.goes_over
      g.R.ChunkSource.stands c.args.version c.args.old.now c.walk.old c.args.new.now c.walk.new
      c.walk.invariant.old.goes_still c.walk.invariant.new.goes_still c.args.before.now
      c.walk.before c.args.after.now c.walk.after c.args.notes.now c.walk.notes []
      c.walk.invariant.walked
      Move.PassesBoth c.pass_first.new.self c.pass_first-in-Pass.new.self c.walk.notes
      (passes_move c.args.version c.walk.before c.pass_first.new.self c.walk.after
      c.pass_first-in-Pass.new.self c.in-Pass.ensures c.in_ok-pass_first-in-Pass.ensures
      c.in_ok-pass_first-in-Pass-2.ensures) (none_noted Move.PassesBoth refl refl c.walk.notes)
      (file_passes g.S.ChunkSource.goes_over g.S.ChunkSource.stands c.args.version c.walk.old
      c.walk.before c.pass_first.new.self c.in_ok-pass_first-in-Pass.ensures)
      (file_passes g.R.ChunkSource.goes_over g.R.ChunkSource.stands c.args.version c.walk.new
      c.walk.after c.pass_first-in-Pass.new.self c.in_ok-pass_first-in-Pass-2.ensures);
  notes = c.walk.invariant.notes;
}

pub walk-smaller-in_ok-note_old-in-Ok : goal.walk-smaller-in_ok-note_old-in-Ok
walk-smaller-in_ok-note_old-in-Ok g c = omega (
  arith,
  opens_lighter c.args.version (left_of c.walk.before) (left_of c.open_first.new.self)
      c.in-Ok.ensures.opens.0.opens,
)

pub walk-preserved-in_ok-note_old-in-Ok : goal.walk-preserved-in_ok-note_old-in-Ok
walk-preserved-in_ok-note_old-in-Ok g c = record {
  nearer = omega (
    arith,
    c.walk.invariant.nearer,
    opens_lighter c.args.version (left_of c.walk.before) (left_of c.open_first.new.self)
        c.in-Ok.ensures.opens.0.opens,
  );
  old = still_on _ _ c.args.old.now c.walk.old c.open_first.new.source c.walk.invariant.old
      c.in-Ok.ensures.asked;
  new = c.walk.invariant.new;
  walked = walks_more g.S.ChunkSource.goes_over g.S.ChunkSource.stands g.R.ChunkSource.goes_over
      g.R.ChunkSource.stands c.args.version c.args.old.now c.walk.old c.args.new.now c.walk.new
      c.walk.invariant.old.goes_still c.walk.invariant.new.goes_still c.args.before.now
      c.walk.before c.args.after.now c.walk.after c.args.notes.now c.walk.notes []
      c.walk.invariant.walked
      (Move.ReadsOld c.in-Ok.ensures.opens.0.opens.chunk) c.open_first.new.self c.walk.after
      c.note_old.new.notes
      (c.in-Ok.ensures.opens.0.opens, refl, refl, c.in-OpenOld.ensures)
      (old_noted c.args.version c.walk.notes c.note_old.new.notes c.in-Ok.chunk
      (left_of c.walk.before) (left_of c.open_first.new.self) c.in-Ok.ensures.opens.0
      c.in_ok-note_old-in-Ok.ensures) c.in-Ok.ensures.opens.1
      (file_stays g.R.ChunkSource.goes_over g.R.ChunkSource.stands c.args.version c.walk.new
      c.walk.after.due.items);
  notes = adds_old c.in-Ok.chunk c.walk.notes c.note_old.new.notes c.in_ok-note_old-in-Ok.ensures ∙
      c.walk.invariant.notes;
}

pub walk-smaller-in_ok-note_new-in-Ok-open_first : goal.walk-smaller-in_ok-note_new-in-Ok-open_first
walk-smaller-in_ok-note_new-in-Ok-open_first g c = omega (
  arith,
  opens_lighter c.args.version (left_of c.walk.after) (left_of c.open_first-in-OpenNew.new.self)
      c.in-Ok-open_first.ensures.opens.0.opens,
)

pub walk-preserved-in_ok-note_new-in-Ok-open_first : goal.walk-preserved-in_ok-note_new-in-Ok-open_first
walk-preserved-in_ok-note_new-in-Ok-open_first g c = record {
  nearer = omega (
    arith,
    c.walk.invariant.nearer,
    opens_lighter c.args.version (left_of c.walk.after) (left_of c.open_first-in-OpenNew.new.self)
        c.in-Ok-open_first.ensures.opens.0.opens,
  );
  old = c.walk.invariant.old;
  new = still_on _ _ c.args.new.now c.walk.new c.open_first-in-OpenNew.new.source
      c.walk.invariant.new c.in-Ok-open_first.ensures.asked;
  walked = walks_more g.S.ChunkSource.goes_over g.S.ChunkSource.stands g.R.ChunkSource.goes_over
      g.R.ChunkSource.stands c.args.version c.args.old.now c.walk.old c.args.new.now c.walk.new
      c.walk.invariant.old.goes_still c.walk.invariant.new.goes_still c.args.before.now
      c.walk.before c.args.after.now c.walk.after c.args.notes.now c.walk.notes []
      c.walk.invariant.walked
      (Move.ReadsNew c.in-Ok-open_first.ensures.opens.0.opens.chunk) c.walk.before
      c.open_first-in-OpenNew.new.self c.note_new.new.notes
      (c.in-Ok-open_first.ensures.opens.0.opens, refl, refl, c.in-OpenNew.ensures)
      (new_noted c.args.version c.walk.notes c.note_new.new.notes c.in-Ok-open_first.chunk
      (left_of c.walk.after) (left_of c.open_first-in-OpenNew.new.self)
      c.in-Ok-open_first.ensures.opens.0 c.in_ok-note_new-in-Ok-open_first.ensures)
      (file_stays g.S.ChunkSource.goes_over g.S.ChunkSource.stands c.args.version c.walk.old
      c.walk.before.due.items) c.in-Ok-open_first.ensures.opens.1;
  notes = adds_new c.in-Ok-open_first.chunk c.walk.notes c.note_new.new.notes
      c.in_ok-note_new-in-Ok-open_first.ensures ∙ c.walk.invariant.notes;
}

pub walk-smaller : goal.walk-smaller
walk-smaller g c = skips_lighter c.args.version c.walk.before c.pass_pair.new.self c.walk.after
    c.pass_pair-in-Skip.new.self c.in-Skip.ensures c.pass_pair.ensures.pair
    c.pass_pair.ensures.due c.pass_pair-in-Skip.ensures.pair c.pass_pair-in-Skip.ensures.due

pub walk-preserved : goal.walk-preserved
walk-preserved g c = record {
  nearer = omega (
    arith,
    c.walk.invariant.nearer,
    skips_lighter c.args.version c.walk.before c.pass_pair.new.self c.walk.after
        c.pass_pair-in-Skip.new.self c.in-Skip.ensures c.pass_pair.ensures.pair
        c.pass_pair.ensures.due c.pass_pair-in-Skip.ensures.pair c.pass_pair-in-Skip.ensures.due,
  );
  old = c.walk.invariant.old;
  new = c.walk.invariant.new;
  walked = walks_more g.S.ChunkSource.goes_over g.S.ChunkSource.stands g.R.ChunkSource.goes_over
      g.R.ChunkSource.stands c.args.version c.args.old.now c.walk.old c.args.new.now c.walk.new
      c.walk.invariant.old.goes_still c.walk.invariant.new.goes_still c.args.before.now
      c.walk.before c.args.after.now c.walk.after c.args.notes.now c.walk.notes []
      c.walk.invariant.walked
      Move.SkipsBoth c.pass_pair.new.self c.pass_pair-in-Skip.new.self c.walk.notes
      (skips_move c.args.version c.walk.before c.pass_pair.new.self c.walk.after
      c.pass_pair-in-Skip.new.self c.in-Skip.ensures c.pass_pair.ensures.pair
      c.pass_pair.ensures.due c.pass_pair-in-Skip.ensures.pair c.pass_pair-in-Skip.ensures.due)
      (none_noted Move.SkipsBoth refl refl c.walk.notes)
      (file_stays_by g.S.ChunkSource.goes_over g.S.ChunkSource.stands c.args.version c.walk.old
      c.walk.before c.pass_pair.new.self c.pass_pair.ensures.due)
      (file_stays_by g.R.ChunkSource.goes_over g.R.ChunkSource.stands c.args.version c.walk.new
      c.walk.after c.pass_pair-in-Skip.new.self c.pass_pair-in-Skip.ensures.due);
  notes = c.walk.invariant.notes;
}

pub returns-in-Removed-clause-nearer : goal.returns-in-Removed-clause-nearer
returns-in-Removed-clause-nearer g c = omega (
  arith,
  c.walk.invariant.nearer,
  takes_nearer c.walk.before c.take.new.self c.in_ok-take-in-Removed.field-0
      c.in_ok-take-in-Removed.ensures.pair c.in_ok-take-in-Removed.ensures.due,
)

pub returns-in-Added-clause-nearer : goal.returns-in-Added-clause-nearer
returns-in-Added-clause-nearer g c = omega (
  arith,
  c.walk.invariant.nearer,
  takes_nearer c.walk.after c.take-in-Added.new.self c.in_ok-take-in-Added.field-0
      c.in_ok-take-in-Added.ensures.pair c.in_ok-take-in-Added.ensures.due,
)

pub returns-in-Changed-clause-nearer : goal.returns-in-Changed-clause-nearer
returns-in-Changed-clause-nearer g c = omega (
  arith,
  c.walk.invariant.nearer,
  takes_nearer c.walk.before c.take-in-Changed.new.self c.in_ok-old-in-Changed.old
      c.in_ok-old-in-Changed.ensures.pair c.in_ok-old-in-Changed.ensures.due,
  takes_nearer c.walk.after c.take-in-Changed-2.new.self c.in_ok-take-in-Changed.field-0
      c.in_ok-take-in-Changed.ensures.pair c.in_ok-take-in-Changed.ensures.due,
)

pub returns-in-Removed-clause-notes : goal.returns-in-Removed-clause-notes
returns-in-Removed-clause-notes g c = c.walk.invariant.notes

pub returns-in-Added-clause-notes : goal.returns-in-Added-clause-notes
returns-in-Added-clause-notes g c = c.walk.invariant.notes

pub returns-in-Changed-clause-notes : goal.returns-in-Changed-clause-notes
returns-in-Changed-clause-notes g c = c.walk.invariant.notes

pub returns-in-End-clause-notes : goal.returns-in-End-clause-notes
returns-in-End-clause-notes g c = c.walk.invariant.notes

pub returns-in-Removed-clause-walks : goal.returns-in-Removed-clause-walks
returns-in-Removed-clause-walks g c = walks_more g.S.ChunkSource.goes_over
    g.S.ChunkSource.stands g.R.ChunkSource.goes_over g.R.ChunkSource.stands c.args.version c.args.old.now c.walk.old c.args.new.now c.walk.new
    c.walk.invariant.old.goes_still c.walk.invariant.new.goes_still c.args.before.now
    c.walk.before c.args.after.now c.walk.after c.args.notes.now c.walk.notes []
    c.walk.invariant.walked
    (Move.Gives (Removed c.in_ok-take-in-Removed.field-0)) c.take.new.self c.walk.after
    c.walk.notes (
      takes_so c.walk.before c.take.new.self c.in_ok-take-in-Removed.field-0
          c.in_ok-take-in-Removed.ensures.pair c.in_ok-take-in-Removed.ensures.due,
      refl,
      c.in-Removed.ensures,
    ) (none_noted (Move.Gives (Removed c.in_ok-take-in-Removed.field-0)) refl refl c.walk.notes)
    (file_stays_by g.S.ChunkSource.goes_over g.S.ChunkSource.stands c.args.version c.walk.old
    c.walk.before c.take.new.self c.in_ok-take-in-Removed.ensures.due)
    (file_stays g.R.ChunkSource.goes_over g.R.ChunkSource.stands c.args.version c.walk.new
    c.walk.after.due.items)

pub returns-in-Added-clause-walks : goal.returns-in-Added-clause-walks
returns-in-Added-clause-walks g c = walks_more g.S.ChunkSource.goes_over
    g.S.ChunkSource.stands g.R.ChunkSource.goes_over g.R.ChunkSource.stands c.args.version c.args.old.now c.walk.old c.args.new.now c.walk.new
    c.walk.invariant.old.goes_still c.walk.invariant.new.goes_still c.args.before.now
    c.walk.before c.args.after.now c.walk.after c.args.notes.now c.walk.notes []
    c.walk.invariant.walked
    (Move.Gives (Added c.in_ok-take-in-Added.field-0)) c.walk.before c.take-in-Added.new.self
    c.walk.notes (
      takes_so c.walk.after c.take-in-Added.new.self c.in_ok-take-in-Added.field-0
          c.in_ok-take-in-Added.ensures.pair c.in_ok-take-in-Added.ensures.due,
      refl,
      c.in-Added.ensures,
    ) (none_noted (Move.Gives (Added c.in_ok-take-in-Added.field-0)) refl refl c.walk.notes)
    (file_stays g.S.ChunkSource.goes_over g.S.ChunkSource.stands c.args.version c.walk.old
    c.walk.before.due.items)
    (file_stays_by g.R.ChunkSource.goes_over g.R.ChunkSource.stands c.args.version c.walk.new
    c.walk.after c.take-in-Added.new.self c.in_ok-take-in-Added.ensures.due)

pub returns-in-Changed-clause-walks : goal.returns-in-Changed-clause-walks
returns-in-Changed-clause-walks g c =
    let change = Changed c.in_ok-old-in-Changed.old c.in_ok-take-in-Changed.field-0 in
    walks_more g.S.ChunkSource.goes_over g.S.ChunkSource.stands g.R.ChunkSource.goes_over
    g.R.ChunkSource.stands c.args.version c.args.old.now c.walk.old c.args.new.now c.walk.new
    c.walk.invariant.old.goes_still c.walk.invariant.new.goes_still c.args.before.now
    c.walk.before c.args.after.now c.walk.after c.args.notes.now c.walk.notes []
    c.walk.invariant.walked
    (Move.Gives change) c.take-in-Changed.new.self c.take-in-Changed-2.new.self c.walk.notes (
      takes_so c.walk.before c.take-in-Changed.new.self c.in_ok-old-in-Changed.old
          c.in_ok-old-in-Changed.ensures.pair c.in_ok-old-in-Changed.ensures.due,
      takes_so c.walk.after c.take-in-Changed-2.new.self c.in_ok-take-in-Changed.field-0
          c.in_ok-take-in-Changed.ensures.pair c.in_ok-take-in-Changed.ensures.due,
      c.in-Changed.ensures,
    ) (none_noted (Move.Gives change) refl refl c.walk.notes)
    (file_stays_by g.S.ChunkSource.goes_over g.S.ChunkSource.stands c.args.version c.walk.old
    c.walk.before c.take-in-Changed.new.self c.in_ok-old-in-Changed.ensures.due)
    (file_stays_by g.R.ChunkSource.goes_over g.R.ChunkSource.stands c.args.version c.walk.new
    c.walk.after c.take-in-Changed-2.new.self c.in_ok-take-in-Changed.ensures.due)

pub returns-in-End-clause-walks : goal.returns-in-End-clause-walks
returns-in-End-clause-walks g c =
    let none = ends_there c.walk.before c.walk.after c.in-End.ensures in
    (c.walk.invariant.walked, none.0, none.1)
