use Rattle.std.proofs.Common.{◌∙◌, ap, subst, sym}
use Rattle.std.specs.Prelude.{IfSome}
use Rattle.prolly_root_diff.specs.Notes.{TellsMissing}
use Rattle.prolly_root_diff.specs.Walks.{lefts_of}
use Rattle.prolly_root_diff.proofs.Lacking.{tells_missing}
use Rattle.prolly_root_diff.proofs.differences.RootDifferences.missing.Goals.{in-None, in-Some}
use Rattle.prolly_root_diff.proofs.differences.RootDifferences.missing.Goals as goal

pub returns-clause-are : goal.returns-clause-are
returns-clause-are g c =
    let walk = c.args.self.now in
    elim c.match-self.branch [
      | in-None w ↦ subst (λ found. IfSome found
          (TellsMissing walk.version (lefts_of walk) walk.notes)) (sym w.result-is) tt
      | in-Some w ↦ subst (λ found. IfSome found
          (TellsMissing walk.version (lefts_of walk) walk.notes)) (sym w.result-is)
          (tells_missing c.walks_are_right.ensures.notes walk.version (lefts_of walk) walk.notes
          w.in-Some.notes (ap (λ w. w.notes) (sym c.self.view_is) ∙ w.in-Some.is) w.missing.result
          w.missing.ensures.some)
    ]
