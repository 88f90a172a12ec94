use Rattle.std.proofs.Common.{◌≡◌, rules}
use Rattle.prolly_text.specs.Lines.{IsMarked}
use Rattle.prolly_text.proofs.DefectLemmas.{lengths_told}
use Rattle.prolly_text.proofs.lines.defect.defect_of.Goals as goal
use Rattle.prolly_text.proofs.lines.defect.defect_of.Goals.{else-place-eq0-via-then-place-eq0+else-is_marked}
use Rattle.prolly_text.proofs.lines.defect.defect_of.Goals.{else-place-eq0-via-else-place-eq0}

pub returns-in-Ok : goal.returns-in-Ok
returns-in-Ok c =
    let unmarked : c.args.place.number ≡ 0 → IsMarked c.args.form.notation c.args.line.now → ⊥ =
    elim c.else-place-eq0.branch [
      | else-place-eq0-via-then-place-eq0+else-is_marked w ↦ search rules
      | else-place-eq0-via-else-place-eq0 w ↦ search rules
    ] in
    lengths_told c.args.form c.args.place c.args.line.now c.in-Ok.change c.length_defect.result
    unmarked c.in-Ok.ensures.ok c.length_defect.ensures
