use Rattle.std.proofs.Common.{refl, rules}
use Rattle.prolly_text.specs.Pieces.{BeginsWithNone, HasPiece}
use Rattle.std.proofs.lemmas.List.{nil_from_length}
use Rattle.prolly_text.proofs.DefectLemmas.{all_passed, breaks_off, none_passed, one_passed}
use Rattle.prolly_text.proofs.DefectLemmas.{rest_shorter}
use Rattle.prolly_text.specs.lemmas.Sequences.{piece_shortens}
use Rattle.prolly_text.proofs.lines.defect.escape_defect.Goals as goal

pub loop-rest-init : goal.loop-rest-init
loop-rest-init c = none_passed c.args.text.now

pub loop-rest-preserved : goal.loop-rest-preserved
loop-rest-preserved c =
    let first : HasPiece c.loop-rest.rest.now c.in-Some.field-0-0 c.in-Some.behind.now =
    search rules in
    one_passed c.args.text.now c.loop-rest.rest.now c.in-Some.behind.now c.in-Some.field-0-0
    c.loop-rest.invariant first

pub loop-rest-smaller : goal.loop-rest-smaller
loop-rest-smaller c =
    let first : HasPiece c.loop-rest.rest.now c.in-Some.field-0-0 c.in-Some.behind.now =
    search rules in
    piece_shortens c.loop-rest.rest.now c.in-Some.field-0-0 c.in-Some.behind.now first

pub overflow_sub-result : goal.overflow_sub-result
overflow_sub-result c = rest_shorter c.args.text.now c.loop-rest.rest.now c.loop-rest.invariant

pub returns-in_default-clause-some : goal.returns-in_default-clause-some
returns-in_default-clause-some c =
    let none : BeginsWithNone c.loop-rest.rest.now = search rules in (
      refl,
      breaks_off c.args.text.now c.loop-rest.rest.now c.args.start c.loop-rest.invariant none
          (search rules),
    )

pub returns-clause-none : goal.returns-clause-none
returns-clause-none c = all_passed c.args.text.now c.loop-rest.rest.now c.loop-rest.invariant
    (nil_from_length c.loop-rest.rest.now (search rules))
