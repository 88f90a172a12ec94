use Rattle.std.proofs.Common.{rules, length-drop}
use Rattle.prolly_text.proofs.LineLemmas.{no_cut, cuts_there, behind}
use Rattle.prolly_text.proofs.lines.line.split_at.Goals as goal

pub returns-then-is_empty-clause-none : goal.returns-then-is_empty-clause-none
returns-then-is_empty-clause-none c =
    no_cut c.args.byte c.args.line.now c.first_place-place.result c.first_place-place.ensures.none
    (search (rules, length-drop))

pub returns-clause-some : goal.returns-clause-some
returns-clause-some c =
    cuts_there c.args.byte c.args.line.now c.split_at.result.0.now _ c.first_place-place.result
    c.first_place-place.ensures.none
    (c.first_place-place.ensures.there (search (rules, length-drop))) c.split_at.ensures.front
    (behind c.args.line.now c.split_at.result.1.now c.first_place-place.result
    c.split_at.ensures.back)
