use Rattle.std.proofs.Common.{rules, length-drop}
use Rattle.prolly_text.proofs.LineLemmas.{last_line, next_line}
use Rattle.prolly_text.proofs.lines.line.split_line.Goals as goal

pub returns-then-is_empty-clause-lines : goal.returns-then-is_empty-clause-lines
returns-then-is_empty-clause-lines c =
    last_line c.args.text.now c.split_at.result.0.now c.split_at.result.1.now
    c.first_place-end.result c.first_place-end.ensures.none
    c.split_at.ensures.front c.split_at.ensures.back (search rules) c.requires

pub returns-clause-lines : goal.returns-clause-lines
returns-clause-lines c =
    next_line c.args.text.now c.split_at.result.0.now c.split_at.result.1.now
    c.first_place-end.result c.first_place-end.ensures.none
    (c.first_place-end.ensures.there (search (rules, length-drop))) c.split_at.ensures.front
    c.split_at.ensures.back
