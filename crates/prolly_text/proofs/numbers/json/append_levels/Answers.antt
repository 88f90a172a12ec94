use Rattle.std.proofs.Common.{◌≡◌, [], ◌∷◌, ◌++◌, ◌∙◌, ap, map, take, arith}
use Rattle.std.proofs.lemmas.List.{take_all}
use Rattle.std.specs.List.{join_with_byte}
use Rattle.prolly_text.specs.Json.{level_json, comma_before}
use Rattle.prolly_text.specs.Rows.{rows_of}
use Rattle.prolly_text.proofs.Commas.{bracketed, next_value}
use Rattle.prolly_text.proofs.Rows.{length-rows_from}
use Rattle.prolly_text.proofs.numbers.json.append_levels.Goals as goal

pub loop-number-preserved : goal.loop-number-preserved
loop-number-preserved c =
    let rows = rows_of c.args.tree.now in
    let number = c.loop-number.number in
    c.in_ok-append_level.ensures ∙ ap (λ t. t ++ level_json c.row_at.result)
    (c.in_ok-append_comma.ensures ∙ ap (λ t. t ++ comma_before number) c.loop-number.invariant) ∙
    next_value level_json (c.args.out.now.items ++ 0x5B ∷ []) rows number c.row_at.result
    c.row_at.ensures

pub returns : goal.returns
returns c =
    let tree = c.args.tree.now in
    let all : take c.loop-number.number (rows_of tree) ≡ rows_of tree =
    take_all c.loop-number.number (rows_of tree)
    (omega (arith, length-rows_from tree.levels.now 0 tree.pairs)) in
    let begun = c.loop-number.invariant ∙ ap (λ rows. c.args.out.now.items ++ 0x5B ∷ [] ++
    join_with_byte 0x2C (map level_json rows)) all in
    c.in_ok-push-2.ensures.items ∙ ap (λ t. t ++ 0x5D ∷ []) begun ∙
    bracketed c.args.out.now.items (map level_json (rows_of tree))
