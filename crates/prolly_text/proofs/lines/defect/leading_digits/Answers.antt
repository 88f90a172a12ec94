use Rattle.std.proofs.Common.{◌≡◌, ◌<◌, get_or, length, rules, true}
use Rattle.std.proofs.lemmas.List.Elements.{All-more}
use Rattle.std.specs.Char.{is_ascii_hexdigit}
use Rattle.prolly_text.proofs.lines.defect.leading_digits.Goals as goal

pub loop-place-preserved : goal.loop-place-preserved
loop-place-preserved c =
    let text = c.args.text.now in
    let place = c.loop-place.place in
    let within : place < length text = search rules in
    let here : is_ascii_hexdigit (get_or text place 0) ≡ true = search rules in
    All-more (λ b. is_ascii_hexdigit b ≡ true) text place 0 within c.loop-place.invariant here
