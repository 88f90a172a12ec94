use Rattle.std.proofs.Common.{◌≡◌, ◌≢◌, ◌∙◌, ℕ, List, All, Some, ap, drop, length, subst, take}
use Rattle.std.proofs.Common.{arith, length-drop}
use Rattle.std.specs.Prelude.{slice_get}
use Rattle.prolly_entry.specs.lemmas.Lists.{rest_is}
use Rattle.prolly_text.proofs.Looking.{none_further, there_further}
use Rattle.prolly_text.proofs.lines.buffer.line_end.Goals as goal

pub returns-clause-none : goal.returns-clause-none
returns-clause-none c =
    let rest = rest_is c.unparsed.result.now c.args.scanned ∙
    ap (drop c.args.scanned) c.unparsed.ensures in
    none_further c.args.buffer.now.unparsed c.args.scanned c.first_place.result c.requires.none
    (subst (λ (t : List ℕ). All (λ b. b ≢ 0x0A) (take c.first_place.result t)) rest
    c.first_place.ensures.none)

pub returns-clause-there : goal.returns-clause-there
returns-clause-there c within =
    let rest = rest_is c.unparsed.result.now c.args.scanned ∙
    ap (drop c.args.scanned) c.unparsed.ensures in
    there_further c.args.buffer.now.unparsed c.args.scanned c.first_place.result within
    (subst (λ (t : List ℕ). slice_get t c.first_place.result ≡ Some 0x0A) rest
    (c.first_place.ensures.there (omega (
      arith,
      ap length rest,
      length-drop c.args.scanned c.args.buffer.now.unparsed,
    ))))
