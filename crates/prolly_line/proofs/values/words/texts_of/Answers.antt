use Rattle.std.proofs.Common.{[], ap, map, string_bytes, sym, ◌∙◌}
use Rattle.std.specs.Prelude.{unwrap_or}
use Rattle.std.proofs.lemmas.Result.{IfOk-weaker}
use Rattle.clap.specs.Words.{found_of}
use Rattle.clap.proofs.WalkLemmas.{raw_values-rows}
use Rattle.prolly_line.proofs.values.words.texts_of.Goals as goal

pub returns-in-None : goal.returns-in-None
returns-in-None c =
    ap (λ o. unwrap_or o []) (sym (raw_values-rows (found_of c.args.given.now) c.args.name.now) ∙
    sym c.in-None.ensures)
    ∙ sym (ap (map string_bytes) c.new.ensures.items)

pub returns-in-Some : goal.returns-in-Some
returns-in-Some c =
    IfOk-weaker c.copies_of.result _ _
    (λ copies same. ap (λ o. unwrap_or o []) (sym
    (raw_values-rows (found_of c.args.given.now) c.args.name.now) ∙ sym c.in-Some.ensures) ∙
    sym same)
    c.copies_of.ensures
