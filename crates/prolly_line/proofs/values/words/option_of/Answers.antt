use Rattle.std.proofs.Common.{ap, sym, ◌∙◌, Some}
use Rattle.clap.specs.Words.{found_of}
use Rattle.clap.proofs.WalkLemmas.{first_value-rows}
use Rattle.prolly_line.proofs.values.words.option_of.Goals as goal

pub returns-in-None : goal.returns-in-None
returns-in-None c = sym (first_value-rows (found_of c.args.given.now) c.args.name.now) ∙
    sym c.in-None.ensures

pub returns-in_ok-from_str-in-Some : goal.returns-in_ok-from_str-in-Some
returns-in_ok-from_str-in-Some c =
    sym (first_value-rows (found_of c.args.given.now) c.args.name.now) ∙
    (sym c.in-Some.ensures ∙ ap Some (sym c.in_ok-from_str-in-Some.ensures.ok))
