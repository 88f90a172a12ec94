use Rattle.std.proofs.Common.{◌∙◌, ap, sym, Some}
use Rattle.std.specs.Option.{option_copied}
use Rattle.prolly_text.proofs.KeySteps.{last_is}
use Rattle.prolly_text.proofs.lines.keys.last_of.Goals as goal

pub returns-in-Some : goal.returns-in-Some
returns-in-Some c = ap Some c.deref.ensures.value ∙
    sym (last_is (λ k. k.items) c.args.keys.now c.in-Some.last.now
    (sym c.last.ensures.value ∙ ap option_copied c.in-Some.is))
