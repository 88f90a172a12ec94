use Rattle.std.proofs.Common.{sym, ◌∙◌}
use Rattle.std.specs.Option.{option_copied}
use Rattle.prolly_check.proofs.RisingKeys.{rises_all}
use Rattle.prolly_check.proofs.verdict.order.last_in.Goals as goal

pub returns-clause-ok : goal.returns-clause-ok
returns-clause-ok c = rises_all (option_copied c.args.last) (option_copied c.last_key.result) _ _ _
    (sym c.pairs_of.ensures ∙ c.in-Some.ensures.1)
    (sym c.requires.1.pairs.counted.rises ∙ c.if-not-digest.false)
    (sym c.key_rises.ensures ∙ c.if-not-key_rises.false) c.last_key.ensures
