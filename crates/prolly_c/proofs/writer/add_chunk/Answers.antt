use Rattle.std.proofs.Common.{refl, sym, subst, arith}
use Rattle.std.proofs.lemmas.Grind.{common_steps}
use Rattle.prolly_c.proofs.FileFrames.{leaf_begins}
use Rattle.prolly_c.proofs.Entries.{end_back}
use Rattle.prolly_c.specs.Writing.{Spells}
use Rattle.prolly_c.proofs.writer.add_chunk.Goals as goal

pub returns-clause-wrote : goal.returns-clause-wrote
returns-clause-wrote c = λ version done pairs end holds wrote.
    c.add_leaf.ensures.wrote done pairs c.args.behind.now
    (end_back c.args.bytes.now c.args.rest.now c.split_at.result.1.now 10 end c.split_at.ensures.back)
    (subst (λ x. Spells x pairs c.args.behind.now) (sym c.split_at.ensures.back)
    (leaf_begins version c.args.rest.now c.args.chunk.now c.args.behind.now pairs c.requires.frame
    holds (grind (arith, common_steps)) (grind (arith, common_steps)))) refl wrote
