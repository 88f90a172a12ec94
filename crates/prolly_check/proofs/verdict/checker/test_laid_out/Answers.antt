use Rattle.std.proofs.lemmas.Result.{IfErr-weaker}
use Rattle.prolly_entry.specs.lemmas.Lists.{rest_is}
use Rattle.prolly_check.proofs.CheckedFile.{at_canonical}
use Rattle.prolly_check.proofs.verdict.checker.test_laid_out.Goals as goal

pub returns-clause-err : goal.returns-clause-err
returns-clause-err c =
    IfErr-weaker c.test_canonical.result _ _
    (at_canonical c.args.bytes.now c.args.layout.now.header c.args.layout.now.spans.items c.args.end
    c.requires.laid c.new-chunks.result c.new-chunks.ensures c.cut_of-cut.result
    c.cut_of-cut.ensures _ (rest_is c.args.bytes.now c.args.end))
    c.test_canonical.ensures.err
