use Rattle.std.proofs.Common.{◌∙◌, ap, take}
use Rattle.std.proofs.lemmas.Result.{IfOk-weaker}
use Rattle.prolly_check.proofs.tree.Tree.scan.Goals as goal

pub returns : goal.returns
returns c = IfOk-weaker c.scan_pairs.result _ _ (λ pairs is content f.
    is ∙ ap (take c.args.limit) (c.leaves_from.ensures.are content f)) c.scan_pairs.ensures
