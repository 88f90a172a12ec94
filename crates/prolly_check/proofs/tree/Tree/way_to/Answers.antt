use Rattle.std.proofs.Common.{map, subst}
use Rattle.std.proofs.lemmas.Result.{IfOk-weaker}
use Rattle.prolly_entry.specs.Reference.{reference_of}
use Rattle.prolly_tree.specs.LookUp.{find}
use Rattle.prolly_look_up.specs.Content.{root_bytes}
use Rattle.prolly_look_up.specs.Way.{IsWay}
use Rattle.prolly_check.proofs.tree.Tree.way_to.Goals as goal

pub returns : goal.returns
returns c = IfOk-weaker c.way_to.result _ _ (λ chunks way content f.
    subst (λ file. IsWay file.version (reference_of (root_bytes file)) c.args.key.now
    (map (λ chunk. chunk.now) chunks.items) (find file.pairs c.args.key.now))
    (c.file.ensures.is content f) way) c.way_to.ensures
