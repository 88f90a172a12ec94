use Rattle.std.proofs.Common.{ap, ◌∙◌}
use Rattle.prolly_tree.specs.LookUp.{find}
use Rattle.prolly_look_up.specs.Sought.Sought.{Key}
use Rattle.prolly_check.proofs.FileDescents.{end_tells}
use Rattle.prolly_check.proofs.look_up.found.find_value.Goals as goal

pub returns : goal.returns
returns c = c.value_in.ensures ∙ ap (λ ps. find ps c.args.key.now) c.pairs.ensures ∙
    (end_tells c.args.file.now c.descend-end.ensures.file (Key c.args.key.now) tt
    c.descend-end.result c.descend-end.ensures.end).0
