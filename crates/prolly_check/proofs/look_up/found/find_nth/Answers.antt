use Rattle.std.proofs.Common.{ap, ◌∙◌}
use Rattle.prolly_look_up.specs.Sought.{sought_of}
use Rattle.prolly_look_up.specs.Sought.Sought.{Number}
use Rattle.prolly_look_up.specs.Way.{nth_sought}
use Rattle.prolly_check.proofs.FileDescents.{end_tells}
use Rattle.prolly_check.proofs.look_up.found.find_nth.Goals as goal

pub returns : goal.returns
returns c = c.pair_sought.ensures.is ∙
    ap (nth_sought (sought_of c.descend-end.result.sought)) c.pairs.ensures ∙
    end_tells c.args.file.now c.descend-end.ensures.file (Number c.args.n) c.requires
    c.descend-end.result c.descend-end.ensures.end
