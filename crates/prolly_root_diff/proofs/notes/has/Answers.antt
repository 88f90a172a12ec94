use Rattle.std.proofs.Common.{◌∙◌}
use Rattle.prolly_root_diff.proofs.Counting.{search_tells}
use Rattle.prolly_root_diff.proofs.notes.has.Goals as goal

pub returns : goal.returns
returns c = c.is_ok.ensures.value ∙ search_tells c.args.sorted.now c.args.reference.now.0
    c.binary_search.result c.requires c.binary_search.ensures.bound
    c.binary_search.ensures.ok c.binary_search.ensures.position
