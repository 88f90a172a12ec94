use Rattle.prolly_entry.specs.lemmas.Lists.{rest_is}
use Rattle.prolly_entry.proofs.Children.{child_found}
use Rattle.prolly_entry.proofs.child.Child.split.Goals as goal

pub returns-clause-some : goal.returns-clause-some
returns-clause-some c =
    let at = c.in_ok-at.at in
    let bytes = c.args.bytes.now in
    rw (c.reference_in.ensures, c.count_in.ensures, rest_is bytes at.key_end, rest_is bytes at.len)
    (child_found c.args.version bytes at c.in_ok-at.ensures.some)
