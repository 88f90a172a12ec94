use Rattle.std.proofs.Common.{arith, rules}
use Rattle.prolly_entry.proofs.Children.{child_is_there}
use Rattle.prolly_entry.proofs.child.front_child_as.Goals as goal

pub returns-clause-some : goal.returns-clause-some
returns-clause-some c = rw c.tail_length-tail_len.ensures
    (child_is_there c.args.version c.args.bytes.now _
    (λ i. search rules) c.in_ok-key.ensures.key_len (omega arith)
    (omega (arith, c.in_ok-key.ensures.len)))
