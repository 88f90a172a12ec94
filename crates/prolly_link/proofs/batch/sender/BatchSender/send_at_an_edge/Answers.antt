use Rattle.std.proofs.lemmas.Grind.{common_steps}
use Rattle.std.proofs.Common.{◌∙◌, ap, arith, rules}
use Rattle.prolly_link.proofs.batch.sender.BatchSender.send_at_an_edge.Goals as goal

pub returns-then-bytes-lt-LARGE_BATCH_BYTES-clause-ok
    : goal.returns-then-bytes-lt-LARGE_BATCH_BYTES-clause-ok
returns-then-bytes-lt-LARGE_BATCH_BYTES-clause-ok g c = grind (arith, common_steps) steps 2000000

pub returns-in-Err-clause-ok : goal.returns-in-Err-clause-ok
returns-in-Err-clause-ok g c = search rules

pub returns-clause-ok : goal.returns-clause-ok
returns-clause-ok g c = grind (arith, common_steps) steps 2000000

pub returns-then-bytes-lt-LARGE_BATCH_BYTES-clause-link
    : goal.returns-then-bytes-lt-LARGE_BATCH_BYTES-clause-link
returns-then-bytes-lt-LARGE_BATCH_BYTES-clause-link g c = ap (λ s. s.link) c.self.view_is

pub returns-clause-link : goal.returns-clause-link
returns-clause-link g c = ap (λ s. s.link) c.look_ahead.ensures ∙ c.send_items.ensures.link ∙
    ap (λ s. s.link) c.self.view_is
