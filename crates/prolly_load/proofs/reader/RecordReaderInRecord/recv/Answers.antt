use Rattle.std.proofs.Common.{◌+◌, ◌∙◌, ap, sym, arith, rules}
use Rattle.prolly_load.proofs.ReaderSteps.{gave_first, one_given, open_reading}
use Rattle.prolly_load.proofs.UnderWay.{within}
use Rattle.prolly_load.specs.Reader.{progress_of}
use Rattle.prolly_load.proofs.reader.RecordReaderInRecord.recv.Goals as goal

pub overflow_add-self : goal.overflow_add-self
overflow_add-self g c =
    let here = open_reading _ _ _ _ _ _ _ _ c.self.invariant c.in_default.is in
    let one = c.in-Ok.ensures.goes_on _ _ _ _ here.stays.honest here.under_way in
    let few = within _ _ _ _ _ _ _ _ one.sent in
    omega (arith, few)

pub returns-in-Ok-clause-follows : goal.returns-in-Ok-clause-follows
returns-in-Ok-clause-follows g c =
    let open_still = ap progress_of c.in_default.is in
    one_given c.args.self.now _ c.in-Ok.record (search rules) (search rules) (search rules)
    (search rules) (sym (ap (λ r. r.progress) c.self.view_is) ∙ open_still) open_still
    (gave_first _ _ (c.self.inside.count + 1) _ _ c.next_of.new.buffer _ (search rules))
