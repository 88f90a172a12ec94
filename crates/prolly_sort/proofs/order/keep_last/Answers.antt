use Rattle.std.proofs.Common.{◌≡◌, ◌∙◌, ap, rules}
use Rattle.prolly_sort.specs.Place.{StandsIn, records_in}
use Rattle.prolly_sort.proofs.Lasting.{last_all, last_come, last_left, last_of_each}
use Rattle.prolly_sort.proofs.order.keep_last.Goals as goal

left : (c : goal.After-dedup_by) →
    c.dedup_by.new.self.items ≡ last_of_each c.args.bytes.now c.args.places.now.items
left c = last_left _ c.args.bytes.now _ (λ q p b g goes kept call. search rules) _ _
    c.dedup_by.ensures.filtered

pub returns-clause-records : goal.returns-clause-records
returns-clause-records c = ap (records_in c.args.bytes.now) (left c) ∙
    last_come c.args.bytes.now _ c.requires.in_order

pub returns-clause-stand : goal.returns-clause-stand
returns-clause-stand c = rw (left c)
    (last_all c.args.bytes.now (StandsIn c.args.bytes.now) _ c.requires.stand)
