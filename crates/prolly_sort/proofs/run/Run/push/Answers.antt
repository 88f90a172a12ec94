use Rattle.std.proofs.Common.{◌∙◌, ap, arith, rules, sym}
use Rattle.prolly_sort.specs.Run.{Held, with_more}
use Rattle.prolly_sort.proofs.Lying.{held_pushed, records_pushed}
use Rattle.prolly_sort.proofs.run.Run.push.Goals as goal

pub invariant_of-self-2 : goal.invariant_of-self-2
invariant_of-self-2 c =
    let s = c.self.inside in
    held_pushed s.bytes.items c.append_record.new.out.items s.places.items c.push.new.self.items
    c.place_of-place.result c.len-3.result c.len-start.result c.len-4.result c.args.record.now
    c.in_ok-append_record.ensures.ok c.in_default.ensures.items c.place_of-place.ensures
    (search rules) (search rules) (search rules) s.is_rising c.rises-is_rising.result s.budget
    c.self.invariant c.cost.ensures.lawful
    (omega (
      arith,
      c.cost.ensures.cost,
      c.if-self-used.false,
      c.self.invariant.within,
      c.len.ensures,
      c.len-2.ensures,
      s.bytes.ok.0,
      s.places.ok.0,
    ))
    ((rw (c.deref.ensures.value, c.deref-2.ensures.value) at c.rises-is_rising.ensures)
    c.args.record.now (sym c.key.ensures.key))

pub returns-clause-ok : goal.returns-clause-ok
returns-clause-ok c =
    let s = c.self.inside in
    ap (λ rs. record { records = rs; budget = s.budget }) (records_pushed s.bytes.items
    c.append_record.new.out.items s.places.items c.push.new.self.items c.place_of-place.result
    c.len-3.result c.len-start.result c.len-4.result c.args.record.now
    c.in_ok-append_record.ensures.ok c.in_default.ensures.items c.place_of-place.ensures
    (search rules) (search rules) (search rules) c.self.invariant.stand) ∙
    ap (λ (h : Held). with_more h c.args.record.now) c.self.view_is
