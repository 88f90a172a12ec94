use Rattle.std.proofs.Common.{refl, sym, subst, None, [], arith}
use Rattle.prolly_link.specs.declared.message.End.TheVariants.{Fault}
use Rattle.prolly_link.specs.declared.fault.RunFault.TheVariants.{Memory}
use Rattle.prolly_io.specs.ReadBuffer.{Held}
use Rattle.prolly_load.specs.Loaded.{IsLoaded}
use Rattle.prolly_load.proofs.UnderWay.{none_sent, within}
use Rattle.prolly_load.proofs.LoadEnds.{memory_ends}
use Rattle.prolly_load.proofs.loader.send_records.Goals as goal

-- ---- before the first record

pub returns-in_default-clause-loaded : goal.returns-in_default-clause-loaded
returns-in_default-clause-loaded g c =
    let nothing : Held = record { kept = None; unparsed = []; room = 0 } in
    let honest = (g.S.Source.seen c.args.source.now).is_honest in
    let bytes = (g.S.Source.seen c.args.source.now).left in
    let before = g.O.Out.sent c.args.out.now in
    memory_ends c.args.file c.args.limit honest 0 nothing bytes bytes before before
    (none_sent honest c.args.limit nothing bytes before refl refl)

pub loop-record-init : goal.loop-record-init
loop-record-init g c = record {
  under_way = none_sent (g.S.Source.seen c.args.source.now).is_honest c.args.limit c.in-Ok.buffer
      (g.S.Source.seen c.args.source.now).left (g.O.Out.sent c.args.out.now)
      c.in-Ok.ensures.kept c.in-Ok.ensures.unparsed;
  link = refl;
  honest = λ o. o;
  steady = λ o. o;
  failures = refl;
}

-- ---- a record

pub returns-in-Err-send_sized-clause-loaded : goal.returns-in-Err-send_sized-clause-loaded
returns-in-Err-send_sized-clause-loaded g c =
    let l = c.loop-record in
    let one = c.in-Ok-next_of.ensures.goes_on _ _ _ _ l.invariant.honest l.invariant.under_way in
    subst (λ rs. IsLoaded c.args.file c.args.limit (g.S.Source.seen c.args.source.now).is_honest
    (g.S.Source.seen c.args.source.now).left (g.S.Source.seen c.next_of.new.source).left
    (g.O.Out.sent c.args.out.now) rs (Fault Memory)) (sym c.in-Err-send_sized.ensures.err.1)
    one.refused

pub overflow_add-count : goal.overflow_add-count
overflow_add-count g c =
    let l = c.loop-record in
    let one = c.in-Ok-next_of.ensures.goes_on _ _ _ _ l.invariant.honest l.invariant.under_way in
    let few = within _ _ _ _ _ _ _ _ one.sent in
    omega (arith, few)

pub loop-record-smaller : goal.loop-record-smaller
loop-record-smaller g c =
    let l = c.loop-record in
    let one = c.in-Ok-next_of.ensures.goes_on _ _ _ _ l.invariant.honest l.invariant.under_way in
    let few = within _ _ _ _ _ _ _ _ one.sent in
    omega (arith, few)
