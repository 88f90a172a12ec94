use Rattle.std.proofs.Common.{◌≡◌, ◌∙◌, ap, arith, length, rules, subst, sym, true}
use Rattle.prolly_root.proofs.Endings.{has_room, names_root}
use Rattle.prolly_root.specs.NamedRoot.{TellsRoot}
use Rattle.prolly_root.proofs.file.end_record.named_root.Goals as goal

pub returns-then-size-lt-LEAST_SIZE-clause-lawful :
    goal.returns-then-size-lt-LEAST_SIZE-clause-lawful
returns-then-size-lt-LEAST_SIZE-clause-lawful g c = λ content holds.
    let first = c.in-Ok.ensures.same holds.honest in
    let size = c.in-Ok-len.ensures.length (c.in-Ok.ensures.honest holds.honest) in
    absurd (has_room holds.is (omega (arith, size, ap length first, c.if-size-lt-LEAST_SIZE.true)))

-- what is told behind a lawful header
root_told : (g : _) (c : goal.After-root_at_end g) →
    (g.D.Device.seen c.args.device.now).is_honest ≡ true →
    TellsRoot (g.D.Device.seen c.args.device.now).bytes c.root_at_end.result
root_told g c honest =
    let honest_1 = c.in-Ok.ensures.honest honest in
    let honest_2 = c.in-Ok-len.ensures.honest honest_1 in
    let same_1 = c.in-Ok.ensures.same honest in
    let same_2 = c.in-Ok-len.ensures.same honest_1 in
    subst (λ bytes. TellsRoot bytes c.root_at_end.result) (same_2 ∙ same_1)
    (c.root_at_end.ensures.tells honest_2 (c.in-Ok-len.ensures.length honest_1 ∙
    ap length (sym same_2)))

pub returns-clause-tells : goal.returns-clause-tells
returns-clause-tells g c = search (rules, root_told g c)

pub returns-clause-lawful : goal.returns-clause-lawful
returns-clause-lawful g c = λ content holds.
    names_root holds.is c.root_at_end.result (root_told g c holds.honest)
