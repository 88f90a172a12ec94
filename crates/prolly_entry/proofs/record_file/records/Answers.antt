use Rattle.std.proofs.Common.{Some, ap, rules}
use Rattle.std.specs.Option.{option_copied}
use Rattle.std.proofs.lemmas.List.{nil_from_length}
use Rattle.prolly_entry.specs.RecordAt.{record_at}
use Rattle.prolly_entry.specs.lemmas.Lists.{rest_is}
use Rattle.prolly_entry.proofs.RecordSteps.{goes_on, all_read, cut_inside, refused}
use Rattle.prolly_entry.proofs.record_file.records.Goals as goal

pub returns-then-is_empty-clause-ok : goal.returns-then-is_empty-clause-ok
returns-then-is_empty-clause-ok c =
    all_read c.args.bytes.now c.args.limit c.loop-at.rest.now c.loop-at.count
    (option_copied c.loop-at.last_key) c.loop-at.pairs.items
    c.loop-at.invariant (nil_from_length c.loop-at.rest.now (search rules))

pub returns-in-More-clause-err : goal.returns-in-More-clause-err
returns-in-More-clause-err c =
    cut_inside c.args.bytes.now c.args.limit c.loop-at.rest.now c.loop-at.count
    (option_copied c.loop-at.last_key) c.loop-at.pairs.items
    c.loop-at.invariant c.in-More.ensures (search rules)

pub returns-in-Flawed-clause-err : goal.returns-in-Flawed-clause-err
returns-in-Flawed-clause-err c =
    refused c.args.bytes.now c.args.limit c.loop-at.rest.now c.loop-at.count
    (option_copied c.loop-at.last_key) c.loop-at.pairs.items
    c.in-Flawed.flaw c.fault_of.result c.loop-at.invariant c.in-Flawed.ensures
    c.fault_of.ensures

pub loop-at-preserved : goal.loop-at-preserved
loop-at-preserved c =
    let at = c.in-Record.at in
    let rest = c.loop-at.rest.now in
    goes_on c.args.bytes.now c.args.limit rest _ c.loop-at.count
    (option_copied c.loop-at.last_key) (Some c.key.result.now) c.loop-at.pairs.items
    c.push_put.new.pairs.items (record_at rest at) at.len c.loop-at.invariant c.in-Record.ensures.0
    c.in_ok-push_put-in-Record.ensures (rest_is rest at.len) (ap Some c.key.ensures)
