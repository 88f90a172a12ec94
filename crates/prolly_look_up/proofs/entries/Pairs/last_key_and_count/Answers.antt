use Rattle.prolly_look_up.specs.lemmas.EntryLists.{one_more_read}
use Rattle.prolly_look_up.proofs.entries.Pairs.last_key_and_count.Goals as goal

pub loop-key-preserved : goal.loop-key-preserved
loop-key-preserved c = one_more_read c.args.self c.loop-key.self c.next.new.self c.loop-key.last.now _ _
    c.loop-key.invariant c.in-Some.ensures.next c.in-Some.ensures.lawful.0
