use Rattle.prolly_link.proofs.FollowingLemmas.{later_by_one}
use Rattle.prolly_link.proofs.batch.receiver.BatchReceiverIn.recv.Goals as goal

pub returns-clause-follows : goal.returns-clause-follows
returns-clause-follows g c = later_by_one c.args.self.now c.recv.new.self c.recv.result
    c.recv.ensures.items c.recv.ensures.progress c.recv.ensures.again
