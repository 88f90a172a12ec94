use Rattle.std.proofs.Common.{refl}
use Rattle.std.specs.Prelude.{vec_len, vec_capacity}
use Rattle.prolly_link.proofs.BatchLemmas.{room_fresh}
use Rattle.prolly_link.proofs.batch.link.batch_link.Goals as goal

pub returns : goal.returns
returns g c = record {
  link = c.in_ok-sender.ensures.link;
  capacity = c.in_ok-sender.ensures.capacity;
  sent = rw (c.in_ok-sender.ensures.sent, c.in-Ok.ensures.items);
  room = room_fresh c.args.batch (vec_capacity c.in-Ok.pending) (vec_len c.in-Ok.pending)
      c.in-Ok.ensures.exact c.in-Ok.ensures.len;
  batch = refl;
  held = refl;
  received = rw (c.in_ok-sender.ensures.received, c.new-3.ensures.items);
  progress = c.in_ok-sender.ensures.progress;
}
