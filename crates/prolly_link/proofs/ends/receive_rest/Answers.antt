use Rattle.std.proofs.Common.{◌∙◌, rules}
use Rattle.prolly_link.proofs.ends.receive_rest.Goals as goal

pub loop-preserved-in-Item : goal.loop-preserved-in-Item
loop-preserved-in-Item g c = (
  c.recv.ensures.link ∙ c.loop.invariant.0,
  g.met.I.In.goes_on _ _ _ c.loop.invariant.1 c.recv.ensures.follows,
)

pub returns-in-End : goal.returns-in-End
returns-in-End g c = record {
  link = c.recv.ensures.link ∙ c.loop.invariant.0;
  follows = g.met.I.In.goes_on _ _ _ c.loop.invariant.1 c.recv.ensures.follows;
  ended = search rules;
}
