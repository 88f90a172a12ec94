use Rattle.std.proofs.Common.{rules, ◌++◌, List, ap, ◌∙◌, append-nil}
use Rattle.prolly_tree.specs.Chunk.{Chunk}
use Rattle.prolly_link.specs.Progress.{given_items}
use Rattle.prolly_build.proofs.WritingSteps.{written_of}
use Rattle.prolly_build.proofs.run.writer.write_events.Goals as goal

pub loop-preserved : goal.loop-preserved
loop-preserved g c = record {
  link = search rules;
  follows = g.met.I.In.goes_on c.args.input.now c.loop.input c.recv.new.self
      c.loop.invariant.follows c.recv.ensures.follows;
  written = λ head old h. written_of head c.args.last_level _
      (g.I.In.received c.args.input.now c.recv.new.self) old
      (g.W.Sink.seen c.push-written.new.sink) c.push-written.result
      (g.met.I.In.received_both c.args.input.now c.loop.input c.recv.new.self
      c.loop.invariant.follows c.recv.ensures.follows
      ∙ ap (λ (es : List Chunk). g.I.In.received c.args.input.now c.loop.input ++ es)
      (c.recv.ensures.received ∙ ap given_items c.in-Item.is))
      (c.push-written.ensures head _ old (c.loop.invariant.written head old h));
}

pub returns-in-End-clause-written : goal.returns-in-End-clause-written
returns-in-End-clause-written g c = λ head old h. written_of head c.args.last_level
    (g.I.In.received c.args.input.now c.loop.input)
    (g.I.In.received c.args.input.now c.recv.new.self) old (g.W.Sink.seen c.loop.sink)
    c.loop.written
    (g.met.I.In.received_both c.args.input.now c.loop.input c.recv.new.self c.loop.invariant.follows
    c.recv.ensures.follows
    ∙ (ap (λ (es : List Chunk). g.I.In.received c.args.input.now c.loop.input ++ es)
    (c.recv.ensures.received ∙ ap given_items c.in-End.is)
    ∙ append-nil (g.I.In.received c.args.input.now c.loop.input)))
    (c.loop.invariant.written head old h)

pub returns-in-Lost-clause-written : goal.returns-in-Lost-clause-written
returns-in-Lost-clause-written g c = λ head old h. written_of head c.args.last_level
    (g.I.In.received c.args.input.now c.loop.input)
    (g.I.In.received c.args.input.now c.recv.new.self) old (g.W.Sink.seen c.loop.sink)
    c.loop.written
    (g.met.I.In.received_both c.args.input.now c.loop.input c.recv.new.self c.loop.invariant.follows
    c.recv.ensures.follows
    ∙ (ap (λ (es : List Chunk). g.I.In.received c.args.input.now c.loop.input ++ es)
    (c.recv.ensures.received ∙ ap given_items c.in-Lost.is)
    ∙ append-nil (g.I.In.received c.args.input.now c.loop.input)))
    (c.loop.invariant.written head old h)
