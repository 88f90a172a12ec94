use Rattle.std.proofs.Common.{◌≡◌, ◌++◌, ◌∷◌, [], rules, ap, sym, ◌∙◌, refl}
use Rattle.std.proofs.lemmas.Result.{IfOk-from_err}
use Rattle.prolly_tree.specs.Events.{inner_events, faulty, clean}
use Rattle.prolly_chunk.specs.NodeLevel.{node_level}
use Rattle.prolly_stage.specs.Sends.{GivesUp}
use Rattle.prolly_stage.specs.lemmas.Joins.{nodes_keep, gives_up_in_part}
use Rattle.prolly_stage.specs.lemmas.Steps.{on_err, ended_by, sends_rest, gives_up_at_once}
use Rattle.prolly_stage.specs.lemmas.Steps.{gives_up_before}
use Rattle.prolly_entry.specs.lemmas.Lists.{nothing_came}
use Rattle.prolly_stage.proofs.inner.send_nodes.Goals as goal

pub returns-in_err-nodes : goal.returns-in_err-nodes
returns-in_err-nodes g c =
    let stage = inner_events c.args.level (g.C.Cut.cut c.args.cut) c.args.version in
    let gives_up : GivesUp stage (g.I.In.received c.args.input.now c.args.input.now)
    (g.O.Out.sent c.args.out.now) (g.O.Out.sent c.args.out.now) =
    gives_up_at_once stage _ _ in
    record {
      input_link = refl;
      follows = g.met.I.In.stays c.args.input.now;
      out_link = refl;
      ended = IfOk-from_err _ _ c.from_residual.ensures.0;
      sent = IfOk-from_err _ _ c.from_residual.ensures.0;
      err = on_err _ gives_up;
    }

pub returns-in_err-take_event-in-Item : goal.returns-in_err-take_event-in-Item
returns-in_err-take_event-in-Item g c =
    let stage = inner_events c.args.level (g.C.Cut.cut c.args.cut) c.args.version in
    let received = g.I.In.received c.args.input.now c.loop.input in
    let both = g.met.I.In.received_both c.args.input.now c.loop.input c.recv.new.self
    c.loop.invariant.follows c.in-Item.ensures.follows in
    let one_more : g.I.In.received c.args.input.now c.recv.new.self ≡ received ++
    c.in-Item.event ∷ [] = both ∙ ap (λ xs. received ++ xs) c.in-Item.ensures.received in
    let gives_up : GivesUp stage (g.I.In.received c.args.input.now c.recv.new.self)
    (g.O.Out.sent c.args.out.now) (g.O.Out.sent c.take_event.new.out) =
    gives_up_in_part g.C.Cut.cut c.args.cut c.args.version c.args.level received _ _ _ _ _ _ _
    one_more c.loop.invariant.state c.loop.invariant.sent
    c.in_err-take_event-in-Item.ensures.err in
    record {
      input_link = c.in-Item.ensures.link ∙ c.loop.invariant.input_link;
      follows = g.met.I.In.goes_on c.args.input.now c.loop.input c.recv.new.self
          c.loop.invariant.follows c.in-Item.ensures.follows;
      out_link = c.take_event.ensures.link ∙ c.loop.invariant.out_link;
      ended = IfOk-from_err _ _ c.from_residual-in_err-take_event-in-Item.ensures.0;
      sent = IfOk-from_err _ _ c.from_residual-in_err-take_event-in-Item.ensures.0;
      err = on_err _ gives_up;
    }

pub loop-preserved : goal.loop-preserved
loop-preserved g c =
    let stage = inner_events c.args.level (g.C.Cut.cut c.args.cut) c.args.version in
    let received = g.I.In.received c.args.input.now c.loop.input in
    let both = g.met.I.In.received_both c.args.input.now c.loop.input c.recv.new.self
    c.loop.invariant.follows c.in-Item.ensures.follows in
    let one_more : g.I.In.received c.args.input.now c.recv.new.self ≡ received ++
    c.in-Item.event ∷ [] = both ∙ ap (λ xs. received ++ xs) c.in-Item.ensures.received in
    let takes = c.in_ok-take_event-in-Item.ensures.ok.1 in
    record {
      input_link = c.in-Item.ensures.link ∙ c.loop.invariant.input_link;
      follows = g.met.I.In.goes_on c.args.input.now c.loop.input c.recv.new.self
          c.loop.invariant.follows c.in-Item.ensures.follows;
      out_link = c.take_event.ensures.link ∙ c.loop.invariant.out_link;
      state = takes.state c.args.cut c.args.version c.args.level received c.loop.invariant.state ∙
          ap (node_level g.C.Cut.cut c.args.cut c.args.version c.args.level) (sym one_more);
      sent = sends_rest _ _ _ _ _ _ c.loop.invariant.sent c.in_ok-take_event-in-Item.ensures.ok.2
          (ap (stage faulty) one_more ∙ takes.events c.args.cut c.args.version c.args.level received
          c.loop.invariant.state);
    }

pub returns-in_err-send_closed-in-End-Clean : goal.returns-in_err-send_closed-in-End-Clean
returns-in_err-send_closed-in-End-Clean g c =
    let stage = inner_events c.args.level (g.C.Cut.cut c.args.cut) c.args.version in
    let both = g.met.I.In.received_both c.args.input.now c.loop.input c.recv.new.self
    c.loop.invariant.follows c.in-End-Clean.ensures.follows in
    let gives_up : GivesUp stage (g.I.In.received c.args.input.now c.recv.new.self)
    (g.O.Out.sent c.args.out.now) (g.O.Out.sent c.send_closed.new.out) =
    gives_up_before stage (nodes_keep (g.C.Cut.cut c.args.cut) c.args.version c.args.level) _ _ _ _
    _ _
    both c.loop.invariant.sent c.in_err-send_closed-in-End-Clean.ensures.err in
    record {
      input_link = c.in-End-Clean.ensures.link ∙ c.loop.invariant.input_link;
      follows = g.met.I.In.goes_on c.args.input.now c.loop.input c.recv.new.self
          c.loop.invariant.follows c.in-End-Clean.ensures.follows;
      out_link = c.send_closed.ensures.link ∙ c.loop.invariant.out_link;
      ended = IfOk-from_err _ _ c.from_residual-in_err-send_closed-in-End-Clean.ensures.0;
      sent = IfOk-from_err _ _ c.from_residual-in_err-send_closed-in-End-Clean.ensures.0;
      err = on_err _ gives_up;
    }

pub returns-in-End-Clean : goal.returns-in-End-Clean
returns-in-End-Clean g c =
    let stage = inner_events c.args.level (g.C.Cut.cut c.args.cut) c.args.version in
    let received = g.I.In.received c.args.input.now c.loop.input in
    let both = g.met.I.In.received_both c.args.input.now c.loop.input c.recv.new.self
    c.loop.invariant.follows c.in-End-Clean.ensures.follows in
    record {
      input_link = c.in-End-Clean.ensures.link ∙ c.loop.invariant.input_link;
      follows = g.met.I.In.goes_on c.args.input.now c.loop.input c.recv.new.self
          c.loop.invariant.follows c.in-End-Clean.ensures.follows;
      out_link = c.send_closed.ensures.link ∙ c.loop.invariant.out_link;
      ended = search (rules, c.in-End-Clean.ensures.progress);
      sent = sends_rest _ _ _ _ _ _ c.loop.invariant.sent
          c.in_ok-send_closed-in-End-Clean.ensures.ok
          (ap (stage clean) (nothing_came _ _ _ both c.in-End-Clean.ensures.received) ∙
          c.finish.ensures c.args.cut c.args.version c.args.level received
          c.loop.invariant.state);
      err = tt;
    }

pub returns-in-End-Fault : goal.returns-in-End-Fault
returns-in-End-Fault g c =
    let stage = inner_events c.args.level (g.C.Cut.cut c.args.cut) c.args.version in
    let both = g.met.I.In.received_both c.args.input.now c.loop.input c.recv.new.self
    c.loop.invariant.follows c.in-End-Fault.ensures.follows in
    record {
      input_link = c.in-End-Fault.ensures.link ∙ c.loop.invariant.input_link;
      follows = g.met.I.In.goes_on c.args.input.now c.loop.input c.recv.new.self
          c.loop.invariant.follows c.in-End-Fault.ensures.follows;
      out_link = c.loop.invariant.out_link;
      ended = search (rules, c.in-End-Fault.ensures.progress);
      sent = c.loop.invariant.sent ∙ ap (λ xs. g.O.Out.sent c.args.out.now ++ stage faulty xs)
          (sym (nothing_came _ _ _ both c.in-End-Fault.ensures.received));
      err = tt;
    }

pub returns-in-Lost : goal.returns-in-Lost
returns-in-Lost g c =
    let stage = inner_events c.args.level (g.C.Cut.cut c.args.cut) c.args.version in
    let both = g.met.I.In.received_both c.args.input.now c.loop.input c.recv.new.self
    c.loop.invariant.follows c.in-Lost.ensures.follows in
    record {
      input_link = c.in-Lost.ensures.link ∙ c.loop.invariant.input_link;
      follows = g.met.I.In.goes_on c.args.input.now c.loop.input c.recv.new.self
          c.loop.invariant.follows c.in-Lost.ensures.follows;
      out_link = c.loop.invariant.out_link;
      ended = ended_by _ _ c.in-Lost.ensures.progress tt;
      sent = c.loop.invariant.sent ∙ ap (λ xs. g.O.Out.sent c.args.out.now ++ stage faulty xs)
          (sym (nothing_came _ _ _ both c.in-Lost.ensures.received));
      err = tt;
    }
