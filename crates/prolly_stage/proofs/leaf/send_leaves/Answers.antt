use Rattle.std.proofs.Common.{◌≡◌, ◌++◌, ◌∷◌, [], rules, ap, sym, ◌∙◌, refl}
use Rattle.std.proofs.lemmas.List.{append-nil}
use Rattle.std.proofs.lemmas.Result.{IfOk-from_err}
use Rattle.prolly_entry.specs.declared.version.Version.{Version}
use Rattle.prolly_tree.specs.Events.{leaf_events, faulty, clean}
use Rattle.prolly_chunk.specs.LeafLevel.{leaf_level}
use Rattle.prolly_stage.specs.Sends.{GivesUp}
use Rattle.prolly_stage.specs.lemmas.Joins.{leaves_keep}
use Rattle.prolly_stage.specs.lemmas.Steps.{on_err, ended_by, sends_rest, gives_up_at_once}
use Rattle.prolly_stage.specs.lemmas.Steps.{gives_up_before}
use Rattle.prolly_entry.specs.lemmas.Lists.{nothing_came}
use Rattle.prolly_stage.proofs.leaf.send_leaves.Goals as goal

pub returns-in_err-leaves : goal.returns-in_err-leaves
returns-in_err-leaves g c =
    let stage = leaf_events (g.C.Cut.cut c.args.cut) in
    let gives_up : (version : Version) → GivesUp (stage version)
    (g.I.In.received c.args.input.now c.args.input.now) (g.O.Out.sent c.args.out.now)
    (g.O.Out.sent c.args.out.now) =
    λ version. gives_up_at_once (stage version) _ _ in
    record {
      input_link = refl;
      follows = g.met.I.In.stays c.args.input.now;
      out_link = refl;
      ended = IfOk-from_err _ _ c.from_residual.ensures.0;
      sent = IfOk-from_err _ _ c.from_residual.ensures.0;
      err = on_err _ gives_up;
    }

pub loop-init : goal.loop-init
loop-init g c =
    let stage = leaf_events (g.C.Cut.cut c.args.cut) in
    let none = g.met.I.In.received_none c.args.input.now in
    record {
      input_link = refl;
      follows = g.met.I.In.stays c.args.input.now;
      out_link = refl;
      state = c.in_ok-leaves.ensures.state ∙ ap (leaf_level g.C.Cut.cut c.args.cut) (sym none);
      sent = λ version. sym (append-nil (g.O.Out.sent c.args.out.now))
          ∙ ap (λ events. g.O.Out.sent c.args.out.now ++ events)
          (sym (c.in_ok-leaves.ensures.events version) ∙ ap (stage version faulty) (sym none));
    }

pub returns-in_err-take_pair-in-Item : goal.returns-in_err-take_pair-in-Item
returns-in_err-take_pair-in-Item g c =
    let stage = leaf_events (g.C.Cut.cut c.args.cut) in
    let both = g.met.I.In.received_both c.args.input.now c.loop.input c.recv.new.self
    c.loop.invariant.follows c.in-Item.ensures.follows in
    let gives_up : (version : Version) → GivesUp (stage version)
    (g.I.In.received c.args.input.now c.recv.new.self) (g.O.Out.sent c.args.out.now)
    (g.O.Out.sent c.take_pair.new.out) =
    λ version. gives_up_before (stage version) (leaves_keep (g.C.Cut.cut c.args.cut) version) _ _ _
    _ _ _
    both (c.loop.invariant.sent version) c.in_err-take_pair-in-Item.ensures.err in
    record {
      input_link = c.in-Item.ensures.link ∙ c.loop.invariant.input_link;
      follows = g.met.I.In.goes_on c.args.input.now c.loop.input c.recv.new.self
          c.loop.invariant.follows c.in-Item.ensures.follows;
      out_link = c.take_pair.ensures.link ∙ c.loop.invariant.out_link;
      ended = IfOk-from_err _ _ c.from_residual-in_err-take_pair-in-Item.ensures.0;
      sent = IfOk-from_err _ _ c.from_residual-in_err-take_pair-in-Item.ensures.0;
      err = on_err _ gives_up;
    }

pub loop-preserved : goal.loop-preserved
loop-preserved g c =
    let stage = leaf_events (g.C.Cut.cut c.args.cut) in
    let received = g.I.In.received c.args.input.now c.loop.input in
    let both = g.met.I.In.received_both c.args.input.now c.loop.input c.recv.new.self
    c.loop.invariant.follows c.in-Item.ensures.follows in
    let one_more : g.I.In.received c.args.input.now c.recv.new.self ≡ received ++
    c.in-Item.pair ∷ [] = both ∙ ap (λ xs. received ++ xs) c.in-Item.ensures.received in
    let takes = c.in_ok-take_pair-in-Item.ensures.ok.1 in
    record {
      input_link = c.in-Item.ensures.link ∙ c.loop.invariant.input_link;
      follows = g.met.I.In.goes_on c.args.input.now c.loop.input c.recv.new.self
          c.loop.invariant.follows c.in-Item.ensures.follows;
      out_link = c.take_pair.ensures.link ∙ c.loop.invariant.out_link;
      state = takes.state c.args.cut received c.loop.invariant.state ∙
          ap (leaf_level g.C.Cut.cut c.args.cut) (sym one_more);
      sent = λ version. sends_rest _ _ _ _ _ _ (c.loop.invariant.sent version)
          c.in_ok-take_pair-in-Item.ensures.ok.2
          (ap (stage version faulty) one_more ∙
          takes.events c.args.cut version received c.loop.invariant.state);
    }

pub returns-in_err-send_closed-in-End-Clean : goal.returns-in_err-send_closed-in-End-Clean
returns-in_err-send_closed-in-End-Clean g c =
    let stage = leaf_events (g.C.Cut.cut c.args.cut) in
    let both = g.met.I.In.received_both c.args.input.now c.loop.input c.recv.new.self
    c.loop.invariant.follows c.in-End-Clean.ensures.follows in
    let gives_up : (version : Version) → GivesUp (stage version)
    (g.I.In.received c.args.input.now c.recv.new.self) (g.O.Out.sent c.args.out.now)
    (g.O.Out.sent c.send_closed.new.out) =
    λ version. gives_up_before (stage version) (leaves_keep (g.C.Cut.cut c.args.cut) version) _ _ _
    _ _ _
    both (c.loop.invariant.sent version) c.in_err-send_closed-in-End-Clean.ensures.err in
    record {
      input_link = c.in-End-Clean.ensures.link ∙ c.loop.invariant.input_link;
      follows = g.met.I.In.goes_on c.args.input.now c.loop.input c.recv.new.self
          c.loop.invariant.follows c.in-End-Clean.ensures.follows;
      out_link = c.send_closed.ensures.link ∙ c.loop.invariant.out_link;
      ended = IfOk-from_err _ _ c.from_residual-in_err-send_closed-in-End-Clean.ensures.0;
      sent = IfOk-from_err _ _ c.from_residual-in_err-send_closed-in-End-Clean.ensures.0;
      err = on_err _ gives_up;
    }

pub returns-in-End-Clean : goal.returns-in-End-Clean
returns-in-End-Clean g c =
    let stage = leaf_events (g.C.Cut.cut c.args.cut) in
    let received = g.I.In.received c.args.input.now c.loop.input in
    let both = g.met.I.In.received_both c.args.input.now c.loop.input c.recv.new.self
    c.loop.invariant.follows c.in-End-Clean.ensures.follows in
    record {
      input_link = c.in-End-Clean.ensures.link ∙ c.loop.invariant.input_link;
      follows = g.met.I.In.goes_on c.args.input.now c.loop.input c.recv.new.self
          c.loop.invariant.follows c.in-End-Clean.ensures.follows;
      out_link = c.send_closed.ensures.link ∙ c.loop.invariant.out_link;
      ended = search (rules, c.in-End-Clean.ensures.progress);
      sent = λ version. sends_rest _ _ _ _ _ _ (c.loop.invariant.sent version)
          c.in_ok-send_closed-in-End-Clean.ensures.ok
          (ap (stage version clean) (nothing_came _ _ _ both c.in-End-Clean.ensures.received) ∙
          c.finish.ensures c.args.cut version received c.loop.invariant.state);
      err = tt;
    }

pub returns-in-End-Fault : goal.returns-in-End-Fault
returns-in-End-Fault g c =
    let stage = leaf_events (g.C.Cut.cut c.args.cut) in
    let both = g.met.I.In.received_both c.args.input.now c.loop.input c.recv.new.self
    c.loop.invariant.follows c.in-End-Fault.ensures.follows in
    record {
      input_link = c.in-End-Fault.ensures.link ∙ c.loop.invariant.input_link;
      follows = g.met.I.In.goes_on c.args.input.now c.loop.input c.recv.new.self
          c.loop.invariant.follows c.in-End-Fault.ensures.follows;
      out_link = c.loop.invariant.out_link;
      ended = search (rules, c.in-End-Fault.ensures.progress);
      sent = λ version. c.loop.invariant.sent version ∙
          ap (λ xs. g.O.Out.sent c.args.out.now ++ stage version faulty xs)
          (sym (nothing_came _ _ _ both c.in-End-Fault.ensures.received));
      err = tt;
    }

pub returns-in-Lost : goal.returns-in-Lost
returns-in-Lost g c =
    let stage = leaf_events (g.C.Cut.cut c.args.cut) in
    let both = g.met.I.In.received_both c.args.input.now c.loop.input c.recv.new.self
    c.loop.invariant.follows c.in-Lost.ensures.follows in
    record {
      input_link = c.in-Lost.ensures.link ∙ c.loop.invariant.input_link;
      follows = g.met.I.In.goes_on c.args.input.now c.loop.input c.recv.new.self
          c.loop.invariant.follows c.in-Lost.ensures.follows;
      out_link = c.loop.invariant.out_link;
      ended = ended_by _ _ c.in-Lost.ensures.progress tt;
      sent = λ version. c.loop.invariant.sent version ∙
          ap (λ xs. g.O.Out.sent c.args.out.now ++ stage version faulty xs)
          (sym (nothing_came _ _ _ both c.in-Lost.ensures.received));
      err = tt;
    }
