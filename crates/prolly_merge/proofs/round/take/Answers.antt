use Rattle.std.proofs.Common.{◌≡◌, ◌<◌, length, slice_set, sym, ap, ◌∙◌, subst, arith}
use Rattle.prolly_merge.specs.Each.{EachUpto}
use Rattle.prolly_merge.specs.Peeked.{peeked_of}
use Rattle.prolly_merge.specs.MergeStep.{MovesOn}
use Rattle.prolly_merge.specs.Choice.{IsChosen, IsFirstHead, IsFirstUnless}
use Rattle.prolly_merge.specs.Many.{last_with}
use Rattle.prolly_merge.proofs.Peeks.{heads_are, front_stays}
use Rattle.prolly_merge.proofs.Rounds.{chosen_head, chosen_within, chosen_same, chosen_not_ended}
use Rattle.prolly_merge.proofs.Rounds.{round_step, first_stays}
use Rattle.prolly_merge.proofs.Shared.{alone_is, left_out_is}
use Rattle.prolly_merge.proofs.round.take.Goals as goal

pub next_of-requires-clause-head : goal.next_of-requires-clause-head
next_of-requires-clause-head g c = chosen_within c.args.heads.now c.args.least.at c.requires.least.0
    c.requires.least.1

pub next_of-requires-clause-input : goal.next_of-requires-clause-input
next_of-requires-clause-input g c =
    let within : c.args.least.at < length c.args.heads.now =
    chosen_within c.args.heads.now c.args.least.at c.requires.least.0 c.requires.least.1 in
    omega arith

pub unreachable-requires : goal.unreachable-requires
unreachable-requires g c =
    let l = c.requires.least in
    let e = c.next_of.ensures in
    chosen_not_ended l.0 e.0.head c.next_of.result c.in-Ended.field-0
    (chosen_head c.args.inputs.now c.args.heads.now c.args.least.at l.0 e.0 l.1 e.2) e.4
    c.in-Ended.is

pub skip_key-left_out-requires-clause-head : goal.skip_key-left_out-requires-clause-head
skip_key-left_out-requires-clause-head g c =
    let within : c.args.least.at < length c.args.heads.now =
    chosen_within c.args.heads.now c.args.least.at c.requires.least.0 c.requires.least.1 in
    omega arith

pub skip_key-left_out-requires-clause-input : goal.skip_key-left_out-requires-clause-input
skip_key-left_out-requires-clause-input g c =
    let within : c.args.least.at < length c.args.heads.now =
    chosen_within c.args.heads.now c.args.least.at c.requires.least.0 c.requires.least.1 in
    omega arith

pub returns-then-least : goal.returns-then-least
returns-then-least g c =
    let ns = c.args.inputs.now in
    let hs = c.args.heads.now in
    let at = c.args.least.at in
    let l = c.requires.least in
    let e = c.next_of.ensures in
    let r = c.in-Ready.record in
    let same = chosen_same l.0 r e.0.head c.next_of.result (chosen_head ns hs at l.0 e.0 l.1 e.2)
    e.4 c.in-Ready.is in
    let chosen : IsChosen at hs r = subst (IsChosen at hs) same l.1 in
    record {
      step = round_step g.I.In.link g.I.In.progress g.I.In.Follows g.I.In.received g.met.I.In.stays
          g.met.I.In.received_none at r ns hs e.0 e.1
          (peeked_of c.skip_key-left_out.new.inputs c.skip_key-left_out.new.heads)
          c.requires.inputs chosen e.2 (sym e.4 ∙ c.in-Ready.is) e.5 e.6
          (subst (λ ps. EachUpto (MovesOn g.I.In.link g.I.In.progress g.I.In.Follows
          g.I.In.received r.key) (λ old new. new ≡ old) at ps
          (peeked_of c.skip_key-left_out.new.inputs c.skip_key-left_out.new.heads)) e.3
          c.skip_key-left_out.ensures.moves);
      left_out = left_out_is at hs r chosen c.skip_key-left_out.result
          (c.skip_key-left_out.ensures.left_out ∙ ap (last_with r.key) (front_stays ns hs
          c.next_of.new.inputs c.next_of.new.heads at e.1 c.requires.inputs
          (omega (arith, c.next_of.auto.inputs, c.next_of.auto.heads, c.requires.inputs)) e.3));
    }

pub returns : goal.returns
returns g c =
    let ns = c.args.inputs.now in
    let hs = c.args.heads.now in
    let at = c.args.least.at in
    let l = c.requires.least in
    let e = c.next_of.ensures in
    let r = c.in-Ready.record in
    let same = chosen_same l.0 r e.0.head c.next_of.result (chosen_head ns hs at l.0 e.0 l.1 e.2)
    e.4 c.in-Ready.is in
    let chosen : IsChosen at hs r = subst (IsChosen at hs) same l.1 in
    let first : IsFirstHead at hs r = subst (IsFirstHead at hs) same
    (subst (λ b. IsFirstUnless b at hs l.0) c.if-least.false l.2) in
    record {
      step = round_step g.I.In.link g.I.In.progress g.I.In.Follows g.I.In.received g.met.I.In.stays
          g.met.I.In.received_none at r ns hs e.0 e.1
          (peeked_of c.next_of.new.inputs c.next_of.new.heads)
          c.requires.inputs chosen e.2 (sym e.4 ∙ c.in-Ready.is) e.5 e.6
          (subst (EachUpto (MovesOn g.I.In.link g.I.In.progress g.I.In.Follows g.I.In.received
          r.key) (λ old new. new ≡ old) at (slice_set (peeked_of ns hs) at e.1)) (sym e.3)
          (first_stays g.I.In.link g.I.In.progress g.I.In.Follows g.I.In.received g.met.I.In.stays
          g.met.I.In.received_none at r (peeked_of ns hs) e.1
          (subst (λ xs. IsFirstHead at xs r) (sym (heads_are ns hs c.requires.inputs)) first)));
      left_out = alone_is at hs r chosen first;
    }
