use Rattle.std.proofs.Common.{length, arith, sym, ap, ◌∙◌}
use Rattle.prolly_entry.specs.Pair.{Pair}
use Rattle.prolly_tree.specs.Tree.{last_key}
use Rattle.prolly_look_up.specs.lemmas.EntryLists.{at_end, key_at_end, none_behind, one_behind}
use Rattle.prolly_look_up.proofs.entries.Pairs.last_key.Goals as goal

pub loop-key-init : goal.loop-key-init
loop-key-init c =
    let all = sym c.self.view_is ∙ c.in_ok-last.ensures.next in
    let first : Pair = record { key = c.in_ok-last.last.now; value = c.in_ok-last.field-0-1.now } in
    record {
      some = omega (arith, ap length all);
      key = ap last_key all ∙ at_end first c.next.new.self;
      short = c.in_ok-last.ensures.lawful.0;
    }

pub loop-key-preserved : goal.loop-key-preserved
loop-key-preserved c = record {
  some = c.loop-key.invariant.some;
  key = c.loop-key.invariant.key ∙ ap (key_at_end c.loop-key.last.now) c.in-Some.ensures.next ∙ one_behind _ c.loop-key.last.now _;
  short = c.in-Some.ensures.lawful.0;
}

pub returns-clause-key : goal.returns-clause-key
returns-clause-key c = (
  c.loop-key.invariant.some,
  none_behind c.loop-key.last.now c.loop-key.pairs c.in_default.ensures.next ∙ sym c.loop-key.invariant.key,
)
