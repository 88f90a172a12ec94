use Rattle.std.proofs.Common.{◌↔◌, [], length, map}
use Rattle.std.specs.Option.{option_copied}
use Rattle.prolly_entry.specs.Keys.{Rising}
use Rattle.prolly_look_up.specs.Entries.{IsNode, children_in}
use Rattle.prolly_look_up.specs.lemmas.RisingKeys.{RisesOn}
use Rattle.prolly_look_up.proofs.step.children_rise.Given as goal

abbrev pub invariant-loop-child : goal.invariant-loop-child
invariant-loop-child l = record {
  node : IsNode l.version l.entries [];
  same : Rising (map (λ c. c.key) (children_in l.version l.fn.entries)) ↔
      RisesOn (option_copied l.last) (map (λ c. c.key) (children_in l.version l.entries));
}

abbrev pub decreases-loop-child : goal.decreases-loop-child
decreases-loop-child l = length l.entries
