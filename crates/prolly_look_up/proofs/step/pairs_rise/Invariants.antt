use Rattle.std.proofs.Common.{◌↔◌, length, map}
use Rattle.std.specs.Option.{option_copied}
use Rattle.prolly_entry.specs.Keys.{Rising}
use Rattle.prolly_look_up.specs.lemmas.RisingKeys.{RisesOn}
use Rattle.prolly_look_up.proofs.step.pairs_rise.Given as goal

abbrev pub invariant-loop-key : goal.invariant-loop-key
invariant-loop-key l = Rising (map (λ p. p.key) l.fn.leaf) ↔
    RisesOn (option_copied l.last) (map (λ p. p.key) l.leaf)

abbrev pub decreases-loop-key : goal.decreases-loop-key
decreases-loop-key l = length l.leaf
