use Rattle.std.proofs.Common.{rules, arith}
use Rattle.prolly_tree.specs.lemmas.Maps.{rises}
use Rattle.prolly_look_up.specs.lemmas.PairsFrom.{rising_is, all_from, rises_from}
use Rattle.prolly_check.proofs.tree.Tree.leaves_from.Goals as goal

pub returns-clause-rising : goal.returns-clause-rising
returns-clause-rising c = grind (arith, rising_is, rises_from, rises)

pub returns-clause-lawful : goal.returns-clause-lawful
returns-clause-lawful c = search (rules, all_from)
