use Rattle.std.proofs.lemmas.Grind.{common_steps}
use Rattle.std.proofs.Common.{rules, arith}
use Rattle.prolly_entry.proofs.storage.Storage.value.Goals as goal

pub returns-in-Apart-clause-value : goal.returns-in-Apart-clause-value
returns-in-Apart-clause-value c = search rules

pub returns-in-Block-clause-value : goal.returns-in-Block-clause-value
returns-in-Block-clause-value c = grind (arith, common_steps) steps 2000000

pub returns-in-InPlace-clause-value : goal.returns-in-InPlace-clause-value
returns-in-InPlace-clause-value c = grind (arith, common_steps) steps 2000000
