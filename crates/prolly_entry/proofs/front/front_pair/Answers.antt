use Rattle.std.proofs.Common.{sym, subst}
use Rattle.prolly_entry.specs.Front.{IsFrontPair}
use Rattle.prolly_entry.proofs.FrontBytes.{pair_found}
use Rattle.prolly_entry.proofs.front.front_pair.Goals as goal

pub returns-clause-is : goal.returns-clause-is
returns-clause-is c = subst (IsFrontPair c.args.bytes.now) (sym c.as_pair.ensures)
    (pair_found c.args.bytes.now c.front_record.result c.front_record.ensures.is)
