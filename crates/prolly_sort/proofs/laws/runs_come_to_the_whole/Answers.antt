use Rattle.prolly_sort.proofs.Coming.{parts_come}
use Rattle.prolly_sort.proofs.laws.runs_come_to_the_whole.Goals as goal

pub returns : goal.returns
returns c = parts_come
