use Rattle.std.proofs.Common.{◌-◌, arith}
use Rattle.prolly_text.proofs.Rows.{first_row, upper_row}
use Rattle.prolly_text.proofs.numbers.table.row_at.Goals.{then-number-eq0, else-number-eq0}
use Rattle.prolly_text.proofs.numbers.table.row_at.Goals as goal

pub returns : goal.returns
returns c = elim c.if-number-eq0.branch [
  | then-number-eq0 w ↦
      let first = first_row c.args.tree.now.levels.now 0 c.args.tree.now.pairs _ (omega arith) in
      rw (w.if-number-eq0.true, w.entries-is) first
  | else-number-eq0 w ↦
      upper_row c.args.tree.now.levels.now c.args.tree.now.pairs c.args.number
      (c.args.number - 1) c.if-number-eq0.entries _ (omega arith) (omega arith) w.entries-is
]
