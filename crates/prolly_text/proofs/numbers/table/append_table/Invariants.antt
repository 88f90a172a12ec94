-- The rows from this number on were appended, the last first.
use Rattle.std.specs.Prelude.{◌≡◌, ◌++◌, drop, reverse}
use Rattle.std.specs.List.{flat_map}
use Rattle.prolly_text.specs.Rows.{rows_of}
use Rattle.prolly_text.specs.Table.{head_of, heading, row_line}
use Rattle.prolly_text.proofs.numbers.table.append_table.Given as goal

abbrev pub invariant-loop-number : goal.invariant-loop-number
invariant-loop-number l = l.out.items ≡ l.fn.out.items ++ head_of l.tree ++ heading ++
    flat_map row_line (reverse (drop l.number (rows_of l.tree)))
