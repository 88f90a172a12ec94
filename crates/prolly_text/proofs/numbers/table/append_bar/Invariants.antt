-- As many were appended as there were digits.
use Rattle.std.specs.Prelude.{◌≡◌, ◌++◌, replicate}
use Rattle.prolly_text.proofs.numbers.table.append_bar.Given as goal

abbrev pub invariant-loop-digit : goal.invariant-loop-digit
invariant-loop-digit l = l.out.items ≡ l.fn.out.items ++ replicate l._digit-index 0x23
