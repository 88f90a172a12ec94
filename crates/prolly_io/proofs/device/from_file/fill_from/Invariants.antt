use Rattle.std.proofs.Common.{◌≡◌, ◌≤◌, ◌-◌, length, take, drop}
use Rattle.std.specs.Prelude.{IfSome}
use Rattle.prolly_io.proofs.device.from_file.fill_from.Given as goal

abbrev pub invariant-loop-filled : goal.invariant-loop-filled
invariant-loop-filled g l = record {
  within : l.filled ≤ length l.buf;
  size : length l.buf ≡ length l.initial.buf;
  bytes : IfSome (g.F.PlacedRead.known l.initial.file) (λ bytes.
      take l.filled l.buf ≡ take l.filled (drop l.initial.offset bytes));
}

abbrev pub decreases-loop-filled : goal.decreases-loop-filled
decreases-loop-filled g l = length l.buf - l.filled
