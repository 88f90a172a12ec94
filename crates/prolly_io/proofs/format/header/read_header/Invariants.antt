use Rattle.std.proofs.Common.{◌≡◌, ◌≤◌, length}
use Rattle.prolly_io.specs.Header.{header_tests, header_fault}
use Rattle.prolly_io.proofs.HeaderBytes.{at}
use Rattle.prolly_io.proofs.format.header.read_header.Given as goal

abbrev pub invariant-loop-offset : goal.invariant-loop-offset
invariant-loop-offset l = (header_fault header_tests l.bytes ≡ at header_tests l.bytes l.offset) ×
    (l.offset ≤ length l.bytes)
