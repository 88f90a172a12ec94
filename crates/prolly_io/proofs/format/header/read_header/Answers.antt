use Rattle.std.proofs.Common.{sym, ◌∙◌, arith}
use Rattle.prolly_io.specs.Header.{header_tests}
use Rattle.prolly_io.proofs.HeaderBytes.{goes_on, stops, ends}
use Rattle.prolly_io.proofs.format.header.read_header.Goals as goal

pub returns-then-offset-bytes-clause-err : goal.returns-then-offset-bytes-clause-err
returns-then-offset-bytes-clause-err c = c.loop-offset.invariant.0 ∙
    ends header_tests c.args.bytes.now c.loop-offset.offset (omega arith) (omega arith)

pub returns-then-not-may_stand-clause-err : goal.returns-then-not-may_stand-clause-err
returns-then-not-may_stand-clause-err c = c.loop-offset.invariant.0 ∙
    stops header_tests c.args.bytes.now c.loop-offset.offset (omega arith) (omega arith)
    (sym c.may_stand.ensures ∙ c.if-not-may_stand.true)

pub loop-offset-preserved : goal.loop-offset-preserved
loop-offset-preserved c = (
  c.loop-offset.invariant.0 ∙
      goes_on header_tests c.args.bytes.now c.loop-offset.offset (omega arith) (omega arith)
      (sym c.may_stand.ensures ∙ c.if-not-may_stand.false),
  omega arith,
)
