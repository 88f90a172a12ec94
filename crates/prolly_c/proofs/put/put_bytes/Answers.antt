use Rattle.std.proofs.Common.{◌+◌, ◌-◌, length, ap, arith}
use Rattle.std.proofs.lemmas.Slice.{drop-put_mid}
use Rattle.prolly_c.proofs.put.put_bytes.Goals as goal

pub returns-clause-behind : goal.returns-clause-behind
returns-clause-behind c =
    let end = c.args.start + length c.args.bytes.now in
    let copied = ap length c.copy_from_slice.ensures.after in
    drop-put_mid c.args.start (end - c.args.start) c.args.out.now c.copy_from_slice.new.self end
    (omega arith) (omega arith) (omega arith)
