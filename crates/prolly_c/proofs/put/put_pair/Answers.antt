use Rattle.std.proofs.Common.{◌+◌, ◌∙◌, length, arith}
use Rattle.prolly_c.proofs.Behind.{same_behind}
use Rattle.prolly_c.proofs.put.put_pair.Goals as goal

pub returns-clause-behind : goal.returns-clause-behind
returns-clause-behind c =
    let end = c.args.start + (6 + length c.args.key.now + length c.args.value.now) in
    let key_start = c.args.start + 2 in
    let value_length_start = key_start + length c.args.key.now in
    let value_start = value_length_start + 4 in
    same_behind (value_start + length c.args.value.now) end _ _ c.put_bytes-4.ensures.behind
    (omega arith) ∙
    same_behind (value_length_start + length c.to_be_bytes-2.result) end _ _
    c.put_bytes-3.ensures.behind (omega arith) ∙
    same_behind (key_start + length c.args.key.now) end _ _ c.put_bytes-2.ensures.behind
    (omega arith) ∙
    same_behind (c.args.start + length c.to_be_bytes.result) end _ _ c.put_bytes.ensures.behind
    (omega arith)
