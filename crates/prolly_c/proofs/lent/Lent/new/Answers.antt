use Rattle.std.proofs.Common.{All, arith}
use Rattle.std.proofs.lemmas.List.{get_or_default}
use Rattle.prolly_entry.specs.Byte.{IsByte}
use Rattle.prolly_io.specs.BytesLaws.{test_from_bytes}
use Rattle.prolly_c.proofs.lent.Lent.new.Goals as goal

pub returns-clause-honest : goal.returns-clause-honest
returns-clause-honest c =
    let given = c.args.bytes.now in
    let bytes : All IsByte given = λ k d within.
    let fits = c.type_inv.bytes k in
    omega (arith, get_or_default given k d 0 within) in
    test_from_bytes given bytes
