use Rattle.std.proofs.Common.{◌∙◌, ◌-◌, ap, arith, drop, subst, sym, take}
use Rattle.prolly_root.proofs.Endings.{tells_last}
use Rattle.prolly_root.specs.NamedRoot.{TellsRoot}
use Rattle.prolly_root.proofs.file.end_record.root_at_end.Goals as goal

pub returns-clause-tells : goal.returns-clause-tells
returns-clause-tells g c = λ honest size_is.
    let bytes = (g.D.Device.seen c.args.device.now).bytes in
    subst (TellsRoot bytes) (sym c.ok_or.ensures.value)
    (tells_last bytes _ c.read_end.result (omega (arith, c.requires, size_is))
    (c.in-Ok.ensures.bytes honest ∙
    ap (λ n. take n (drop (c.args.size - 29) bytes)) c.read_at.auto.buf ∙
    ap (λ n. take 29 (drop (n - 29) bytes)) size_is)
    c.read_end.ensures.names c.read_end.ensures.none)
