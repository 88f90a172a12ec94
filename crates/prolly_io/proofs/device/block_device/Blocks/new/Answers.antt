use Rattle.std.proofs.Common.{ap}
use Rattle.prolly_io.proofs.BlockReads.{and_true}
use Rattle.prolly_io.proofs.device.block_device.Blocks.new.Goals as goal

pub returns : goal.returns
returns g c =
    let device = g.D.Device.seen c.args.device in
    ap (λ honest. record { is_honest = honest; bytes = device.bytes; failures = device.failures })
    (and_true device.is_honest)
