use Rattle.prolly_apply.proofs.Loading.{leaves_told}
use Rattle.prolly_apply.proofs.loader.load_old.Goals as goal

pub returns-clause-first : goal.returns-clause-first
returns-clause-first g c = leaves_told (g.S.ChunkSource.goes_over c.args.source) c.args.version
    c.args.root.now.0 c.send_leaves.result c.err-fault.result c.err-fault.ensures.value
    c.send_leaves.ensures.all
    c.send_leaves.ensures.first
