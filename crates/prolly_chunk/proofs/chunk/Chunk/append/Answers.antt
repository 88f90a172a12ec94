use Rattle.std.proofs.Common.{◌∙◌, refl}
use Rattle.prolly_chunk.proofs.Keys.{pair_added}
use Rattle.prolly_chunk.proofs.chunk.Chunk.append.Goals as goal

pub returns-clause-added : goal.returns-clause-added
returns-clause-added c =
    pair_added c.args.pair.now c.self.view_is refl (c.len-start.ensures ∙ c.self.inside.bytes.ok.0)
    refl c.key.ensures.key c.in_ok-append_pair.ensures.ok c.saturating_add-self-inside.ensures
