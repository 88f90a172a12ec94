use Rattle.std.proofs.Common.{rules, sym, subst}
use Rattle.prolly_check.specs.Chunks.{AreReferences}
use Rattle.prolly_check.proofs.CheckedFile.{chunks_are}
use Rattle.prolly_check.proofs.tree.Tree.missing_from.Goals as goal

-- the references are those of the chunks
pub missing_in-requires-clause-references : goal.missing_in-requires-clause-references
missing_in-requires-clause-references c =
    subst (λ chunks. AreReferences chunks c.references.result.now) (sym c.chunks.ensures.chunks)
    (c.references.ensures c.file.result c.file.ensures.of)

pub returns : goal.returns
returns c = search (rules, chunks_are)
