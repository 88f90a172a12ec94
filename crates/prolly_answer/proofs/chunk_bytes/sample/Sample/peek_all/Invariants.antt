use Rattle.std.specs.Vec.Iter.{into_iter_items}
use Rattle.prolly_io.specs.Rejoined.{rejoined_view}
use Rattle.prolly_answer.proofs.Peeking.{ArePeeked}
use Rattle.prolly_answer.proofs.chunk_bytes.sample.Sample.peek_all.Given as goal

-- Some of the sources were looked at.
abbrev pub invariant-loop-source : goal.invariant-loop-source
invariant-loop-source g l = ArePeeked g.S.Source.seen (rejoined_view g.S.Source.seen)
    l.fn.sources.items l.yielded (into_iter_items l.source-iterator) l.wholes.items l.initial.self l.self
