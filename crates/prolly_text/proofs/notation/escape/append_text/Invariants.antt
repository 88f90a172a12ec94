-- What was appended, with the text of the bytes that are left, is the text of all; and it is behind
-- what was there.
use Rattle.std.specs.Prelude.{◌≡◌, ◌++◌}
use Rattle.std.specs.Io.{StartsWith}
use Rattle.std.specs.Str.Chunks.{utf8_chunks_rest}
use Rattle.prolly_text.specs.Escapes.{text_of}
use Rattle.prolly_text.proofs.notation.escape.append_text.Given as goal

abbrev pub invariant-loop-chunk : goal.invariant-loop-chunk
invariant-loop-chunk l =
    (l.out.items ++ text_of (utf8_chunks_rest l.chunk-iterator) ≡
    l.fn.out.items ++ text_of l.fn.bytes)
    × StartsWith l.out.items l.fn.out.items
