-- The bytes so far were appended.
use Rattle.std.specs.Prelude.{◌≡◌, ◌++◌, take}
use Rattle.std.specs.List.{flat_map}
use Rattle.prolly_text.specs.Escapes.{hex_escape}
use Rattle.prolly_text.proofs.notation.escape.append_escapes.Given as goal

abbrev pub invariant-loop-byte : goal.invariant-loop-byte
invariant-loop-byte l = l.out.items ≡
    l.fn.out.items ++ flat_map hex_escape (take l.byte-index l.bytes)
