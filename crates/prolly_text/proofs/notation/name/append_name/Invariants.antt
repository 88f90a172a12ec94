-- What was appended, with what is shown of the characters that are left, is that of all; and it is
-- behind what was there.
use Rattle.std.specs.Prelude.{◌≡◌, ◌++◌}
use Rattle.std.specs.List.{flat_map}
use Rattle.std.specs.Str.{chars, IsUtf8}
use Rattle.std.specs.Io.{StartsWith}
use Rattle.std.specs.Str.Iter.{chars_rest}
use Rattle.prolly_text.specs.Names.{shown_in_name}
use Rattle.prolly_text.proofs.notation.name.append_name.Given as goal

abbrev pub invariant-loop-character : goal.invariant-loop-character
invariant-loop-character l =
    IsUtf8 (chars_rest l.character-iterator)
    × (l.out.items ++ flat_map shown_in_name (chars (chars_rest l.character-iterator)) ≡
    l.fn.out.items ++ flat_map shown_in_name (chars l.fn.name))
    × StartsWith l.out.items l.fn.out.items
