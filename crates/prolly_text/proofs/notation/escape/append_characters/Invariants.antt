-- What was appended, with what is shown of the characters that are left, is that of all; and it is
-- behind what was there.
use Rattle.std.specs.Prelude.{◌≡◌, ◌++◌}
use Rattle.std.specs.List.{flat_map}
use Rattle.std.specs.Str.{chars, IsUtf8}
use Rattle.std.specs.Io.{StartsWith}
use Rattle.std.specs.Str.Iter.{chars_rest}
use Rattle.prolly_text.specs.Escapes.{shown_character}
use Rattle.prolly_text.proofs.notation.escape.append_characters.Given as goal

abbrev pub invariant-loop-character : goal.invariant-loop-character
invariant-loop-character l =
    IsUtf8 (chars_rest l.character-iterator)
    × (l.out.items ++ flat_map shown_character (chars (chars_rest l.character-iterator)) ≡
    l.fn.out.items ++ flat_map shown_character (chars l.fn.text))
    × StartsWith l.out.items l.fn.out.items
