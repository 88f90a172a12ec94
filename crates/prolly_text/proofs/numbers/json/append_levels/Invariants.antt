-- The levels below this number were appended.
use Rattle.std.specs.Prelude.{◌≡◌, [], ◌∷◌, ◌++◌, map, take}
use Rattle.std.specs.List.{join_with_byte}
use Rattle.prolly_text.specs.Json.{level_json}
use Rattle.prolly_text.specs.Rows.{rows_of}
use Rattle.prolly_text.proofs.numbers.json.append_levels.Given as goal

abbrev pub invariant-loop-number : goal.invariant-loop-number
invariant-loop-number l = l.out.items ≡ l.fn.out.items ++ 0x5B ∷ [] ++
    join_with_byte 0x2C (map level_json (take l.number (rows_of l.tree)))
