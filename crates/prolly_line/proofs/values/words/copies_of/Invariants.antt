use Rattle.std.proofs.Common.{◌≡◌, map, string_bytes, take}
use Rattle.prolly_line.proofs.values.words.copies_of.Given as goal

-- the copies so far are those of the words so far
abbrev pub invariant-loop-word : goal.invariant-loop-word
invariant-loop-word l = map string_bytes l.copies.items ≡
    map (λ w. w.now) (take l.word-index l.words)
