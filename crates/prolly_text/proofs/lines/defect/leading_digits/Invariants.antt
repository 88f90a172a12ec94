use Rattle.std.proofs.Common.{◌≡◌, All, take, true}
use Rattle.std.specs.Char.{is_ascii_hexdigit}
use Rattle.prolly_text.proofs.lines.defect.leading_digits.Given as goal

abbrev pub invariant-loop-place : goal.invariant-loop-place
invariant-loop-place l = All (λ b. is_ascii_hexdigit b ≡ true) (take l.place l.text)
