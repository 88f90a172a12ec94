use Rattle.std.proofs.Common.{◌≡◌, ◌*◌, length, take, All}
use Rattle.prolly_entry.specs.Byte.{IsByte}
use Rattle.prolly_entry.proofs.Texts.{text_of}
use Rattle.prolly_entry.proofs.reference.Ref.to_text.Given as goal

abbrev pub invariant-loop-group : goal.invariant-loop-group
invariant-loop-group l = record {
  long : length l.text ≡ 32;
  written : take (8 * l.group) l.text ≡ text_of l.group l.self.0;
  in_range : All IsByte (take (5 * l.group) l.self.0);
}
