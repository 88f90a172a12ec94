use Rattle.std.proofs.Common.{◌≡◌, ◌*◌, take}
use Rattle.prolly_entry.specs.Reference.{IsReference}
use Rattle.prolly_entry.proofs.Texts.{text_of}
use Rattle.prolly_entry.proofs.reference.Ref.from_text.Given as goal

abbrev pub invariant-loop-group : goal.invariant-loop-group
invariant-loop-group l = IsReference l.bytes × (text_of l.group l.bytes ≡ take (8 * l.group) l.text)
