use Rattle.std.proofs.Common.{◌≡◌, ◌<◌, ℕ, get_or, length}
use Rattle.prolly_entry.specs.declared.reference.Ref.{Ref}
use Rattle.prolly_check.proofs.chunks.numbered.Given as goal

abbrev pub invariant-loop-number : goal.invariant-loop-number
invariant-loop-number l = (length l.entries.items ≡ l.number) ×
    ((k : ℕ) (other : Ref × ℕ) → k < l.number →
    get_or l.entries.items k other ≡ (get_or l.references k other.0, k))
