use Rattle.std.proofs.Common.{refl, sym, ◌∙◌}
use Rattle.prolly_check.proofs.Canonical.{told_first, told_later}
use Rattle.prolly_check.proofs.verdict.canonical.first_fault.Goals as goal

pub returns-then-has_pairs : goal.returns-then-has_pairs
returns-then-has_pairs c = λ bits version whole few told.
    told_later bits version c.args.chunks.now few c.args.read c.args.later c.args.fault
    (λ memory. absurd (cc (sym c.if-eq.false ∙ (rw memory at c.eq.ensures)))) (c.if-has_pairs.ensures.some refl) whole told

pub returns : goal.returns
returns c = λ bits version whole few told.
    told_first bits version c.args.chunks.now few c.args.read c.args.later c.args.fault
    (c.if-has_pairs.ensures.none refl) told
