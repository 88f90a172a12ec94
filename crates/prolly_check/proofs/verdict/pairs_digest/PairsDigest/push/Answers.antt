use Rattle.std.proofs.Common.{◌∙◌, ◌&&◌, ap, refl}
use Rattle.prolly_entry.specs.Cut.{sha512_cut}
use Rattle.prolly_check.proofs.PairCounts.{counted_more}
use Rattle.prolly_check.proofs.verdict.pairs_digest.PairsDigest.push.Goals as goal

pub returns-then-self-clause-pairs : goal.returns-then-self-clause-pairs
returns-then-self-clause-pairs c = λ pairs pair rises spelled old.
    counted_more c.args.cut pairs pair c.args.self.now _ old refl
    (ap (λ b. c.args.self.now.rises && b) rises) (rw c.if-self.true refl) (rw c.if-self.true refl)

pub returns-clause-pairs : goal.returns-clause-pairs
returns-clause-pairs c = λ pairs pair rises spelled old.
    let is = c.is_boundary-is_boundary.ensures ∙ ap (sha512_cut c.args.cut).is_boundary spelled in
    counted_more c.args.cut pairs pair c.args.self.now _ old refl
    (ap (λ b. c.args.self.now.rises && b) rises) (rw c.if-self.false is) (rw c.if-self.false is)
