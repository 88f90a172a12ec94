use Rattle.std.proofs.Common.{inr, refl, sym, ◌∙◌}
use Rattle.std.proofs.Math.Logic.{⊎_map}
use Rattle.std.proofs.lemmas.Result.{err_from_is_err_and}
use Rattle.prolly_check.proofs.ChunkSteps.{flaw_of_place, keys_fall, keys_rise, one_read}
use Rattle.prolly_check.proofs.stream.chunks_read.ChunksRead.take.Goals as goal

pub returns-then-not-branch-clause-takes : goal.returns-then-not-branch-clause-takes
returns-then-not-branch-clause-takes c = λ chunks r few.
    inr (keys_fall c.args.self.now.follower.cut c.args.self.now.follower.version chunks
    c.args.chunk.now c.args.self.now r c.requires.digest.whole
    (sym c.in_ok-rises_to.ensures.rises ∙ c.if-not-branch.true))

pub returns-in_err-take-clause-takes : goal.returns-in_err-take-clause-takes
returns-in_err-take-clause-takes c = λ chunks r few.
    let p = err_from_is_err_and c.from_residual-in_err-take.result
    c.from_residual-in_err-take.ensures.1 in
    let rises = sym c.in_ok-rises_to.ensures.rises ∙ c.if-not-branch.false in
    rw (p.1, p.2)
    (⊎_map (λ memory. memory)
    (flaw_of_place c.args.self.now.follower.cut c.args.self.now.follower.version chunks
    c.args.chunk.now _ _ c.requires.digest.whole
    (keys_rise chunks c.args.chunk.now c.args.self.now r rises) few)
    (rw c.in_ok-rises_to.ensures.same.0 at
    (c.in_err-take.ensures.takes chunks r.count (rw c.in_ok-rises_to.ensures.same.0 r.follows))))

pub returns-clause-takes : goal.returns-clause-takes
returns-clause-takes c = λ chunks r few.
    let rises = sym c.in_ok-rises_to.ensures.rises ∙ c.if-not-branch.false in
    let same = c.in_ok-rises_to.ensures.same.0 in
    one_read chunks c.args.chunk.now c.args.self.now _ r c.requires.digest.whole
    (c.in_ok-take.ensures.takes chunks r.count (rw same r.follows))
    (rw same at c.in_ok-take.ensures.alike) rises
    (c.in_ok-rises_to.ensures.last c.if-not-branch.false) refl
    c.requires.digest.reference
