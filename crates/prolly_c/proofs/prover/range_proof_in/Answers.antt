use Rattle.std.proofs.Common.{◌∙◌, ◌++◌, ap, refl, sym, subst}
use Rattle.prolly_range.specs.KeySet.{set_of}
use Rattle.prolly_range.specs.SetProof.{IsSetProof}
use Rattle.prolly_c.proofs.prover.range_proof_in.Goals as goal

pub returns-in-Ok-clause-proves : goal.returns-in-Ok-clause-proves
returns-in-Ok-clause-proves c =
    let w = c.in-Ok.ensures.proves in
    let is = c.into_bytes.ensures ∙ w.wrote refl ∙ ap (λ x. x ++ w.bytes) c.new-sink.ensures.taken in
    record {
      pairs = w.pairs;
      proof = subst (λ x. IsSetProof c.args.version c.args.root.now.0 (set_of c.args.set) x w.pairs)
          (sym is) w.proof;
    }
