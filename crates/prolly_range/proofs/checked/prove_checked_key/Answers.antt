use Rattle.std.proofs.Common.{map, ◌∙◌, ap}
use Rattle.std.proofs.lemmas.Result.{IfOk-weaker}
use Rattle.prolly_root.specs.ProofFile.{proof_file}
use Rattle.prolly_range.proofs.checked.prove_checked_key.Goals as goal

pub returns : goal.returns
returns c =
    let chunks = map (λ c. c.now) c.deref.result.now in
    IfOk-weaker c.proof_of.result _ _ (λ proof made content is. record {
      chunks = chunks;
      small = made.0;
      is = made.1 ∙ ap (λ version. proof_file version chunks) (c.version.ensures content is);
      way = rw (c.deref.ensures.value) (c.in_ok-way.ensures content is);
    }) c.proof_of.ensures
