use Rattle.std.proofs.Common.{ap, refl, ◌∙◌}
use Rattle.prolly_look_up.specs.HeldPairs.{pairs_held}
use Rattle.prolly_root.specs.ProofFile.{IsSomeProof, proof_file}
use Rattle.prolly_root.specs.Reader.{way_of}
use Rattle.prolly_tree.specs.LookUp.{find}
use Rattle.prolly_root.proofs.Descending.{finds, hands_on, looks_up_so}
use Rattle.prolly_root.proofs.look_up.reader.Reader.prove.Goals as goal

pub returns-in_err-descend-clause-looked : goal.returns-in_err-descend-clause-looked
returns-in_err-descend-clause-looked g c = looks_up_so c.in_err-descend.field-0.0
    c.from_residual.result c.from_residual.ensures c.in_err-descend.ensures.looked

pub returns-clause-looked : goal.returns-clause-looked
returns-clause-looked g c = hands_on c.proof-proof.result c.hand_on.result c.hand_on.ensures.ok
    c.hand_on.ensures.err c.in_ok-descend.ensures.looked

pub returns-clause-proves : goal.returns-clause-proves
returns-clause-proves g c =
    let key = c.args.key.now in
    let went = c.in_ok-descend.ensures in
    let way = went.found.way in
    let chunks = way_of c.descend.new.self in
    finds c.descend.new.self _ c.proof-proof.result c.hand_on.result c.hand_on.ensures.ok
    c.hand_on.ensures.err _
    (λ proof chunks. IsSomeProof c.args.self.now.version c.args.self.now.root key proof.items)
    (λ proof made. (
      find (pairs_held way.last) key,
      record {
        chunks = chunks;
        small = made.0;
        is = made.1 ∙ ap (λ version. proof_file version chunks) went.looked.of.0;
        way = record { way = way; value_is = refl };
      },
    )) c.proof-proof.ensures
