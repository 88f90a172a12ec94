use Rattle.std.proofs.Common.{rules, subst, sym}
use Rattle.std.specs.Prelude.{IfErr}
use Rattle.prolly_root.specs.ProofFault.{IsFault}
use Rattle.prolly_root.proofs.Passing.{refused}
use Rattle.prolly_root.proofs.proof.verifier.verify.Goals as goal

pub returns-in_err-chunks-clause-refused : goal.returns-in_err-chunks-clause-refused
returns-in_err-chunks-clause-refused c = refused c.args.version c.args.root.now.0 c.args.key.now
    c.args.proof.now c.from_residual.result (search rules)

pub returns-clause-refused : goal.returns-clause-refused
returns-clause-refused c = refused c.args.version c.args.root.now.0 c.args.key.now
    c.args.proof.now c.go_down.result
    (subst (λ bytes. IfErr c.go_down.result
    (IsFault c.args.version c.args.root.now.0 c.args.key.now bytes)) (sym c.in_ok-chunks.ensures.ok)
    c.go_down.ensures.err)
