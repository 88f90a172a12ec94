use Rattle.std.proofs.Common.{◌≡◌, ◌∙◌, subst, sym, ap}
use Rattle.std.specs.Prelude.{MatchOption}
use Rattle.std.proofs.lemmas.Result.{err_from_is_err_and}
use Rattle.prolly_io.specs.Writer.{next_count}
use Rattle.prolly_range.specs.KeySet.{set_of}
use Rattle.prolly_range.specs.Verifier.{ComesTo, IsNextFault, IsRestOf, VerifierView}
use Rattle.prolly_c.proofs.Verifying.{chunk_came, next_refused, not_read, reading_begins}
use Rattle.prolly_c.proofs.Verifying.{reading_goes_on}
use Rattle.prolly_c.proofs.verified.verified.Goals as goal

pub loop-verifier-init : goal.loop-verifier-init
loop-verifier-init c =
    let opened = c.in_ok-verifier.ensures in
    let honest = c.new-source.ensures.honest in
    record {
      version = ap (λ (v : VerifierView). v.version) opened.begins;
      going = ap (λ (v : VerifierView). v.stopped) opened.begins;
      honest = opened.honest honest;
      reading = reading_begins c.args.version c.args.root.now.0 (set_of c.args.set)
          c.args.proof.now c.in_ok-verifier.verifier.due c.in_ok-verifier.verifier.count
          c.open.new.source.left.now (ap (λ (v : VerifierView). v.due) opened.begins)
          (ap (λ (v : VerifierView). v.count) opened.begins)
          (sym c.new-source.ensures.left ∙ opened.start honest);
    }

pub returns-in_err-next-clause-err : goal.returns-in_err-next-clause-err
returns-in_err-next-clause-err c =
    let p = err_from_is_err_and c.from_residual-in_err-next.result
    c.from_residual-in_err-next.ensures.1 in
    let inv = c.loop-verifier.invariant in
    let verifier = c.loop-verifier.verifier in
    let left = c.loop-verifier.source.left.now in
    let fault = c.in_err-next.field-0.0 in
    rw (p.1, p.2) (next_refused c.args.version c.args.root.now.0 (set_of c.args.set)
    c.args.proof.now verifier.due verifier.count left inv.reading fault
    (not_read fault 0 c.in_err-next.ensures.read)
    (subst (λ v. IsNextFault v verifier.due verifier.count left fault) inv.version
    (c.in_err-next.ensures.fault inv.honest inv.going))
    (λ rest. c.in_err-next.ensures.accepts inv.honest inv.going
    (subst (λ v. IsRestOf v verifier.due left) (sym inv.version) rest)))

pub loop-verifier-preserved-in-Some : goal.loop-verifier-preserved-in-Some
loop-verifier-preserved-in-Some c =
    let inv = c.loop-verifier.invariant in
    let verifier = c.loop-verifier.verifier in
    let left = c.loop-verifier.source.left.now in
    let next = c.next.new.self.due in
    let after = c.next.new.source.left.now in
    let chunk = c.in_ok-next.field-0 in
    record {
      version = c.in_ok-next.ensures.version ∙ inv.version;
      going = c.in_ok-next.ensures.goes_on;
      honest = c.in_ok-next.ensures.honest inv.honest;
      reading = reading_goes_on c.args.version c.args.root.now.0 (set_of c.args.set)
          c.args.proof.now verifier.due verifier.count left inv.reading c.in-Some.field-0 next after
          c.next.new.self.count
          (chunk_came c.args.version verifier.version verifier.due next left after _
          c.in-Some.field-0 chunk c.in-Some.is inv.version
          (subst (λ h. ComesTo verifier.version verifier.due chunk next h left after) inv.honest
          c.in_ok-next.ensures.comes))
          (subst (λ o. MatchOption o (c.next.new.self.count ≡ verifier.count)
          (λ _. c.next.new.self.count ≡ next_count verifier.count)) c.in-Some.is
          c.in_ok-next.ensures.count);
    }
