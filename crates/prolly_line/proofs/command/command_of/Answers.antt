use Rattle.std.proofs.Common.{codes, refl, subst, sym}
use Rattle.prolly_line.proofs.Fits.{always_fitting}
use Rattle.prolly_line.proofs.Names.{not_strange}
use Rattle.prolly_line.specs.AcceptedWords.{Answers, IsAccepted, rows_in}
use Rattle.prolly_line.proofs.command.command_of.Goals as goal

pub unreachable-requires : goal.unreachable-requires
unreachable-requires c =
    not_strange c.args.name.now (rows_in c.args.given.now) c.requires c.in_default.not-pack
    c.in_default.not-scratch
    c.in_default.not-build c.in_default.not-apply c.in_default.not-explain c.in_default.not-check c.in_default.not-root
    c.in_default.not-stat
    c.in_default.not-get c.in_default.not-scan
    c.in_default.not-nth
    c.in_default.not-dump
    c.in_default.not-diff
    c.in_default.not-prove
    c.in_default.not-verify

pub pack-requires : goal.pack-requires
pack-requires c = subst (λ name. IsAccepted (name, rows_in c.args.given.now)) c.in-pack.is c.requires

pub returns-in-pack : goal.returns-in-pack
returns-in-pack c = subst (λ name. Answers (name, rows_in c.args.given.now) c.pack.result)
    (sym c.in-pack.is) c.pack.ensures

pub scratch-requires : goal.scratch-requires
scratch-requires c = subst (λ name. IsAccepted (name, rows_in c.args.given.now)) c.in-scratch.is c.requires

pub returns-in-scratch : goal.returns-in-scratch
returns-in-scratch c = subst (λ name. Answers (name, rows_in c.args.given.now) c.scratch.result)
    (sym c.in-scratch.is) c.scratch.ensures

pub build-requires : goal.build-requires
build-requires c = subst (λ name. IsAccepted (name, rows_in c.args.given.now)) c.in-build.is c.requires

pub returns-in-build : goal.returns-in-build
returns-in-build c = subst (λ name. Answers (name, rows_in c.args.given.now) c.build.result)
    (sym c.in-build.is) c.build.ensures

pub apply-requires : goal.apply-requires
apply-requires c = subst (λ name. IsAccepted (name, rows_in c.args.given.now)) c.in-apply.is c.requires

pub returns-in-apply : goal.returns-in-apply
returns-in-apply c = subst (λ name. Answers (name, rows_in c.args.given.now) c.apply.result)
    (sym c.in-apply.is) (always_fitting (codes "apply") (rows_in c.args.given.now) c.apply.result refl refl
    refl refl refl refl refl c.apply.ensures)

pub explain-requires : goal.explain-requires
explain-requires c = subst (λ name. IsAccepted (name, rows_in c.args.given.now)) c.in-explain.is c.requires

pub returns-in-explain : goal.returns-in-explain
returns-in-explain c = subst (λ name. Answers (name, rows_in c.args.given.now) c.explain.result)
    (sym c.in-explain.is) c.explain.ensures

pub check-requires : goal.check-requires
check-requires c = subst (λ name. IsAccepted (name, rows_in c.args.given.now)) c.in-check.is c.requires

pub returns-in-check : goal.returns-in-check
returns-in-check c = subst (λ name. Answers (name, rows_in c.args.given.now) c.check.result)
    (sym c.in-check.is) (always_fitting (codes "check") (rows_in c.args.given.now) c.check.result refl refl
    refl refl refl refl refl c.check.ensures)

pub root-requires : goal.root-requires
root-requires c = subst (λ name. IsAccepted (name, rows_in c.args.given.now)) c.in-root.is c.requires

pub returns-in-root : goal.returns-in-root
returns-in-root c = subst (λ name. Answers (name, rows_in c.args.given.now) c.root.result)
    (sym c.in-root.is) (always_fitting (codes "root") (rows_in c.args.given.now) c.root.result refl refl
    refl refl refl refl refl c.root.ensures)

pub stat-requires : goal.stat-requires
stat-requires c = subst (λ name. IsAccepted (name, rows_in c.args.given.now)) c.in-stat.is c.requires

pub returns-in-stat : goal.returns-in-stat
returns-in-stat c = subst (λ name. Answers (name, rows_in c.args.given.now) c.stat.result)
    (sym c.in-stat.is) (always_fitting (codes "stat") (rows_in c.args.given.now) c.stat.result refl refl
    refl refl refl refl refl c.stat.ensures)

pub get-requires : goal.get-requires
get-requires c = subst (λ name. IsAccepted (name, rows_in c.args.given.now)) c.in-get.is c.requires

pub returns-in-get : goal.returns-in-get
returns-in-get c = subst (λ name. Answers (name, rows_in c.args.given.now) c.get.result)
    (sym c.in-get.is) c.get.ensures

pub scan-requires : goal.scan-requires
scan-requires c = subst (λ name. IsAccepted (name, rows_in c.args.given.now)) c.in-scan.is c.requires

pub returns-in-scan : goal.returns-in-scan
returns-in-scan c = subst (λ name. Answers (name, rows_in c.args.given.now) c.scan.result)
    (sym c.in-scan.is) (always_fitting (codes "scan") (rows_in c.args.given.now) c.scan.result refl refl
    refl refl refl refl refl c.scan.ensures)

pub nth-requires : goal.nth-requires
nth-requires c = subst (λ name. IsAccepted (name, rows_in c.args.given.now)) c.in-nth.is c.requires

pub returns-in-nth : goal.returns-in-nth
returns-in-nth c = subst (λ name. Answers (name, rows_in c.args.given.now) c.nth.result)
    (sym c.in-nth.is) (always_fitting (codes "nth") (rows_in c.args.given.now) c.nth.result refl refl
    refl refl refl refl refl c.nth.ensures)

pub dump-requires : goal.dump-requires
dump-requires c = subst (λ name. IsAccepted (name, rows_in c.args.given.now)) c.in-dump.is c.requires

pub returns-in-dump : goal.returns-in-dump
returns-in-dump c = subst (λ name. Answers (name, rows_in c.args.given.now) c.dump.result)
    (sym c.in-dump.is) (always_fitting (codes "dump") (rows_in c.args.given.now) c.dump.result refl refl
    refl refl refl refl refl c.dump.ensures)

pub diff-requires : goal.diff-requires
diff-requires c = subst (λ name. IsAccepted (name, rows_in c.args.given.now)) c.in-diff.is c.requires

pub returns-in-diff : goal.returns-in-diff
returns-in-diff c = subst (λ name. Answers (name, rows_in c.args.given.now) c.diff.result)
    (sym c.in-diff.is) (always_fitting (codes "diff") (rows_in c.args.given.now) c.diff.result refl refl
    refl refl refl refl refl c.diff.ensures)

pub prove-requires : goal.prove-requires
prove-requires c = subst (λ name. IsAccepted (name, rows_in c.args.given.now)) c.in-prove.is c.requires

pub returns-in-prove : goal.returns-in-prove
returns-in-prove c = subst (λ name. Answers (name, rows_in c.args.given.now) c.prove.result)
    (sym c.in-prove.is) c.prove.ensures

pub verify-requires : goal.verify-requires
verify-requires c = subst (λ name. IsAccepted (name, rows_in c.args.given.now)) c.in-verify.is c.requires

pub returns-in-verify : goal.returns-in-verify
returns-in-verify c = subst (λ name. Answers (name, rows_in c.args.given.now) c.verify.result)
    (sym c.in-verify.is) c.verify.ensures
