use Rattle.std.proofs.lemmas.Result.{IfErr-weaker}
use Rattle.prolly_check.proofs.Canonical.{err_of, ok_of}
use Rattle.prolly_check.proofs.MapFiles.{no_stream_fault}
use Rattle.prolly_check.proofs.Sources.{failure_told, none_failed}
use Rattle.prolly_check.proofs.stream.root_checker.check_by_root.Goals as goal

pub returns-clause-accepted : goal.returns-clause-accepted
returns-clause-accepted g c = λ honest. ok_of _ _ c.check_with.result (c.check_with.ensures.verdict honest)

pub returns-clause-files : goal.returns-clause-files
returns-clause-files g c = λ honest content f version root short.
    IfErr-weaker c.check_with.result _ _
    (no_stream_fault (g.S.Source.seen c.args.source.now).left content f short c.args.version version
    c.args.root.now.0 root)
    (err_of _ _ c.check_with.result (c.check_with.ensures.verdict honest))

pub returns-clause-refused : goal.returns-clause-refused
returns-clause-refused g c = λ honest. err_of _ _ c.check_with.result (c.check_with.ensures.verdict honest)

pub returns-clause-read : goal.returns-clause-read
returns-clause-read g c = failure_told _ _ _ c.check_with.result c.check_with.ensures.source

pub returns-clause-unfailed : goal.returns-clause-unfailed
returns-clause-unfailed g c = none_failed _ _ _ c.check_with.result c.check_with.ensures.source

pub returns-clause-never : goal.returns-clause-never
returns-clause-never g c = c.check_with.ensures.source.0.never

pub returns-clause-honest : goal.returns-clause-honest
returns-clause-honest g c = c.check_with.ensures.source.0.honest

pub returns-clause-steady : goal.returns-clause-steady
returns-clause-steady g c = c.check_with.ensures.source.0.steady
