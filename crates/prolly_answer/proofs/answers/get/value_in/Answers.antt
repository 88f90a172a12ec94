use Rattle.std.proofs.Common.{rules}
use Rattle.prolly_answer.specs.RootFaults.{MayRefuse}
use Rattle.prolly_look_up.specs.Sought.Sought.{Key}
use Rattle.prolly_root.specs.lemmas.FirstFaults.{not_opened}
use Rattle.prolly_answer.proofs.RootFaultSteps.{none_refused, refuses_so}
use Rattle.prolly_root.specs.ChunkSource.{StandsInFile}
use Rattle.prolly_root.specs.Reader.{way_of}
use Rattle.prolly_answer.proofs.FoundByRoot.{value_found}
use Rattle.prolly_answer.proofs.WaysStand.{way_stands_in}
use Rattle.prolly_answer.proofs.answers.get.value_in.Goals as goal

pub returns-clause-found : goal.returns-clause-found
returns-clause-found g c =
    let opened = c.in_ok-reader.ensures in
    let goes_over = g.S.ChunkSource.goes_over c.args.source.now in
    value_found c.in_ok-reader.reader c.args.version c.args.root.now.0 opened.of
    (StandsInFile goes_over) (way_of c.get.new.self)
    (way_stands_in g.S.ChunkSource.stands goes_over c.get.new.self
    (λ file goes. c.get.ensures.looked.kept file (opened.asked.0 file goes)
    (opened.tells file goes).1))
    c.args.key.now c.get.result c.get.ensures.found

pub returns-clause-refuses : goal.returns-clause-refuses
returns-clause-refuses g c =
    let opened = c.in_ok-reader.ensures in
    let looked = c.get.ensures in
    refuses_so c.in_ok-reader.reader opened.of (Key c.args.key.now)
    (g.S.ChunkSource.goes_over c.args.source.now)
    c.lawful_files_are_read.ensures c.get.result (λ file goes.
    let told = opened.tells file goes in
    (told.0, looked.looked.tells file (opened.asked.0 file goes) told.1))

pub returns-in_err-reader-clause-refuses : goal.returns-in_err-reader-clause-refuses
returns-in_err-reader-clause-refuses g c =
    let may : MayRefuse (g.S.ChunkSource.goes_over c.args.source.now) c.args.version
    c.args.root.now.0
    (Key c.args.key.now) c.in_err-reader.field-0.0 = none_refused c.lawful_files_are_read.ensures
    (λ file goes. not_opened file (c.in_err-reader.ensures.tells file goes)) in
    search rules
