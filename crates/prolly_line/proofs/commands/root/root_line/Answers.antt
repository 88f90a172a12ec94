-- One argument more.
use Rattle.std.proofs.lemmas.Result.{IfOk-weaker}
use Rattle.prolly_line.proofs.LineSteps.{added}
use Rattle.prolly_line.proofs.commands.root.root_line.Goals as goal

pub returns : goal.returns
returns c = IfOk-weaker c.arg.result _ _
    (λ x adds. added c.described.result x c.file_word.result _ _ c.described.ensures
    c.file_word.ensures adds) c.arg.ensures
