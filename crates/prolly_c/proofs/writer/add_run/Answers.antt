use Rattle.std.proofs.Common.{◌+◌, ◌++◌, ◌∙◌, drop, ap, sym, subst, arith}
use Rattle.std.proofs.lemmas.List.{drop-set-lt}
use Rattle.prolly_c.proofs.Writing.{wrote_full, wrote_room}
use Rattle.prolly_c.specs.Writing.{Wrote}
use Rattle.prolly_c.proofs.writer.add_run.Goals as goal
use Rattle.prolly_c.proofs.writer.add_run.Goals.{then-written-out, else-written-out}

pub returns-clause-wrote : goal.returns-clause-wrote
returns-clause-wrote c = λ bytes done here wrote first is many.
    elim c.if-written-out.branch [
      | then-written-out w ↦ subst
          (λ out. Wrote bytes out
          (record {
            runs = c.args.written.runs + 1;
            pairs = c.args.written.pairs + c.args.count;
          }) (done ++ here)) (sym w.out-is)
          (wrote_room bytes c.args.out.now c.args.written done here c.args.run c.args.count wrote
          first is many (omega arith))
      | else-written-out w ↦ subst
          (λ out. Wrote bytes out
          (record {
            runs = c.args.written.runs + 1;
            pairs = c.args.written.pairs + c.args.count;
          }) (done ++ here)) (sym w.out-is)
          (wrote_full bytes c.args.out.now c.args.written done here c.args.count wrote many
          (omega arith))
    ]

pub returns-clause-behind : goal.returns-clause-behind
returns-clause-behind c = elim c.if-written-out.branch [
  | then-written-out w ↦ ap (drop (c.args.written.runs + 1)) w.out-is ∙
      drop-set-lt (c.args.written.runs + 1) c.args.out.now c.args.written.runs c.args.run
      (omega arith)
  | else-written-out w ↦ ap (drop (c.args.written.runs + 1)) w.out-is
]
