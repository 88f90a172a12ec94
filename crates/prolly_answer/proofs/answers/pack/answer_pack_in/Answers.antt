use Rattle.std.proofs.Common.{rules, refl}
use Rattle.prolly_answer.proofs.Answering.{short_answer, short_refused}
use Rattle.prolly_answer.proofs.answers.pack.answer_pack_in.Goals as goal

pub returns-clause-ok : goal.returns-clause-ok
returns-clause-ok g c = λ honest. short_answer _ _ _ _ _ c.of_fault-in-Err-write_whole.result
    (record {
      file = c.in-Ok.packed.file.items;
      line = _;
      made = record {
        whole = c.in-Ok.ensures.whole honest;
        count = c.in-Ok.packed.count;
        packs = c.in-Ok.ensures.ok honest;
        line_is = refl;
      };
      is_written = record { failed = search rules; took = search rules };
    }) (search rules)

pub returns-clause-err : goal.returns-clause-err
returns-clause-err g c = λ honest. short_refused _ _ _ c.of_fault-in-Err-write_whole.result
    (record {
      file = c.in-Ok.packed.file.items;
      line = _;
      made = record {
        whole = c.in-Ok.ensures.whole honest;
        count = c.in-Ok.packed.count;
        packs = c.in-Ok.ensures.ok honest;
        line_is = refl;
      };
      is_written = record { failed = search rules; took = search rules };
    })
