use Rattle.std.proofs.Common.{Err, rules, sym}
use Rattle.prolly_look_up.specs.Sought.Sought.{Key}
use Rattle.prolly_root.specs.ChunkFile.{chunk_file}
use Rattle.prolly_root.specs.lemmas.FirstFaults.{not_opened, only_may}
use Rattle.prolly_c.proofs.Unread.{memory_alone, none_read, only_fails}
use Rattle.prolly_c.proofs.prover.proof_in.Goals as goal

pub returns-in-Ok-clause-lawful : goal.returns-in-Ok-clause-lawful
returns-in-Ok-clause-lawful c content of same root =
    let has = c.new-chunks.ensures.has content (search rules) in
    let opened = c.in-Ok.ensures.tells (chunk_file content) has.goes in
    memory_alone 0 c.prove.result c.prove.ensures.looked.asked.1 (only_fails c.in-Ok.reader
    c.args.key.now c.lawful_files_are_read.ensures has.lawful (sym same) root c.in-Ok.ensures.of
    opened.0 c.prove.result (c.prove.ensures.looked.tells (chunk_file content)
    (c.in-Ok.ensures.asked.0 (chunk_file content) has.goes) opened.1))

pub returns-clause-lawful : goal.returns-clause-lawful
returns-clause-lawful c content of same root =
    let has = c.new-chunks.ensures.has content (search rules) in
    memory_alone {T = Unit {0}} 0 (Err c.in-Err.fault) c.in-Err.ensures.asked.1
    (only_may {sought = Key c.args.key.now} c.lawful_files_are_read.ensures has.lawful (sym same) root
    (not_opened (chunk_file content) (c.in-Err.ensures.tells (chunk_file content) has.goes)))

pub returns-in-Ok-clause-unread : goal.returns-in-Ok-clause-unread
returns-in-Ok-clause-unread c = none_read 0 c.prove.result c.prove.ensures.looked.asked.1
