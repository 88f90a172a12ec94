use Rattle.std.proofs.Common.{◌++◌, ◌∷◌, ◌∙◌, [], ap, append-nil, refl, subst, sym}
use Rattle.std.proofs.lemmas.Result.{err_from_is_err_and}
use Rattle.prolly_root.specs.ChunkFile.{chunk_file}
use Rattle.prolly_range.specs.KeySet.{set_of}
use Rattle.prolly_range.specs.Prover.{WritesPart, WritesRest}
use Rattle.prolly_range.specs.SetProof.{root_due, set_start}
use Rattle.prolly_range.specs.declared.prove_fault.ProveFault.TheVariants as faults
use Rattle.prolly_range.proofs.LawfulSets.{only_fails, rest_told, root_told}
use Rattle.prolly_range.proofs.Writing.{begun_part, flush_part, proof_written, start_part}
use Rattle.prolly_range.proofs.prover.prove_set.Goals as goal

pub returns-in_err-due-clause-part : goal.returns-in_err-due-clause-part
returns-in_err-due-clause-part g c =
    let p = err_from_is_err_and c.from_residual.result c.from_residual.ensures.1 in
    let old = g.W.Sink.seen c.args.sink.now in
    rw p.1 (begun_part c.args.version (root_due c.args.root.now.0 (set_of c.args.set) ∷ []) old old
    (λ keeps. record {
      part = [];
      grown = sym (append-nil old.taken);
      is_prefix = (set_start c.args.version, refl);
    }))

pub returns-in_err-write_chunks-clause-part : goal.returns-in_err-write_chunks-clause-part
returns-in_err-write_chunks-clause-part g c =
    let p = err_from_is_err_and c.from_residual-in_err-write_chunks.result
    c.from_residual-in_err-write_chunks.ensures.1 in
    let old = g.W.Sink.seen c.args.sink.now in
    let mid = g.W.Sink.seen c.write_all.new.sink in
    let new = g.W.Sink.seen c.write_chunks.new.sink in
    rw p.1 (start_part c.args.version (root_due c.args.root.now.0 (set_of c.args.set) ∷ []) old mid
    (λ keeps. c.in_ok-write_all.ensures.writes.written keeps ∙
    ap (λ x. old.taken ++ x) c.set_start.ensures) c.in_ok-write_all.ensures.writes.keeping new
    (subst (λ due. WritesPart c.args.version due [] mid new) c.in_ok-due.ensures.due
    c.in_err-write_chunks.ensures.part))

pub returns-in_err-flush-clause-part : goal.returns-in_err-flush-clause-part
returns-in_err-flush-clause-part g c =
    let p = err_from_is_err_and c.from_residual-in_err-flush.result
    c.from_residual-in_err-flush.ensures.1 in
    let old = g.W.Sink.seen c.args.sink.now in
    let mid = g.W.Sink.seen c.write_all.new.sink in
    let last = g.W.Sink.seen c.write_chunks.new.sink in
    rw p.1 (flush_part c.args.version (root_due c.args.root.now.0 (set_of c.args.set) ∷ []) old mid
    (λ keeps. c.in_ok-write_all.ensures.writes.written keeps ∙
    ap (λ x. old.taken ++ x) c.set_start.ensures) c.in_ok-write_all.ensures.writes.keeping last
    (subst (λ due. WritesRest c.args.version due mid last) c.in_ok-due.ensures.due
    c.in_ok-write_chunks.ensures.rest) (g.W.Sink.seen c.flush.new.self)
    (λ keeps. c.in_err-flush.ensures.bytes (c.in_ok-write_chunks.ensures.keeping
    (c.in_ok-write_all.ensures.writes.keeping keeps))))

pub returns-clause-proves : goal.returns-clause-proves
returns-clause-proves g c =
    let old = g.W.Sink.seen c.args.sink.now in
    let mid = g.W.Sink.seen c.write_all.new.sink in
    let last = g.W.Sink.seen c.write_chunks.new.sink in
    proof_written c.args.version c.args.root.now.0 (set_of c.args.set) old mid last
    (g.W.Sink.seen c.flush.new.self) (λ keeps. c.in_ok-write_all.ensures.writes.written keeps ∙
    ap (λ x. old.taken ++ x) c.set_start.ensures) c.in_ok-write_all.ensures.writes.keeping
    (subst (λ due. WritesRest c.args.version due mid last) c.in_ok-due.ensures.due
    c.in_ok-write_chunks.ensures.rest) (λ keeps. c.in_ok-flush.ensures.bytes
    (c.in_ok-write_chunks.ensures.keeping (c.in_ok-write_all.ensures.writes.keeping keeps)))

-- ---- of a lawful file

pub returns-in_err-due-clause-lawful : goal.returns-in_err-due-clause-lawful
returns-in_err-due-clause-lawful g c content has same named =
    let p = err_from_is_err_and c.from_residual.result c.from_residual.ensures.1 in
    let fault = c.in_err-due.field-0.0 in
    rw (p.1, p.2) (only_fails (set_of c.args.set) c.lawful_files_have_proofs.ensures has.lawful same
    named (faults.Chunks fault)
    (root_told (c.in_err-due.ensures.tells (chunk_file content) has.goes)))

pub returns-in_err-write_chunks-clause-lawful : goal.returns-in_err-write_chunks-clause-lawful
returns-in_err-write_chunks-clause-lawful g c content has same named =
    let p = err_from_is_err_and c.from_residual-in_err-write_chunks.result
    c.from_residual-in_err-write_chunks.ensures.1 in
    let file = chunk_file content in
    let due = c.in_ok-due.ensures.tells file has.goes in
    rw (p.1, p.2) (only_fails (set_of c.args.set) c.lawful_files_have_proofs.ensures has.lawful same
    named c.in_err-write_chunks.field-0.0 (rest_told c.args.version file c.args.root.now.0
    (set_of c.args.set) due.0
    c.in_err-write_chunks.field-0.0 (c.in_err-write_chunks.ensures.tells file _
    (c.in_ok-due.ensures.asked.0 file has.goes) due.1)))
