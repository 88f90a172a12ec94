use Rattle.prolly_root.proofs.Descending.{handed_on}
use Rattle.prolly_root.proofs.Walking.{ends_so, fault_there, goes_over, no_frame_there}
use Rattle.prolly_root.proofs.file.walk.Walk.next.Goals as goal

pub returns-in_err-start-clause-goes : goal.returns-in_err-start-clause-goes
returns-in_err-start-clause-goes g c file holds at =
    rw (handed_on c.in_err-start.field-0.0 c.from_residual.result c.from_residual.ensures)
    (fault_there holds.cut at (c.in_err-start.ensures.is file holds at))

pub returns-in_err-go_over-in-Chunk-clause-goes : goal.returns-in_err-go_over-in-Chunk-clause-goes
returns-in_err-go_over-in-Chunk-clause-goes g c file holds at =
    rw (handed_on c.in_err-go_over-in-Chunk.field-0.0
    c.from_residual-in_err-go_over-in-Chunk.result
    c.from_residual-in_err-go_over-in-Chunk.ensures)
    (no_frame_there holds.cut at c.in-Chunk.len c.in-Chunk.level
    (rw c.in-Chunk.is at (c.in_ok-start.ensures.is file holds at))
    c.in_err-go_over-in-Chunk.ensures.fault)

pub returns-in-End-clause-goes : goal.returns-in-End-clause-goes
returns-in-End-clause-goes g c file holds at =
    ends_so holds.cut at (rw c.in-End.is at (c.in_ok-start.ensures.is file holds at))
    c.end.result c.end.ensures.none c.end.ensures.fault

pub returns-in_ok-go_over-in-Chunk-clause-goes : goal.returns-in_ok-go_over-in-Chunk-clause-goes
returns-in_ok-go_over-in-Chunk-clause-goes g c file holds at =
    let over = c.in_ok-go_over-in-Chunk.ensures in
    goes_over holds.cut at c.in-Chunk.len c.in-Chunk.level
    (rw c.in-Chunk.is at (c.in_ok-start.ensures.is file holds at)) (record {
      size = over.size;
      offset = over.offset;
      number = over.number;
      fits = over.fits;
      frame_is = over.frame;
    })
