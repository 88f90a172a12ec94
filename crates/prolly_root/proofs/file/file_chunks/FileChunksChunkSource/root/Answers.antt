use Rattle.std.proofs.Common.{refl, ◌∙◌}
use Rattle.prolly_root.proofs.Descending.{handed_on}
use Rattle.prolly_root.proofs.Sources.{frames_told, header_told}
use Rattle.prolly_root.proofs.Walking.{holds_chunks_still}
use Rattle.prolly_root.proofs.file.file_chunks.FileChunksChunkSource.root.Goals as goal

-- ---- the header is at fault

pub returns-in_err-below-clause-finds : goal.returns-in_err-below-clause-finds
returns-in_err-below-clause-finds g c file goes =
    rw (handed_on c.in_err-below.field-0.0 c.from_residual.result c.from_residual.ensures)
    (header_told c.args.version file (c.in_err-below.ensures.begins file goes.0.0))

-- ---- or the frames

pub returns-in_err-frame-clause-finds : goal.returns-in_err-frame-clause-finds
returns-in_err-frame-clause-finds g c file goes =
    let first = c.in_ok-below.ensures.begins file goes.0.0 in
    rw (handed_on c.in_err-frame.field-0.0 c.from_residual-in_err-frame.result
    c.from_residual-in_err-frame.ensures)
    (frames_told c.args.version file first.0 (c.in_err-frame.ensures.last file
    (holds_chunks_still c.in_ok-below.ensures.read.0 goes.0.0) first.2 first.1))

-- ---- or the root is found

pub returns-clause-finds : goal.returns-clause-finds
returns-clause-finds g c file goes =
    let first = c.in_ok-below.ensures.begins file goes.0.0 in
    let last = c.in_ok-frame.ensures.last file
    (holds_chunks_still c.in_ok-below.ensures.read.0 goes.0.0) first.2 first.1 in (
      rw (first.0, last.0) refl,
      record {
        frame = last.1;
        number_is = last.2;
        below = first.2;
        from_is = first.1;
        last = tt;
      },
    )

pub returns-clause-asked : goal.returns-clause-asked
returns-clause-asked g c =
    let below = c.in_ok-below.ensures in
    let last = c.in_ok-frame.ensures in (
      λ file goes.
          let held = holds_chunks_still below.read.0 goes.0.0 in
          let first = below.begins file goes.0.0 in (
            (holds_chunks_still last.read.0 held, (last.last file held first.2 first.1).3),
            goes.1,
          ),
      last.read.1 ∙ below.read.1,
    )
