use Rattle.std.proofs.lemmas.Grind.{common_steps}
use Rattle.std.proofs.lemmas.List.{append_assoc}
use Rattle.std.proofs.Common.{◌∙◌, ◌&&◌, ◌+◌, ◌++◌, arith, ap, drop, take}
use Rattle.prolly_io.specs.Bytes.{are_bytes}
use Rattle.prolly_io.specs.BytesLaws.{both_true}
use Rattle.prolly_io.proofs.ScriptReads.{handed_out, rest_are_bytes}
use Rattle.prolly_io.proofs.device.rejoined.RejoinedSource.read.Goals as goal

pub returns-clause-bytes : goal.returns-clause-bytes
returns-clause-bytes g c = λ told.
    let front = c.args.self.now.front.items in
    let given = c.args.self.now.given in
    let count = c.copy_some-count.result in
    let left = (g.S.Source.seen c.args.self.now.rest).left in (
      ap (λ first. first ++ left) (handed_out front c.deref.result.now c.args.buf.now
          c.copy_some-count.new.to given count _ c.deref.ensures.value c.copy_some-count.ensures.count
          c.copy_some-count.ensures.copied)
          ∙ append_assoc (take count c.copy_some-count.new.to) (drop (given + count) front) left,
      grind (arith, common_steps) steps 2000000,
    )

pub returns-clause-honest : goal.returns-clause-honest
returns-clause-honest g c told =
    let front = c.args.self.now.front.items in
    let given = c.args.self.now.given in
    let is_honest = (g.S.Source.seen c.args.self.now.rest).is_honest in
    let both = both_true (are_bytes (drop given front)) is_honest told in
    ap (λ test. test && is_honest) (rest_are_bytes front given c.copy_some-count.result both.0)
    ∙ both.1
