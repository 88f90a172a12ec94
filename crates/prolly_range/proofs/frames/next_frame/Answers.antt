use Rattle.std.proofs.Common.{◌≡◌, ◌∙◌, ap, arith, length, sym, take}
use Rattle.prolly_range.proofs.FrameReads.{one_frame}
use Rattle.prolly_range.proofs.frames.next_frame.Goals as goal

pub returns-in-Some-frame_at-clause-frame : goal.returns-in-Some-frame_at-clause-frame
returns-in-Some-frame_at-clause-frame g c =
    let first = c.read_up_to.new.bytes in
    let all = c.read_up_to-2.new.bytes in
    let few = c.in_ok-is_over.ensures.within (omega (arith, c.new-bytes.ensures.len)) in
    let nine : length first.items ≡ 9 = omega (
      arith,
      few,
      first.ok.0,
      c.in_ok-is_over.ensures.enough c.if-is_over.false,
    ) in
    let size = c.frame_size-size.ensures in
    let most = rw c.deref-2.ensures.value at size.most in
    let within = c.in_ok-read_up_to.ensures.within (omega (arith, few, size.least)) in
    one_frame first.items all.items c.in-Some-frame_at.field-0
    (ap (λ n. take n all.items) (sym nine) ∙ c.in_ok-read_up_to.ensures.grows)
    (omega (
      arith,
      all.ok.0,
      size.least,
      c.in_ok-read_up_to.ensures.enough c.if-branch.false,
    ))
    (omega (arith, all.ok.0, within, most)) (rw c.deref-3.ensures.value at
    c.in-Some-frame_at.ensures.found)
