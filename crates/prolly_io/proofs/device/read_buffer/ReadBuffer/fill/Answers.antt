use Rattle.std.proofs.lemmas.Grind.{common_steps}
use Rattle.std.proofs.Common.{ap, ◌∙◌, arith}
use Rattle.prolly_io.specs.ReadBuffer.{Held}
use Rattle.prolly_io.proofs.Spans.{kept_given_back}
use Rattle.prolly_io.proofs.device.read_buffer.ReadBuffer.fill.Goals as goal

pub returns-in_err-count-clause-kept : goal.returns-in_err-count-clause-kept
returns-in_err-count-clause-kept g c =
    kept_given_back c.self.inside.bytes.items c.as_mut_slice.result.now c.read_behind.new.bytes
    g.row.KEPT c.self.inside.bytes.len c.self.inside.kept
    c.self.inside.unparsed c.args.self.now.kept c.as_mut_slice.ensures.value
    c.as_mut_slice.ensures.len c.read_behind.ensures.size
    c.self.invariant.before c.self.invariant.ordered c.read_behind.ensures.before
    (ap (λ (h : Held). h.kept) c.self.view_is ∙ c.make_room.ensures.kept)

pub returns-clause-kept : goal.returns-clause-kept
returns-clause-kept g c =
    kept_given_back c.self.inside.bytes.items c.as_mut_slice.result.now c.read_behind.new.bytes
    g.row.KEPT c.self.inside.bytes.len c.self.inside.kept
    c.self.inside.unparsed c.args.self.now.kept c.as_mut_slice.ensures.value
    c.as_mut_slice.ensures.len c.read_behind.ensures.size
    c.self.invariant.before c.self.invariant.ordered c.read_behind.ensures.before
    (ap (λ (h : Held). h.kept) c.self.view_is ∙ c.make_room.ensures.kept)

pub returns-in_err-count-clause-fills : goal.returns-in_err-count-clause-fills
returns-in_err-count-clause-fills g c = grind (arith, common_steps) steps 2000000

pub returns-clause-fills : goal.returns-clause-fills
returns-clause-fills g c = grind (arith, common_steps) steps 2000000

pub invariant_of-self : goal.invariant_of-self
invariant_of-self g c = grind (arith, common_steps) steps 2000000

pub invariant_of-self-2 : goal.invariant_of-self-2
invariant_of-self-2 g c = grind (arith, common_steps) steps 2000000
