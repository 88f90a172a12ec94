use Rattle.std.proofs.lemmas.Grind.{common_steps}
use Rattle.std.proofs.Common.{◌≡◌, ◌∙◌, true, arith, length, sym, ap, subst}
use Rattle.prolly_io.specs.Bytes.{are_bytes}
use Rattle.prolly_io.specs.Script.{SourceScript}
use Rattle.prolly_io.proofs.ScriptReads.{all_given, handed_out, rest_are_bytes}
use Rattle.prolly_io.proofs.device.script.source.ScriptSourceSource.read.Goals as goal

pub returns-clause-bytes : goal.returns-clause-bytes
returns-clause-bytes c =
    let given = c.copy_some-count.ensures in (
      sym (ap (λ (s : SourceScript). s.left) c.self.view_is)
          ∙ handed_out _ _ c.args.buf.now c.copy_some-count.new.to _ _ _ c.deref.ensures.value
          given.count given.copied,
      λ none more.
          let size : length c.copy_some-count.new.to ≡ length c.args.buf.now =
          c.copy_some-count.auto.to in
          all_given _ _ c.args.buf.now _ _ _ c.self.invariant.1 c.deref.ensures.value given.count
          none (omega arith),
    )

pub returns-clause-honest : goal.returns-clause-honest
returns-clause-honest c honest =
    let seen = subst (λ (s : SourceScript). are_bytes s.left ≡ true) (sym c.self.view_is) honest in
    rest_are_bytes c.self.inside.bytes.items c.self.inside.at c.copy_some-count.result seen

pub returns-clause-count : goal.returns-clause-count
returns-clause-count c = grind (arith, common_steps) steps 2000000

pub returns-clause-behind : goal.returns-clause-behind
returns-clause-behind c = grind (arith, common_steps) steps 2000000
