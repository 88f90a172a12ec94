use Rattle.std.proofs.Common.{◌∙◌, arith, sym}
use Rattle.std.proofs.lemmas.List.{get_or_default}
use Rattle.prolly_look_up.specs.lemmas.SameBytes.{equal}
use Rattle.prolly_look_up.proofs.step.test_named.Goals as goal

pub returns-clause-ok : goal.returns-clause-ok
returns-clause-ok c =
    let chunk = c.args.chunk.now in
    record {
      bytes = λ k d within.
          omega (arith, c.type_inv.chunk k, get_or_default chunk k 0 d within);
      is = sym c.of.ensures.hashed ∙
          equal c.of.result.0 c.args.reference.now.0 c.if-ne.ensures;
      ordered = record {
        whole = c.is_whole.ensures.whole c.if-not-is_whole.false;
        rising = c.keys_rise.ensures.0 c.if-not-keys_rise.false;
      };
    }
