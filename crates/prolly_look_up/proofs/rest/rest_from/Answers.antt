use Rattle.std.proofs.Common.{◌≡◌, ◌∷◌, ◌++◌, [], ap, append_assoc, arith, subst, sym, ◌∙◌}
use Rattle.std.proofs.lemmas.Grind.{common_steps}
use Rattle.prolly_entry.specs.Pair.{Pair}
use Rattle.prolly_tree.specs.Difference.{IsMap}
use Rattle.prolly_tree.specs.lemmas.Maps.{map_behind, rises}
use Rattle.prolly_look_up.specs.PairsFrom.{pairs_from}
use Rattle.prolly_look_up.specs.lemmas.PairsFrom.{from_first}
use Rattle.prolly_look_up.proofs.rest.rest_from.Goals as goal

pub loop-key-preserved : goal.loop-key-preserved
loop-key-preserved c =
    let p : Pair = record { key = c.in-Some.key.now; value = c.in-Some.field-0-1.now } in
    let before = c.loop-key.invariant in
    let is : c.loop-key.rest ≡ p ∷ c.next.new.self = grind (arith, common_steps) in record {
      end = (
        before.end.0 ++ p ∷ [],
        before.end.1 ∙ ap (λ ps. before.end.0 ++ ps) is ∙ sym (append_assoc before.end.0 (p ∷ []) _),
      );
      same = grind (arith, common_steps);
      is_map = map_behind (p ∷ []) _ (subst IsMap is before.is_map);
      mark = grind (arith, common_steps);
    }

pub returns-then-not-is_lt-clause-pairs : goal.returns-then-not-is_lt-clause-pairs
returns-then-not-is_lt-clause-pairs c =
    let p : Pair = record { key = c.in-Some.key.now; value = c.in-Some.field-0-1.now } in
    let is = c.in-Some.ensures.1 in
    is ∙ sym (c.loop-key.invariant.same ∙ ap (pairs_from c.args.from.now) is ∙
    from_first c.args.from.now p c.in-Some.ensures.0
    (rises (p ∷ c.in-Some.ensures.0) (subst IsMap is c.loop-key.invariant.is_map))
    (grind (arith, common_steps)))
