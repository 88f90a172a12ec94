use Rattle.std.proofs.Common.{◌≡◌, ap, sym, ◌∙◌, rules, refl, map, drop, length, take, ◌-◌, arith}
use Rattle.std.proofs.lemmas.List.{length-drop, length-map, take_all}
use Rattle.prolly_look_up.specs.Entries.{children_in}
use Rattle.prolly_root_diff.proofs.siblings.Siblings.below.Goals as goal

pub returns : goal.returns
returns g c =
    let whole : take (length c.args.node.now - 1) (drop 1 c.args.node.now) ≡ drop 1 c.args.node.now =
    take_all (length c.args.node.now - 1) (drop 1 c.args.node.now)
    (omega (arith, length-drop 1 c.args.node.now)) in
    let are : map (λ r. r.0) c.in_ok-behind.behind.items ≡
    map (λ c. c.reference) (children_in c.args.version (drop 1 c.args.node.now)) =
    rw whole at c.in_ok-behind.ensures in
    record {
      parent = _;
      above = refl;
      stands = refl;
      level = search rules;
      count = c.len-count.ensures ∙ c.in_ok-behind.behind.ok.0 ∙
          sym (length-map c.in_ok-behind.behind.items (λ r. r.0)) ∙ ap length are ∙
          length-map (children_in c.args.version (drop 1 c.args.node.now)) (λ c. c.reference);
      references = ap (map (λ r. r.0)) (sym c.in-Some.ensures.items) ∙ are;
    }
