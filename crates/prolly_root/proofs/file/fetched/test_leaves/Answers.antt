use Rattle.std.proofs.Common.{◌∙◌, arith, sym}
use Rattle.std.proofs.lemmas.List.{same_lists}
use Rattle.prolly_root.proofs.file.fetched.test_leaves.Goals as goal

pub returns : goal.returns
returns g c =
    let old = c.args.leaves.now in
    let new = c.for_each_mut.new.s in
    let long = c.for_each_mut.auto.s in
    same_lists new old long (λ k d within.
    let one = (c.for_each_mut.ensures k d (omega (arith, within, long))).1 in
    sym one.left ∙ one.call ∙ one.argument_is)
