use Rattle.std.proofs.Common.{◌++◌, ◌∙◌, ap, drop, refl}
use Rattle.prolly_look_up.specs.Entries.{children_in}
use Rattle.prolly_look_up.specs.Sought.{child_sought, sought_of, value_of}
use Rattle.prolly_look_up.specs.lemmas.Chosen.{none_left}
use Rattle.prolly_look_up.proofs.sought.child_sought.Goals as goal

pub returns-in_default-behind-clause-some : goal.returns-in_default-behind-clause-some
returns-in_default-behind-clause-some c =
    let here = c.loop-child.invariant.here in
    let after = children_in c.args.version (drop c.in-Some.behind_it.offset c.args.chunk.now) in
    record {
      before = here.before;
      child = value_of c.in-Some.child;
      after = after;
      are = here.are ∙ ap (λ cs. here.before ++ cs) c.in-Some.ensures.next;
      number = here.number;
      reference = refl;
      sought_there = c.loop-child.invariant.child ∙
          ap (child_sought (sought_of c.loop-child.sought)) c.in-Some.ensures.next ∙
          c.in_default-behind.ensures.here after;
    }

pub loop-child-preserved : goal.loop-child-preserved
loop-child-preserved c = record {
  here = c.in-Some.ensures.mark;
  passed = c.loop-child.invariant.here;
  child = c.loop-child.invariant.child ∙
      ap (child_sought (sought_of c.loop-child.sought)) c.in-Some.ensures.next ∙
      c.in-Some-behind.ensures.past
      (children_in c.args.version (drop c.in-Some.behind_it.offset c.args.chunk.now));
}

pub returns-clause-none : goal.returns-clause-none
returns-clause-none c = c.loop-child.invariant.child ∙
    ap (child_sought (sought_of c.loop-child.sought)) c.in_default.ensures.next ∙
    none_left (sought_of c.loop-child.sought)
