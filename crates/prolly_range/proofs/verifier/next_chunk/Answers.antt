use Rattle.std.proofs.Common.{◌≡◌, ◌-◌, ◌++◌, ◌∷◌, ◌∙◌, ap, sym, subst, length, map, drop, take}
use Rattle.std.proofs.Common.{rules, inr, []}
use Rattle.prolly_look_up.specs.Kinds.{kind_of}
use Rattle.prolly_look_up.specs.Way.{FallsTo, IsNamed, level_of}
use Rattle.prolly_root.specs.ProofFault.{IsChunkFault}
use Rattle.prolly_range.specs.Dues.{due_of}
use Rattle.prolly_range.specs.KeySet.{set_of}
use Rattle.prolly_range.specs.SetProof.{due_below}
use Rattle.prolly_range.specs.Verifier.{IsNextFault}
use Rattle.prolly_range.proofs.Accepting.{behind_nine, shown}
use Rattle.prolly_range.proofs.Weights.{comes_nearer}
use Rattle.prolly_range.proofs.verifier.next_chunk.Goals as goal

pub returns-in_err-test_end-clause-fault : goal.returns-in_err-test_end-clause-fault
returns-in_err-test_end-clause-fault g c honest =
    let none : c.args.due.now.items ≡ [] = search rules in
    let h = c.in_err-test_end.ensures.fault honest c.args.version c.args.number in
    rw none (search rules)

pub returns-in_err-test_due-clause-fault : goal.returns-in_err-test_due-clause-fault
returns-in_err-test_due-clause-fault g c honest =
    let frame = c.in_ok-frame.frame.items in
    let slice = c.deref.result.now in
    let is : take (length slice - 9) (drop 9 slice) ≡ drop 9 frame =
    behind_nine slice ∙ ap (drop 9) c.deref.ensures.value in
    let first = due_of c.in-Some.first in
    let others = map due_of c.pop_front.new.self.items in
    let left = (g.S.Source.seen c.args.source.now).left in
    let h = c.in_err-test_due.ensures.err in
    let wrong : IsNextFault c.args.version (first ∷ others) c.args.number left
    c.in_err-test_due.field-0.0 =
    subst (IsNextFault c.args.version (first ∷ others) c.args.number left) (sym h.1) (inr (record {
      chunk = drop 9 frame;
      rest = (g.S.Source.seen c.next_frame.new.source).left;
      small = c.in_ok-frame.ensures.frame.small;
      is = c.in_ok-frame.ensures.bytes honest ∙
          ap (λ x. x ++ (g.S.Source.seen c.next_frame.new.source).left) c.in_ok-frame.ensures.frame.is;
      so = subst (λ chunk. IsChunkFault c.args.version first.reference first.above chunk
          c.args.number h.0) is h.2;
    })) in
    let due : map due_of c.args.due.now.items ≡ first ∷ others =
    ap (map due_of) c.in-Some.ensures.items in
    rw due (search rules)

pub returns-clause-comes : goal.returns-clause-comes
returns-clause-comes g c =
    let frame = c.in_ok-frame.frame.items in
    let chunk = drop 9 frame in
    let first = due_of c.in-Some.first in
    let others = map due_of c.pop_front.new.self.items in
    let tested : take (length c.deref.result.now - 9) (drop 9 c.deref.result.now) ≡ chunk =
    behind_nine c.deref.result.now ∙ ap (drop 9) c.deref.ensures.value in
    let put : take (length c.deref-2.result.now - 9) (drop 9 c.deref-2.result.now) ≡ chunk =
    behind_nine c.deref-2.result.now ∙ ap (drop 9) c.deref-2.ensures.value in
    record {
      chunk = chunk;
      takes = record {
        first = first;
        others = others;
        was = ap (map due_of) c.in-Some.ensures.items;
        named = subst (IsNamed c.args.version first.reference) tested
            c.in_ok-test_due.ensures.named;
        falls = subst (FallsTo first.above) tested c.in_ok-test_due.ensures.falls;
        shows = c.new.ensures ∙ shown c.args.version (set_of c.in-Some.first.set) chunk;
        is = subst (λ x. map due_of c.put_below.new.due.items ≡ due_below (level_of x) first.set
            (kind_of c.args.version x) ++ others) put c.in_ok-put_below.ensures;
      };
      small = c.in_ok-frame.ensures.frame.small;
      read = λ honest. c.in_ok-frame.ensures.bytes honest ∙
          ap (λ x. x ++ (g.S.Source.seen c.next_frame.new.source).left) c.in_ok-frame.ensures.frame.is;
    }

pub returns-clause-nearer : goal.returns-clause-nearer
returns-clause-nearer g c =
    let taken = returns-clause-comes g c in
    comes_nearer c.args.version (map due_of c.args.due.now.items)
    (map due_of c.put_below.new.due.items) taken.chunk c.new.result taken.takes taken.small
