use Rattle.std.proofs.lemmas.List.{nil_from_length}
use Rattle.std.proofs.Common.{rules, arith, refl, sym, subst, []}
use Rattle.std.specs.Vec.Iter.{into_iter_items}
use Rattle.prolly_io.specs.Rejoined.{rejoined_view}
use Rattle.prolly_answer.specs.Peeks.{ArePutBack}
use Rattle.prolly_answer.proofs.Peeking.{all_peeked, one_peeked, peek_failed}
use Rattle.prolly_answer.proofs.chunk_bytes.sample.Sample.peek_all.Goals as goal

pub loop-source-init : goal.loop-source-init
loop-source-init g c = record {
  all = c.into_iter-source-iterator.ensures.into_iter_gives.0;
  put_back = subst (ArePutBack g.S.Source.seen (rejoined_view g.S.Source.seen) [])
      (sym c.in_ok-wholes.ensures.items) (record {});
  sampled = λ honest. refl;
}

pub loop-source-preserved : goal.loop-source-preserved
loop-source-preserved g c =
    let l = c.loop-source in
    one_peeked g.S.Source.seen (rejoined_view g.S.Source.seen) c.args.sources.items l.yielded
    (into_iter_items l.source-iterator) (into_iter_items c.next.new.self) l.wholes.items
    c.push.new.self.items c.args.self.now l.self c.peek.new.self c.in-Some.source c.in-Ok.whole
    l.invariant c.in-Some.ensures.steps.0 (λ honest. search rules) (λ honest. search rules)
    c.in_ok-push.ensures.items

pub returns-in-Err-clause-failed : goal.returns-in-Err-clause-failed
returns-in-Err-clause-failed g c =
    let l = c.loop-source in
    peek_failed g.S.Source.seen (rejoined_view g.S.Source.seen) c.args.sources.items l.yielded
    (into_iter_items l.source-iterator) (into_iter_items c.next.new.self) l.wholes.items
    c.args.self.now l.self c.in-Some.source c.in-Err.source c.len-file.result l.invariant
    c.in-Some.ensures.steps.0 (search rules) (search rules) (λ steady. search rules)

pub returns-clause-sampled : goal.returns-clause-sampled
returns-clause-sampled g c =
    let l = c.loop-source in
    (all_peeked g.S.Source.seen (rejoined_view g.S.Source.seen) c.args.sources.items l.yielded
    (into_iter_items l.source-iterator) l.wholes.items c.args.self.now l.self l.invariant
    (nil_from_length _ (omega (arith, c.in-None.ensures.steps.0)))).1

pub returns-clause-put_back : goal.returns-clause-put_back
returns-clause-put_back g c =
    let l = c.loop-source in
    (all_peeked g.S.Source.seen (rejoined_view g.S.Source.seen) c.args.sources.items l.yielded
    (into_iter_items l.source-iterator) l.wholes.items c.args.self.now l.self l.invariant
    (nil_from_length _ (omega (arith, c.in-None.ensures.steps.0)))).0
