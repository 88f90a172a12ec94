use Rattle.std.proofs.Common.{◌++◌, ◌∙◌, IfOk, ap, append-nil, subst, sym}
use Rattle.prolly_sort.specs.Shelf.{HoldsAll, IsRunFile}
use Rattle.prolly_sort.proofs.Telling.{told_same, told_through}
use Rattle.prolly_sort.proofs.pile.Pile.finish.Goals as goal

pub returns-clause-sorted : goal.returns-clause-sorted
returns-clause-sorted g c = λ came keeps h.
    let aside = c.in_ok-put_aside.ensures.came came keeps h in
    let all = aside.all ∙ ap (λ rs. aside.first ++ rs) c.in_ok-put_aside.ensures.empty ∙
    append-nil aside.first in
    let new = c.put_aside.new.self in
    subst (λ rule. IfOk c.finish.result (λ sorted. IsRunFile g.W.Sink.seen rule sorted came))
    c.in_ok-put_aside.ensures.rule
    (c.finish.ensures.sorted came (c.in_ok-put_aside.ensures.keeps keeps)
    (subst (HoldsAll g.W.Sink.seen g.S.Source.seen new.rule new.shelf) (sym all) aside.shelf))

pub returns-clause-told : goal.returns-clause-told
returns-clause-told g c =
    let new = c.put_aside.new.self in
    told_same new.rule c.args.self.rule _ c.finish.result c.in_ok-put_aside.ensures.rule
    (told_through new.rule _ _ c.finish.result (λ a b told came keeps h numbered.
    let aside = c.in_ok-put_aside.ensures.came came keeps h in
    let all = aside.all ∙ ap (λ rs. aside.first ++ rs) c.in_ok-put_aside.ensures.empty ∙
    append-nil aside.first in
    told came (c.in_ok-put_aside.ensures.keeps keeps)
    (subst (HoldsAll g.W.Sink.seen g.S.Source.seen new.rule new.shelf) (sym all) aside.shelf))
    c.finish.ensures.told)
