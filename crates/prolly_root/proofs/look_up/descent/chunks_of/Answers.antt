use Rattle.std.proofs.Common.{◌∷◌, ◌++◌, [], ◌∙◌, List, ap, arith, map, sym, take, ℕ}
use Rattle.std.proofs.lemmas.List.{map-append, take_all, take_more}
use Rattle.std.specs.Borrow.{Bor}
use Rattle.prolly_root.specs.Descent.{chunks_on_way}
use Rattle.prolly_root.proofs.Descending.{one_more}
use Rattle.prolly_root.proofs.look_up.descent.chunks_of.Goals as goal

pub loop-level-preserved : goal.loop-level-preserved
loop-level-preserved g c =
    let levels = c.args.levels.now in
    let n = c.loop-level.level-index in
    ap (map (λ (chunk : Bor (List ℕ)). chunk.now)) c.in_ok-push.ensures.items ∙
    map-append (λ chunk. chunk.now) c.loop-level.chunks.items (c.as_slice.result ∷ []) ∙
    ap (λ cs. cs ++ c.as_slice.result.now ∷ []) c.loop-level.invariant ∙
    ap (λ chunk. chunks_on_way (take n levels) ++ chunk ∷ []) c.as_slice.ensures.value ∙
    sym (one_more (take n levels) _ c.level-item.result (take_more levels n _ (omega arith) ∙
    ap (λ l. take n levels ++ l ∷ []) (sym c.level-item.is)))

pub returns : goal.returns
returns g c = c.loop-level.invariant ∙ ap chunks_on_way
    (take_all c.loop-level.level-index c.args.levels.now (omega arith))
