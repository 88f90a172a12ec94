use Rattle.std.proofs.Common.{◌≡◌, ◌<◌, ◌-◌, ◌∙◌, ap, arith, get_or, length, subst, sym}
use Rattle.std.proofs.lemmas.List.{length-map}
use Rattle.std.proofs.lemmas.List.Elements.{All-from_recursion}
use Rattle.prolly_look_up.specs.HeldPairs.{pairs_held}
use Rattle.prolly_look_up.specs.PairsFrom.{pairs_from}
use Rattle.prolly_root.specs.Descent.{IsTested}
use Rattle.prolly_root.specs.Reader.{way_of}
use Rattle.prolly_root.proofs.Descending.{read_last}
use Rattle.prolly_root.proofs.look_up.reader.Reader.leaf_from.Goals as goal

pub rest-requires : goal.rest-requires
rest-requires g c =
    let levels = c.self.inside.levels.items in
    let some = subst (λ reader. 0 < length (way_of reader)) (sym c.self.view_is) c.requires in
    subst (IsTested c.self.inside.version) (sym c.index-last.ensures)
    (All-from_recursion (IsTested c.self.inside.version) levels c.self.invariant (c.len.result - 1)
    c.index-last.result.now
    (omega (arith, c.len.ensures, some, length-map levels (λ level. level.chunk.items))))

pub returns : goal.returns
returns g c above last are =
    let levels = c.self.inside.levels.items in
    let read = c.index-last.result.now in
    let all : c.len.result ≡ length levels = omega (arith, c.len.ensures) in
    c.rest.ensures.pairs ∙ ap (λ chunk. pairs_from c.args.from.now (pairs_held chunk))
    (read_last levels above last read (ap way_of c.self.view_is ∙ are)
    (c.index-last.ensures ∙ ap (λ n. get_or levels (n - 1) read) all))
