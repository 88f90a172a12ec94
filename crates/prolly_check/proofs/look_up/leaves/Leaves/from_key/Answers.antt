use Rattle.std.proofs.Common.{◌==◌, ◌++◌, drop, length, ap, ◌∙◌, subst, sym}
use Rattle.std.specs.List.{flat_map}
use Rattle.std.proofs.lemmas.Bool.{false≢true}
use Rattle.std.proofs.lemmas.Bool.Decides.{Decides-eqb}
use Rattle.std.proofs.lemmas.List.{nil_from_length}
use Rattle.prolly_look_up.specs.Content.{chunks_of}
use Rattle.prolly_look_up.specs.HeldPairs.{pairs_held}
use Rattle.prolly_look_up.specs.PairsFrom.{pairs_from}
use Rattle.prolly_look_up.specs.ScanWay.{AreFirstFrom}
use Rattle.prolly_look_up.specs.Sought.Sought.{Key}
use Rattle.prolly_look_up.specs.Way.{IsOrdered}
use Rattle.prolly_look_up.specs.lemmas.PairLists.{none_left}
use Rattle.prolly_check.proofs.FileDescents.{end_tells}
use Rattle.prolly_check.proofs.LeafRests.{from_leaf, from_none}
use Rattle.prolly_check.proofs.look_up.leaves.Leaves.from_key.Goals.{then-is_empty, else-is_empty}
use Rattle.prolly_check.proofs.look_up.leaves.Leaves.from_key.Goals as goal

pub rest_from-first-requires : goal.rest_from-first-requires
rest_from-first-requires c =
    let end = c.descend-end.ensures.end in
    rw (c.version.ensures, c.chunk.ensures) (record {
      ordered = subst (IsOrdered c.args.file.version) end.last end.way.named.ordered;
      mark = none_left _;
    })

pub returns : goal.returns
returns c =
    let file = c.args.file in
    let key = c.args.from.now in
    let end = c.descend-end.result in
    let within = c.descend-end.ensures.end.within in
    let leaf = pairs_held c.chunk.result.now in
    let held = ap pairs_held c.chunk.ensures in
    let first = subst (λ ps. AreFirstFrom key file.pairs (pairs_from key ps)) (sym held)
    (end_tells file c.requires (Key key) tt end c.descend-end.ensures.end).1 in
    ap (λ ps. ps ++ flat_map pairs_held (drop c.if-is_empty.number (chunks_of file)))
    c.rest_from-first.ensures.pairs ∙ elim c.if-is_empty.branch [
      | then-is_empty w ↦
          from_none file c.requires end.number within leaf held key first
          c.if-is_empty.number (w.number-is ∙ w.len-number.ensures.count)
          (sym c.rest_from-first.ensures.pairs ∙ nil_from_length c.rest_from-first.result.0
          ((Decides-eqb _ 0).0 (sym c.is_empty.ensures ∙ w.if-is_empty.true)))
      | else-is_empty w ↦
          ap (λ n. pairs_from key leaf ++ flat_map pairs_held (drop n (chunks_of file)))
          w.number-is ∙
          from_leaf file c.requires end.number within leaf held key first
          (λ none. false≢true (sym w.if-is_empty.false ∙ c.is_empty.ensures ∙
          ap (λ ps. length ps == 0) (c.rest_from-first.ensures.pairs ∙ none)))
    ]
