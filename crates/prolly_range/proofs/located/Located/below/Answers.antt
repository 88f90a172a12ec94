use Rattle.std.proofs.Common.{ap, ◌-◌, ◌≡◌, ◌<◌, ◌∙◌, map, rules, subst}
use Rattle.std.proofs.lemmas.Result.{IfOk-weaker}
use Rattle.prolly_look_up.specs.Way.{level_of}
use Rattle.prolly_range.specs.Children.{met_of}
use Rattle.prolly_look_up.specs.Kinds.{kind_of}
use Rattle.prolly_root.specs.ChunkFile.{nth_in}
use Rattle.prolly_root.specs.RootFault.{IsOrFails}
use Rattle.prolly_range.specs.FirstFault.{numbers_met}
use Rattle.prolly_range.specs.Places.{AreFound, MayLack}
use Rattle.prolly_range.proofs.Finds.{numbers_node}
use Rattle.prolly_range.specs.KeySet.{set_of}
use Rattle.prolly_range.proofs.Below.{behind_first, below_node}
use Rattle.prolly_range.proofs.located.Located.below.Goals as goal

pub returns-clause-due : goal.returns-clause-due
returns-clause-due g c =
    let chunk = c.args.chunk.now in
    let high : 0 < level_of chunk = search rules in
    IfOk-weaker c.locate.result _ _ (λ found due. due ∙
    below_node c.args.version (set_of c.args.self.due.set) chunk (map met_of c.in_ok-met.met.items)
    high (rw (behind_first chunk) at c.in_ok-met.ensures)) c.locate.ensures.due

pub returns-clause-tells : goal.returns-clause-tells
returns-clause-tells g c file n from over at is =
    let stands_at = g.S.ChunkSource.stands in
    let chunk = c.args.chunk.now in
    let set = set_of c.args.self.due.set in
    let high : 0 < level_of chunk = search rules in
    let numbers : map (λ m. m.number) (map met_of c.in_ok-met.met.items) ≡
    numbers_met set (kind_of c.args.version (nth_in file n)) =
    numbers_node c.args.version set chunk (map met_of c.in_ok-met.met.items) high
    (rw (behind_first chunk) at c.in_ok-met.ensures) ∙
    ap (λ chunk. numbers_met set (kind_of c.args.version chunk)) is in
    subst (λ ns. IsOrFails
    (λ found. AreFound stands_at file (level_of (nth_in file n) - 1) from ns found.items)
    (MayLack file (level_of (nth_in file n) - 1) from ns) c.locate.result) numbers
    (subst (λ l. IsOrFails (λ found. AreFound stands_at file (l - 1) from
    (map (λ m. m.number) (map met_of c.in_ok-met.met.items)) found.items)
    (MayLack file (l - 1) from (map (λ m. m.number) (map met_of c.in_ok-met.met.items)))
    c.locate.result) (ap level_of is)
    (c.locate.ensures.tells file n from over at (ap level_of is)))
