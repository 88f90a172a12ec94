use Rattle.std.proofs.Common.{◌≡◌, ◌<◌, ◌^◌, [], drop, length, refl, rules}
use Rattle.std.proofs.lemmas.Result.{err_from_is_err_and}
use Rattle.prolly_look_up.specs.Entries.{children_in}
use Rattle.prolly_look_up.specs.Way.{level_of}
use Rattle.prolly_root_diff.specs.Sides.{AreChildrenOf}
use Rattle.prolly_root_diff.proofs.Standing.{no_children_under, none_under}
use Rattle.prolly_root_diff.proofs.Standing.{reads_low, reads_node, stops_there}
use Rattle.prolly_root_diff.proofs.Subtrees.{behind_leaf, behind_none}
use Rattle.prolly_root_diff.proofs.Subtrees.{reads_low as low_read, reads_node as node_read}
use Rattle.prolly_root_diff.proofs.due_trees.read_first.Goals as goal

pub returns-then-index-eq-LEAF-clause-tells : goal.returns-then-index-eq-LEAF-clause-tells
returns-then-index-eq-LEAF-clause-tells g c file old goes st =
    let chunk = c.in_ok-chunk.chunk.items in
    let low : level_of chunk ≡ 0 = search rules in
    reads_low g.S.ChunkSource.stands c.args.version file c.args.due.now.items
    c.in-Some.siblings c.pop_front.new.self.items old c.in-Some.ensures.items st c.read.new.self
    (λ due. c.in_ok-chunk.ensures.stays file due goes) c.put_others.new.due.items
    c.in_ok-put_others.ensures chunk c.in_ok-chunk.place
    (λ first more. c.in_ok-chunk.ensures.tells file first more goes)
    c.in_ok-chunk.ensures.named c.in_ok-chunk.ensures.falls
    (λ from. none_under c.args.version chunk from low)

pub returns-in-None-clause-tells : goal.returns-in-None-clause-tells
returns-in-None-clause-tells g c file old goes st =
    let chunk = c.in_ok-chunk.chunk.items in
    let high : 0 < level_of chunk = search rules in
    let none : children_in c.args.version (drop 1 chunk) ≡ [] = search rules in
    reads_low g.S.ChunkSource.stands c.args.version file c.args.due.now.items
    c.in-Some.siblings c.pop_front.new.self.items old c.in-Some.ensures.items st c.read.new.self
    (λ due. c.in_ok-chunk.ensures.stays file due goes) c.put_others.new.due.items
    c.in_ok-put_others.ensures chunk c.in_ok-chunk.place
    (λ first more. c.in_ok-chunk.ensures.tells file first more goes)
    c.in_ok-chunk.ensures.named c.in_ok-chunk.ensures.falls
    (λ from. no_children_under c.args.version chunk from high none)

pub returns-in_ok-put_first-in-Some-2-clause-tells : goal.returns-in_ok-put_first-in-Some-2-clause-tells
returns-in_ok-put_first-in-Some-2-clause-tells g c file old goes st =
    let chunk = c.in_ok-chunk.chunk.items in
    let high : 0 < level_of chunk = search rules in
    let children : AreChildrenOf c.args.version chunk c.in_ok-chunk.place c.in-Some-2.children =
    search rules in
    reads_node g.S.ChunkSource.stands c.args.version file c.args.due.now.items
    c.in-Some.siblings c.pop_front.new.self.items old c.in-Some.ensures.items st c.read.new.self
    (λ due. c.in_ok-chunk.ensures.stays file due goes) c.put_others.new.due.items
    c.in_ok-put_others.ensures chunk c.in_ok-chunk.place
    (λ first more. c.in_ok-chunk.ensures.tells file first more goes)
    c.in_ok-chunk.ensures.named c.in_ok-chunk.ensures.falls c.in-Some-2.children children
    high c.put_first.new.due.items c.in_ok-put_first-in-Some-2.ensures

pub returns-in_err-chunk-clause-tells : goal.returns-in_err-chunk-clause-tells
returns-in_err-chunk-clause-tells g c file old goes st =
    let p = err_from_is_err_and c.from_residual.result c.from_residual.ensures.1 in
    rw (p.1, p.2) (stops_there g.S.ChunkSource.stands c.args.version file c.args.due.now.items
    c.in-Some.siblings c.pop_front.new.self.items old c.in-Some.ensures.items st c.in_err-chunk.field-0.0
    (λ first more. c.in_err-chunk.ensures.tells file first more goes))

pub returns-in_ok-put_first-in-Some-2-clause-reads : goal.returns-in_ok-put_first-in-Some-2-clause-reads
returns-in_ok-put_first-in-Some-2-clause-reads g c =
    let chunk = c.in_ok-chunk.chunk.items in
    let byte : level_of chunk < 256 = search rules in
    let high : 0 < level_of chunk = search rules in
    let short : length chunk < 2 ^ 64 = search rules in
    let children : AreChildrenOf c.args.version chunk c.in_ok-chunk.place c.in-Some-2.children =
    search rules in
    node_read c.args.version c.in-Some.siblings c.read.new.self c.in-Some-2.children
    c.args.due.now.items c.pop_front.new.self.items c.put_others.new.due.items
    c.put_first.new.due.items c.read.new.self.next.0 chunk refl c.in_ok-chunk.place
    c.in-Some.ensures.items c.in_ok-chunk.ensures.same c.in_ok-put_others.ensures
    c.in_ok-chunk.ensures.named c.in_ok-chunk.ensures.falls byte short high children
    c.in_ok-put_first-in-Some-2.ensures

pub returns-then-index-eq-LEAF-clause-reads : goal.returns-then-index-eq-LEAF-clause-reads
returns-then-index-eq-LEAF-clause-reads g c =
    let chunk = c.in_ok-chunk.chunk.items in
    let byte : level_of chunk < 256 = search rules in
    let short : length chunk < 2 ^ 64 = search rules in
    let low : level_of chunk ≡ 0 = search rules in
    low_read c.args.version c.in-Some.siblings c.read.new.self c.args.due.now.items
    c.pop_front.new.self.items c.put_others.new.due.items c.read.new.self.next.0 chunk refl
    c.in-Some.ensures.items c.in_ok-chunk.ensures.same c.in_ok-put_others.ensures
    c.in_ok-chunk.ensures.named c.in_ok-chunk.ensures.falls byte short
    (behind_leaf c.args.version chunk low)

pub returns-in-None-clause-reads : goal.returns-in-None-clause-reads
returns-in-None-clause-reads g c =
    let chunk = c.in_ok-chunk.chunk.items in
    let byte : level_of chunk < 256 = search rules in
    let high : 0 < level_of chunk = search rules in
    let short : length chunk < 2 ^ 64 = search rules in
    let none : children_in c.args.version (drop 1 chunk) ≡ [] = search rules in
    low_read c.args.version c.in-Some.siblings c.read.new.self c.args.due.now.items
    c.pop_front.new.self.items c.put_others.new.due.items c.read.new.self.next.0 chunk refl
    c.in-Some.ensures.items c.in_ok-chunk.ensures.same c.in_ok-put_others.ensures
    c.in_ok-chunk.ensures.named c.in_ok-chunk.ensures.falls byte short
    (behind_none c.args.version chunk high none)
