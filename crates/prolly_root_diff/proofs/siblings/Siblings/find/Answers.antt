use Rattle.std.proofs.Common.{rules}
use Rattle.prolly_root_diff.proofs.Standing.{child_found, node_stays, root_found}
use Rattle.prolly_root_diff.proofs.siblings.Siblings.find.Goals as goal

pub returns-in-None-clause-finds : goal.returns-in-None-clause-finds
returns-in-None-clause-finds g c file first others goes st =
    root_found g.S.ChunkSource.stands file c.args.version c.args.self.now.next
    c.args.self.now.behind.items first others (rw c.in-None.is at st) c.root.result
    (c.root.ensures.finds file goes)

pub returns-in-Some-clause-finds : goal.returns-in-Some-clause-finds
returns-in-Some-clause-finds g c file first others goes st =
    child_found g.S.ChunkSource.stands file c.in-Some.parent c.args.self.now.next
    c.args.self.now.behind.items c.saturating_sub-in-Some.result c.saturating_sub-number.result
    c.saturating_sub-in-Some.ensures (search rules) c.args.version first others
    (rw c.in-Some.is at st) c.child.result
    (λ n from. c.child.ensures.finds file n from goes)

pub returns-in-Some-clause-stays : goal.returns-in-Some-clause-stays
returns-in-Some-clause-stays g c file due goes st =
    node_stays g.S.ChunkSource.stands file c.in-Some.parent c.args.self.now.next
    c.args.self.now.behind.items c.saturating_sub-in-Some.result c.saturating_sub-number.result
    c.saturating_sub-in-Some.ensures (search rules) c.child.new.node due
    (rw c.in-Some.is at st) (λ n from. c.child.ensures.stays file n from goes)
