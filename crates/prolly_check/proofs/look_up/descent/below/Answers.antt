use Rattle.std.proofs.Common.{All, subst}
use Rattle.prolly_entry.specs.Byte.{IsByte}
use Rattle.prolly_look_up.specs.Content.{nth_chunk}
use Rattle.prolly_look_up.specs.Kinds.{kind_of}
use Rattle.prolly_look_up.specs.Sought.{sought_of}
use Rattle.prolly_look_up.specs.lemmas.Ways.{child_leads}
use Rattle.prolly_look_up.specs.lemmas.HeldPairs.{some_byte}
use Rattle.prolly_check.proofs.FileDescents.{is_ordered, is_there_below, named_at, next_is}
use Rattle.prolly_check.proofs.look_up.descent.below.Goals as goal

pub step_of-requires-clause-ordered : goal.step_of-requires-clause-ordered
step_of-requires-clause-ordered c = rw (c.version.ensures, c.chunk-chunk.ensures)
    (is_ordered c.args.file.now c.requires.file c.args.at.number c.requires.top)

pub step_of-requires-clause-mark : goal.step_of-requires-clause-mark
step_of-requires-clause-mark c = c.first.ensures.first c.version.result c.chunk-chunk.result.now
    (some_byte c.version.result c.chunk-chunk.result.now
    (rw (c.version.ensures, c.chunk-chunk.ensures)
    (is_ordered c.args.file.now c.requires.file c.args.at.number c.requires.top).whole))

pub returns-in_err-child-clause-named : goal.returns-in_err-child-clause-named
returns-in_err-child-clause-named c = named_at c.args.file.now c.requires.file
    c.args.at.number c.requires.top
    (subst (All IsByte) c.chunk-chunk.ensures c.step_of.ensures.bytes)

pub child-requires : goal.child-requires
child-requires c = is_there_below c.args.file.now c.requires.file c.args.at.number c.requires.top
    (sought_of c.args.at.sought) (sought_of c.in_ok-child.child.sought)
    c.in_ok-child.child.reference.0 c.requires.counted (child_leads (sought_of c.args.at.sought)
    (kind_of c.args.file.now.version (nth_chunk c.args.file.now c.args.at.number))
    c.in_ok-child.child (rw (c.version.ensures, c.chunk-chunk.ensures) at c.in_ok-child.ensures.on))

pub returns-clause-named : goal.returns-clause-named
returns-clause-named c = named_at c.args.file.now c.requires.file
    c.args.at.number c.requires.top
    (subst (All IsByte) c.chunk-chunk.ensures c.step_of.ensures.bytes)

pub returns-clause-on : goal.returns-clause-on
returns-clause-on c = next_is c.args.file.now c.requires.file c.args.at
    (record { number = c.child.result; sought = c.in_ok-child.child.sought }) c.requires.top
    c.in_ok-child.child.reference.0 c.requires.counted (child_leads (sought_of c.args.at.sought)
    (kind_of c.args.file.now.version (nth_chunk c.args.file.now c.args.at.number))
    c.in_ok-child.child (rw (c.version.ensures, c.chunk-chunk.ensures) at c.in_ok-child.ensures.on))
    c.child.ensures
