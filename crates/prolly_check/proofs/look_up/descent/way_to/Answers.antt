use Rattle.std.proofs.Common.{map, refl, sym}
use Rattle.prolly_entry.specs.Reference.{reference_of}
use Rattle.prolly_look_up.specs.Content.{nth_chunk}
use Rattle.prolly_look_up.specs.Sought.{sought_of}
use Rattle.prolly_look_up.specs.Sought.Sought.{Key}
use Rattle.prolly_check.proofs.FileDescents.{end_tells, pushed, way_begins, way_ends, way_goes_on}
use Rattle.prolly_check.proofs.look_up.descent.way_to.Goals as goal

pub loop-chunks-init : goal.loop-chunks-init
loop-chunks-init c = rw c.new-chunks.ensures.items
    (way_begins c.args.file.now (Key c.args.key.now) c.root.result c.root.ensures.file
    c.root.ensures.within c.root.ensures.is tt)

pub loop-chunks-preserved : goal.loop-chunks-preserved
loop-chunks-preserved c = rw (pushed c.loop-chunks.chunks.items c.push.new.self.items
    c.chunk.result _ c.in_ok-push.ensures.items c.chunk.ensures)
    (way_goes_on c.args.file.now (Key c.args.key.now) (map (λ chunk. chunk.now)
    c.loop-chunks.chunks.items) c.loop-chunks.at c.loop-chunks.invariant c.below.ensures.named
    c.in-Some.next c.in-Some.ensures.on)

pub returns-in-None : goal.returns-in-None
returns-in-None c =
    let file = c.args.file.now in
    let key = c.args.key.now in
    let at = c.loop-chunks.at in
    let above = map (λ chunk. chunk.now) c.loop-chunks.chunks.items in
    let on = c.loop-chunks.invariant in
    let end = way_ends file (Key key) above at on c.below.ensures.named c.in-None.ensures.ends in
    rw (pushed c.loop-chunks.chunks.items c.push.new.self.items c.chunk.result _
    c.in_ok-push.ensures.items c.chunk.ensures) (record {
      way = record {
        before = above;
        last = nth_chunk file at.number;
        reference = reference_of (nth_chunk file at.number);
        there = sought_of at.sought;
        are = refl;
        lead = on.lead;
        named = c.below.ensures.named;
        down = on.down;
        ends = c.in-None.ensures.ends;
      };
      value_is = sym (end_tells file c.root.ensures.file (Key key) tt at end).0;
    })
