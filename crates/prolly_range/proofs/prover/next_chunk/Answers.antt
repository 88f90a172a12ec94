use Rattle.std.proofs.Common.{◌≡◌, ◌++◌, ◌⊎◌, ◌∙◌, ap, map, refl, rules, subst}
use Rattle.prolly_look_up.specs.Kinds.{kind_of}
use Rattle.prolly_look_up.specs.Way.{level_of}
use Rattle.prolly_root.specs.RootFault.{MayFail}
use Rattle.prolly_range.specs.KeySet.{set_of}
use Rattle.prolly_range.specs.Prover.{located_due}
use Rattle.prolly_range.specs.SetProof.{due_below, pairs_there}
use Rattle.prolly_range.specs.FirstFault.{StopsWith}
use Rattle.prolly_range.specs.Places.{EachStandsAs}
use Rattle.prolly_range.proofs.Finds.{child_stops, chunk_stops, first_there, goes_on}
use Rattle.prolly_range.proofs.Writing.{joined_due}
use Rattle.prolly_range.proofs.Weights.{comes_nearer}
use Rattle.prolly_range.proofs.prover.next_chunk.Goals as goal

pub returns-clause-proves : goal.returns-clause-proves
returns-clause-proves g c =
    let chunk = c.in_ok-chunk.chunk.items in
    let first = c.in-Some.first in
    let set = set_of first.due.set in (
      pairs_there set (kind_of c.args.version chunk),
      record {
        first = located_due first;
        others = map located_due c.pop_front.new.self.items;
        was = ap (map located_due) c.in-Some.ensures.items;
        named = c.in_ok-chunk.ensures.named;
        falls = c.in_ok-chunk.ensures.falls;
        shows = refl;
        is = joined_due c.pop_front.new.self.items c.in_ok-below.below.items
            c.put_first.new.due.items c.in_ok-put_first.ensures ∙
            ap (λ ds. ds ++ map located_due c.pop_front.new.self.items)
            (subst (λ x. map located_due c.in_ok-below.below.items ≡
            due_below (level_of x) set (kind_of c.args.version x)) c.deref.ensures.value
            c.in_ok-below.ensures.due);
      },
      search rules,
    )

pub returns-clause-nearer : goal.returns-clause-nearer
returns-clause-nearer g c =
    let p = returns-clause-proves g c in
    comes_nearer c.args.version (map located_due c.args.due.now.items)
    (map located_due c.put_first.new.due.items) c.in_ok-chunk.chunk.items p.0 p.1 p.2

-- ---- in a chunk file of any bytes

pub returns-in_err-chunk-clause-tells : goal.returns-in_err-chunk-clause-tells
returns-in_err-chunk-clause-tells g c file at over stand =
    let stands_at = g.S.ChunkSource.stands in
    let f = first_there stands_at file c.in-Some.first c.pop_front.new.self.items at
    (subst (λ ls. EachStandsAs stands_at file ls at) c.in-Some.ensures.items stand) in
    let stops : MayFail c.in_err-chunk.field-0.0 ⊎
    StopsWith c.args.version file at c.in_err-chunk.field-0.0 =
    chunk_stops stands_at file c.args.version f (c.in_err-chunk.ensures.tells file f.there.number
    f.there.from over f.stands_there.1) in
    search rules

pub returns-in_err-below-clause-tells : goal.returns-in_err-below-clause-tells
returns-in_err-below-clause-tells g c file at over stand =
    let stands_at = g.S.ChunkSource.stands in
    let f = first_there stands_at file c.in-Some.first c.pop_front.new.self.items at
    (subst (λ ls. EachStandsAs stands_at file ls at) c.in-Some.ensures.items stand) in
    let read = c.in_ok-chunk.ensures in
    let is = read.tells file f.there.number f.there.from over f.stands_there.1 in
    let stops : MayFail c.in_err-below.field-0.0 ⊎
    StopsWith c.args.version file at c.in_err-below.field-0.0 =
    child_stops stands_at file c.args.version f is read.named read.falls
    (c.in_err-below.ensures.tells file f.there.number f.there.from (read.asked.0 file over)
    f.stands_there.1 (c.deref.ensures.value ∙ is)) in
    search rules

pub returns-clause-tells : goal.returns-clause-tells
returns-clause-tells g c file at over stand =
    let stands_at = g.S.ChunkSource.stands in
    let f = first_there stands_at file c.in-Some.first c.pop_front.new.self.items at
    (subst (λ ls. EachStandsAs stands_at file ls at) c.in-Some.ensures.items stand) in
    let read = c.in_ok-chunk.ensures in
    let is = read.tells file f.there.number f.there.from over f.stands_there.1 in
    let set = set_of c.in-Some.first.due.set in
    goes_on stands_at file c.args.version f is read.named read.falls c.in_ok-below.below.items
    (subst (λ x. map located_due c.in_ok-below.below.items ≡
    due_below (level_of x) set (kind_of c.args.version x)) c.deref.ensures.value
    c.in_ok-below.ensures.due)
    (c.in_ok-below.ensures.tells file f.there.number f.there.from (read.asked.0 file over)
    f.stands_there.1 (c.deref.ensures.value ∙ is)) c.put_first.new.due.items
    c.in_ok-put_first.ensures
