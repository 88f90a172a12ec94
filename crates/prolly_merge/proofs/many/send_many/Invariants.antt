use Rattle.std.proofs.Common.{◌≡◌, ◌++◌, List}
use Rattle.prolly_entry.specs.Record.{Record}
use Rattle.std.specs.List.{flat_map}
use Rattle.prolly_merge.specs.Each.{Each}
use Rattle.prolly_merge.specs.Peeked.{peeked_of, Advances, places_after}
use Rattle.prolly_merge.specs.Places.{ComeFirst}
use Rattle.prolly_merge.specs.Merged.{Counts}
use Rattle.prolly_merge.specs.Many.{NoneLeftOut, AllAlone}
use Rattle.prolly_merge.specs.declared.round.SharedKey.TheVariants.{Refused}
use Rattle.prolly_merge.proofs.many.send_many.Given as goal

abbrev pub invariant-loop : goal.invariant-loop
invariant-loop g l = record {
  advance : Each (Advances g.I.In.link g.I.In.progress g.I.In.Follows)
      (peeked_of l.initial.inputs l.initial.heads) (peeked_of l.inputs l.heads);
  out_link : g.O.Out.link l.out ≡ g.O.Out.link l.initial.out;
  items : Counts (g.O.Out.sent l.initial.out) (g.O.Out.sent l.out) l.items;
  first : (xs : List Record) × (g.O.Out.sent l.out ≡ g.O.Out.sent l.initial.out ++ flat_map g.T.MergeItem.items_of xs)
      × ComeFirst (places_after g.I.In.received (peeked_of l.initial.inputs l.initial.heads)
      (peeked_of l.inputs l.heads)) xs
      × (l.shared ≡ Refused → NoneLeftOut (places_after g.I.In.received
      (peeked_of l.initial.inputs l.initial.heads) (peeked_of l.inputs l.heads)) xs)
      × (l.shared ≡ Refused → AllAlone (places_after g.I.In.received
      (peeked_of l.initial.inputs l.initial.heads) (peeked_of l.inputs l.heads)) xs);
}
