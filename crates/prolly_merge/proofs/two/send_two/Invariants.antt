use Rattle.std.proofs.Common.{◌≡◌, ◌++◌, List, [], ◌∷◌}
use Rattle.prolly_entry.specs.Record.{Record}
use Rattle.prolly_merge.specs.Each.{Each}
use Rattle.prolly_merge.specs.Peeked.{Advances, places_after}
use Rattle.prolly_merge.specs.Places.{ComeFirst}
use Rattle.prolly_merge.specs.Merged.{Counts}
use Rattle.prolly_merge.proofs.two.send_two.Given as goal

abbrev pub invariant-loop : goal.invariant-loop
invariant-loop g l = record {
  advance : Each (Advances g.I.In.link g.I.In.progress g.I.In.Follows)
      (l.initial.left ∷ l.initial.right ∷ []) (l.left ∷ l.right ∷ []);
  out_link : g.O.Out.link l.out ≡ g.O.Out.link l.initial.out;
  items : Counts (g.O.Out.sent l.initial.out) (g.O.Out.sent l.out) l.items;
  first : (xs : List Record) × (g.O.Out.sent l.out ≡ g.O.Out.sent l.initial.out ++ xs)
      × ComeFirst (places_after g.I.In.received (l.initial.left ∷ l.initial.right ∷ [])
      (l.left ∷ l.right ∷ [])) xs;
}
