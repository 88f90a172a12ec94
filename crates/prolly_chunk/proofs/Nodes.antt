-- What an inner stage sends, and its open node, with one event more and at a clean end.
use Rattle.std.proofs.Common.{◌≡◌, ℕ, zero, suc, ◌+◌, ◌-◌, ◌≤◌, Bool, true, false, cond, min, ◌&&◌}
use Rattle.std.proofs.Common.{nat_le, List, [], ◌∷◌, ◌++◌, length, map, Option, refl, sym, ap, ◌∙◌}
use Rattle.std.proofs.Common.{subst, arith, append-nil, length-append}
use Rattle.std.proofs.lemmas.Grind.{flat_map-append}
use Rattle.std.proofs.lemmas.Bool.{le-leb, eq-eqb}
use Rattle.std.specs.List.{flat_map}
use Rattle.std.specs.Option.{option_to_list}
use Rattle.std.specs.Int.{w16, to_be_bytes}
use Rattle.prolly_entry.specs.declared.version.Version.{Version}
use Rattle.prolly_entry.specs.Spelling.{count_spelling}
use Rattle.prolly_entry.specs.Reference.{reference_of}
use Rattle.prolly_entry.specs.Cut.{Cut}
use Rattle.prolly_tree.specs.Split.{split, is_closed, open_entries}
use Rattle.prolly_tree.specs.Chunk.{Chunk}
use Rattle.prolly_tree.specs.Events.{clean, faulty, inner_events, events_above, events_at_end}
use Rattle.prolly_tree.specs.Events.{group_event, event_entry, event_is_boundary, last_event_key}
use Rattle.prolly_tree.specs.Events.{count_sum, greatest_count, has_level}
use Rattle.prolly_tree.specs.lemmas.Splits.{as_group}
use Rattle.prolly_laws.specs.Splits.{split_step}
use Rattle.prolly_laws.specs.Stages.{stage_step}
use Rattle.prolly_chunk.specs.declared.node.Received.{Received}
use Rattle.prolly_chunk.specs.declared.node.Received.TheVariants.{Nothing}
use Rattle.prolly_chunk.specs.Chunk.{empty_chunk, with_child, has_entries}
use Rattle.prolly_chunk.specs.NodeLevel.{NodeState, received_of, one_more_received, is_several}
use Rattle.prolly_chunk.specs.NodeLevel.{children_at}
use Rattle.prolly_chunk.specs.NodeLevel.{node_level, NodeBegins, NodeTakes, NodeEnds}
use Rattle.prolly_chunk.specs.lemmas.{children_more, Goes}
use Rattle.prolly_chunk.proofs.Keys.{same_chunk}
use Rattle.prolly_chunk.proofs.Groups.{some_if, closed_by_second, in_parts}

last_event_key-snoc : (es : List Chunk) (e : Chunk) → last_event_key (es ++ e ∷ []) ≡ e.key
last_event_key-snoc [] e = refl
last_event_key-snoc (f ∷ []) e = refl
last_event_key-snoc (f ∷ g ∷ es) e = last_event_key-snoc (g ∷ es) e

count_sum-snoc : (es : List Chunk) (e : Chunk) → count_sum (es ++ e ∷ []) ≡ count_sum es + e.count
count_sum-snoc [] e = omega arith
count_sum-snoc (f ∷ es) e = omega (arith, count_sum-snoc es e)

min_sum : (m n whole : ℕ) → whole ≡ m + n → min (min greatest_count m + n) greatest_count ≡
    min greatest_count whole
min_sum m n whole e = omega (arith, e)

entry_long : (version : Version) (e : Chunk) → 2 ≤ length (event_entry version e)
entry_long version e = omega (
  arith,
  length-append ((to_be_bytes w16 (length e.key) ++ e.key) ++ reference_of e.bytes)
      (count_spelling version e.count),
  length-append (to_be_bytes w16 (length e.key) ++ e.key) (reference_of e.bytes),
  length-append (to_be_bytes w16 (length e.key)) e.key,
)

received_of-snoc : (es : List Chunk) (e : Chunk) →
    received_of (es ++ e ∷ []) ≡ one_more_received (received_of es)
received_of-snoc [] e = refl
received_of-snoc (f ∷ []) e = refl
received_of-snoc (f ∷ g ∷ es) e = refl

two_came : (es : List Chunk) → nat_le 2 (length es) ≡ is_several (received_of es)
two_came [] = refl
two_came (f ∷ []) = refl
two_came (f ∷ g ∷ es) = le-leb 2 (length (f ∷ g ∷ es)) (omega arith)

module _ (version : Version) (level : ℕ) where
  -- The node of children, with one child more.
  node_with : (es : List Chunk) (e : Chunk) → with_child version (group_event version level es) e ≡
      group_event version level (es ++ e ∷ [])
  node_with es e =
      let entries : flat_map (event_entry version) (es ++ e ∷ []) ≡ flat_map (event_entry version)
      es ++ event_entry version e =
      flat_map-append (event_entry version) es (e ∷ []) ∙
      ap (λ s. flat_map (event_entry version) es ++ s) (append-nil (event_entry version e)) in
      same_chunk refl (sym (last_event_key-snoc es e))
      (min_sum (count_sum es) e.count (count_sum (es ++ e ∷ [])) (count_sum-snoc es e))
      (ap (λ s. level ∷ s) (sym entries))

  -- A node with a child has two bytes or more.
  node_has : (es : List Chunk) → nat_le 2 (length (group_event version level es).bytes) ≡
      has_entries es
  node_has [] = refl
  node_has (e ∷ es) = le-leb 2 (length (group_event version level (e ∷ es)).bytes)
      (omega (
        arith,
        entry_long version e,
        length-append (event_entry version e)
            (flat_map (event_entry version) es),
      ))

-- A child closes the open node where it is a boundary, and not its first.
abbrev closes : Cut → Version → Chunk → Chunk → Bool
closes cut version node event = nat_le 2 (length node.bytes) && event_is_boundary cut version event

module _ (cut : Cut) (version : Version) (below : ℕ) where
  abbrev children : List Chunk → List Chunk
  children events = children_at (suc below) events

  abbrev open_children : List Chunk → List Chunk
  open_children events = open_entries (event_is_boundary cut version) 2 (children events)

  abbrev open_node : List Chunk → Chunk
  open_node events = group_event version (suc below) (open_children events)

  children-snoc : (events : List Chunk) (e : Chunk) →
      children (events ++ e ∷ []) ≡ children events ++ cond (has_level below e) (e ∷ []) []
  children-snoc events e = children_more below events e

  -- An event of the level below adds a child, and brings the node that it closes.
  record Step (events : List Chunk) (e : Chunk) : Type 0 where
    sent : events_above below cut version faulty (events ++ e ∷ []) ≡ events_above below cut version
        faulty events
        ++ e ∷ option_to_list (some_if (closes cut version (open_node events) e)
        (with_child version (open_node events) e))
    node : open_node (events ++ e ∷ []) ≡ cond (closes cut version (open_node events) e)
        (empty_chunk (suc below)) (with_child version (open_node events) e)
    received : received_of (children (events ++ e ∷ [])) ≡ one_more_received (received_of (children events))

  as_list : (b : Bool) (x : Chunk) → cond b (x ∷ []) [] ≡ option_to_list (some_if b x)
  as_list true x = refl
  as_list false x = refl

  node_step : (events : List Chunk) (e : Chunk) → has_level below e ≡ true → Step events e
  node_step events e child =
      let test = event_is_boundary cut version in
      let event_of = group_event version (suc below) in
      let group = open_children events in
      let closed : is_closed test 2 (group ++ e ∷ []) ≡ closes cut version (open_node events) e =
      closed_by_second test group e ∙ ap (λ b. b && test e)
      (sym (node_has version (suc below) group)) in
      let more : children (events ++ e ∷ []) ≡ children events ++ e ∷ [] = children-snoc events e ∙
      ap (λ b. children events ++ cond b (e ∷ []) []) child in
      let before = events_above below cut version faulty events in
      record {
        sent = (stage_step below event_of test events e).0
            ∙ ap (λ b. before ++ e ∷ cond (b && is_closed test 2 (group ++ e ∷ []))
            (event_of (group ++ e ∷ []) ∷ []) []) child
            ∙ ap (λ b. before ++ e ∷ cond b (event_of (group ++ e ∷ []) ∷ []) []) closed
            ∙ ap (λ c. before ++ e ∷ cond (closes cut version (open_node events) e) (c ∷ []) [])
            (sym (node_with version (suc below) group e))
            ∙ ap (λ cs. before ++ e ∷ cs) (as_list (closes cut version (open_node events) e)
            (with_child version (open_node events) e));
        node = ap (λ es. event_of (open_entries test 2 es)) more
            ∙ ap event_of ((split_step test 2 (children events) e).1 ∙
            ap (λ b. cond b [] (group ++ e ∷ [])) closed)
            ∙ left (closes cut version (open_node events) e) group;
        received = ap received_of more ∙ received_of-snoc (children events) e;
      }
    where
      left : (b : Bool) (group : List Chunk) →
          group_event version (suc below) (cond b [] (group ++ e ∷ []))
          ≡ cond b (empty_chunk (suc below)) (with_child version
          (group_event version (suc below) group) e)
      left true group = refl
      left false group = sym (node_with version (suc below) group e)

  -- At a clean end the open node is sent where it has children, and two or more came.
  node_end : (events : List Chunk) →
      events_above below cut version clean events ≡ events_above below cut version faulty events
      ++ option_to_list (some_if (is_several (received_of (children events)) && nat_le 2
      (length (open_node events).bytes)) (open_node events))
  node_end events =
      let test = event_is_boundary cut version in
      let event_of = group_event version (suc below) in
      let before = events_above below cut version faulty events in
      (stage_step below event_of test events (empty_chunk 0)).1
      ∙ ap (λ gs. before ++ events_at_end clean event_of (length (children events)) gs)
      (in_parts test 2 (children events)).rest
      ∙ ap (λ b. before ++ cond b (map event_of (as_group (open_children events))) [])
      (two_came (children events))
      ∙ ap (λ es. before ++ es) (last (is_several (received_of (children events)))
      (open_children events))
    where
      last : (b : Bool) (es : List Chunk) → cond b
          (map (group_event version (suc below)) (as_group es)) []
          ≡ option_to_list (some_if (b && nat_le 2
          (length (group_event version (suc below) es).bytes))
          (group_event version (suc below) es))
      last false es = refl
      last true [] = refl
      last true (x ∷ es) = ap (λ b. option_to_list
          (some_if b (group_event version (suc below) (x ∷ es))))
          (sym (node_has version (suc below) (x ∷ es)))

-- ---- the level's state

module _ {C : Type 0} (cut_of : C → Cut) where
  abbrev pub state : C → Version → Chunk → Received → NodeState C
  state cut version node received = record {
    cut = cut;
    version = version;
    node = node;
    received = received;
  }

  -- The level begins with an empty node.
  pub node_begins : (cut : C) (version : Version) (level : ℕ) (node : Chunk) →
      node ≡ empty_chunk level →
      NodeBegins cut_of cut version level (state cut version node Nothing)
  unfolding split
  node_begins cut version zero node e = record {
    state = ap (λ n. state cut version n Nothing) e;
    events = refl;
  }
  node_begins cut version (suc below) node e =
      record { state = ap (λ n. state cut version n Nothing) e; events = refl }

  abbrev Takes : Chunk → Chunk → Chunk → Option Chunk → Bool → C → Version → ℕ → List Chunk →
      NodeState C → Type 0
  Takes after node event closed is_last cut version level events old = 1 ≤ old.node.level →
      event.level ≡ old.node.level - 1 →
      after ≡ with_child old.version old.node event →
      is_last ≡ closes (cut_of old.cut) old.version old.node event →
      closed ≡ some_if is_last after → node ≡ cond is_last (empty_chunk after.level) after →
      Goes cut_of cut version level events event
      (state old.cut old.version node (one_more_received old.received)) closed

  takes_behind : (after node event : Chunk) (closed : Option Chunk) (is_last : Bool) (cut : C)
      (version : Version) (level : ℕ) (events : List Chunk) →
      Takes after node event closed is_last cut version level events
      (node_level cut_of cut version level events)
  takes_behind after node event closed is_last cut version zero events some l a i c n =
      absurd (omega arith)
  takes_behind after node event closed is_last cut version (suc below) events some l a i c n =
      let step = node_step (cut_of cut) version below events event
      (eq-eqb event.level below (omega arith)) in
      let chunk = with_child version (open_node (cut_of cut) version below events) event in (
        ap (λ x. state cut version x (one_more_received
            (received_of (children (cut_of cut) version below events))))
            (n ∙ ap (λ (x : Chunk). cond is_last (empty_chunk x.level) x) a ∙
            ap (λ b. cond b (empty_chunk (suc below)) chunk) i ∙ sym step.node)
            ∙ ap (state cut version (open_node (cut_of cut) version below (events ++ event ∷ [])))
            (sym step.received),
        step.sent ∙ ap (λ o. inner_events (suc below) (cut_of cut) version faulty events ++
            event ∷ option_to_list o)
            (sym (c ∙ ap (some_if is_last) a ∙ ap (λ b. some_if b chunk) i)),
      )

  -- What the level's code does with an event of the level below is what `NodeTakes` says.
  pub node_takes : (old : NodeState C) (cut : C) (version : Version) (before after node : Chunk)
      (received received' : Received) (event : Chunk) (closed : Option Chunk) (is_last : Bool) →
      state cut version before received ≡ old → received' ≡ one_more_received received → 1 ≤ before.level →
      event.level ≡ before.level - 1 →
      after ≡ with_child version before event → is_last ≡ closes (cut_of cut) version before event →
      closed ≡ some_if is_last after → node ≡ cond is_last (empty_chunk after.level) after →
      NodeTakes cut_of old (state cut version node received') event closed
  node_takes old cut version before after node received received' event closed is_last o r some l a
      i c n =
      subst (λ x. NodeTakes cut_of x (state cut version node received') event closed) o
      (subst (λ x. NodeTakes cut_of (state cut version before received) (state cut version node x)
      event closed) (sym r) (record {
        state = λ cut' version' level events e. (at cut' version' level events e).0;
        events = λ cut' version' level events e. (at cut' version' level events e).1;
      }))
    where
      at : (cut' : C) (version' : Version) (level : ℕ) (events : List Chunk) →
          state cut version before received ≡ node_level cut_of cut' version' level events →
          Goes cut_of cut' version' level events event (state cut version node (one_more_received received))
          closed
      at cut' version' level events e = subst (Takes after node event closed is_last cut' version'
          level events) (sym e)
          (takes_behind after node event closed is_last cut' version' level events) some l a i c n

  ends_behind : (cut : C) (version : Version) (level : ℕ) (events : List Chunk)
      (last : Option Chunk) → 1 ≤ level →
      last ≡ some_if (is_several (node_level cut_of cut version level events).received && nat_le 2
      (length (node_level cut_of cut version level events).node.bytes))
      (node_level cut_of cut version level events).node →
      inner_events level (cut_of cut) version clean events ≡ inner_events level (cut_of cut) version
      faulty events ++ option_to_list last
  ends_behind cut version zero events last some l = absurd (omega arith)
  ends_behind cut version (suc below) events last some l =
      node_end (cut_of cut) version below events ∙
      ap (λ x. inner_events (suc below) (cut_of cut) version faulty events ++ option_to_list x)
      (sym l)

  -- What the level's code answers at the end is what `NodeEnds` says.
  pub node_ends : (level : NodeState C) (cut : C) (version : Version) (node : Chunk)
      (received : Received) (last : Option Chunk) (is_left : Bool) →
      state cut version node received ≡ level → 1 ≤ node.level →
      is_left ≡ (is_several received && nat_le 2 (length node.bytes)) →
      last ≡ some_if is_left node → NodeEnds cut_of level last
  node_ends level cut version node received last is_left o some i l cut' version' number events e =
      let Last : NodeState C → Type 0 = λ s. last ≡
      some_if (is_several s.received && nat_le 2 (length s.node.bytes)) s.node in
      let l' : Last (node_level cut_of cut' version' number events) =
      subst Last (o ∙ e) (l ∙ ap (λ b. some_if b node) i) in
      let n : node.level ≡ number = ap (λ (s : NodeState C). s.node.level) (o ∙ e) in
      ends_behind cut' version' number events last (omega arith) l'
