-- Lemmas for the crates above: what a proof may use of levels beside their contracts.
use Rattle.std.proofs.Common.{◌≡◌, ℕ, zero, suc, ◌-◌, ◌≤◌, false, cond, ◌&&◌, List, [], ◌∷◌, ◌++◌}
use Rattle.std.proofs.Common.{Option, None, sym, ap, ◌∙◌, subst, arith, append-nil}
use Rattle.std.proofs.lemmas.List.Elements.{filter-append}
use Rattle.std.proofs.lemmas.Bool.{ne_eqb}
use Rattle.std.specs.Option.{option_to_list}
use Rattle.prolly_entry.specs.declared.version.Version.{Version}
use Rattle.prolly_entry.specs.Cut.{Cut}
use Rattle.prolly_tree.specs.Split.{is_closed, open_entries}
use Rattle.prolly_tree.specs.Chunk.{Chunk}
use Rattle.prolly_tree.specs.Events.{faulty, inner_events, events_above, group_event}
use Rattle.prolly_tree.specs.Events.{event_is_boundary, has_level}
use Rattle.prolly_laws.specs.Stages.{stage_step}
use Rattle.prolly_chunk.specs.NodeLevel.{NodeState, received_of, children_at, node_level, NodeTakes}

-- An event is one child more where it has the level below.
pub children_more : (below : ℕ) (events : List Chunk) (e : Chunk) →
    children_at (suc below) (events ++ e ∷ [])
    ≡ children_at (suc below) events ++ cond (has_level below e) (e ∷ []) []
children_more below events e = filter-append (has_level below) events (e ∷ [])

-- An event only passes by: it is sent, and the children stay the same.
pub record Passes (cut : Cut) (version : Version) (below : ℕ) (events : List Chunk) (e : Chunk)
    : Type 0 where
  pub sent : events_above below cut version faulty (events ++ e ∷ [])
      ≡ events_above below cut version faulty events ++ e ∷ []
  pub same : children_at (suc below) (events ++ e ∷ []) ≡ children_at (suc below) events

-- So does an event of another level.
pub passes : (cut : Cut) (version : Version) (below : ℕ) (events : List Chunk) (e : Chunk) →
    has_level below e ≡ false → Passes cut version below events e
passes cut version below events e other =
    let test = event_is_boundary cut version in
    let event_of = group_event version (suc below) in
    let children = children_at (suc below) events in
    let with_e = open_entries test 2 children ++ e ∷ [] in
    record {
      sent = (stage_step below event_of test events e).0
          ∙ ap (λ b. events_above below cut version faulty events
          ++ e ∷ cond (b && is_closed test 2 with_e) (event_of with_e ∷ []) []) other;
      same = children_more below events e
          ∙ ap (λ b. children ++ cond b (e ∷ []) []) other ∙ append-nil children;
    }

module _ {C : Type 0} (cut_of : C → Cut) where
  -- What an event is to do to the level, where it is the one behind these events.
  abbrev pub Goes : C → Version → ℕ → List Chunk → Chunk → NodeState C → Option Chunk → Type 0
  Goes cut version level events event new closed =
      (new ≡ node_level cut_of cut version level (events ++ event ∷ []))
      × (inner_events level (cut_of cut) version faulty (events ++ event ∷ [])
      ≡ inner_events level (cut_of cut) version faulty events ++ event ∷ option_to_list closed)

  passes_behind : (cut : C) (version : Version) (level : ℕ) (events : List Chunk) (event : Chunk)
      (old : NodeState C) →
      old ≡ node_level cut_of cut version level events → 1 ≤ old.node.level →
      (event.level ≡ old.node.level - 1 → ⊥) →
      Goes cut version level events event old None
  passes_behind cut version zero events event old e some other =
      let l : old.node.level ≡ 0 = ap (λ (s : NodeState C). s.node.level) e in absurd (omega arith)
  passes_behind cut version (suc below) events event old e some other =
      let l : old.node.level ≡ suc below = ap (λ (s : NodeState C). s.node.level) e in
      let p = passes (cut_of cut) version below events event
      (ne_eqb event.level below (λ h. other (omega arith))) in
      let state_of : List Chunk → NodeState C = λ es. record {
        cut = cut;
        version = version;
        node = group_event version (suc below)
            (open_entries (event_is_boundary (cut_of cut) version) 2 es);
        received = received_of es;
      } in
      (e ∙ ap state_of (sym p.same), p.sent)

  -- An event of another level leaves the level as it is.
  pub node_passes : (old : NodeState C) (node : Chunk) (event : Chunk) → node ≡ old.node →
      1 ≤ node.level →
      (event.level ≡ node.level - 1 → ⊥) → NodeTakes cut_of old old event None
  node_passes old node event o some other = record {
    state = λ cut version level events e. (at cut version level events e).0;
    events = λ cut version level events e. (at cut version level events e).1;
  }
    where
      at : (cut : C) (version : Version) (level : ℕ) (events : List Chunk) →
          old ≡ node_level cut_of cut version level events →
          Goes cut version level events event old None
      at cut version level events e = passes_behind cut version level events event old e
          (subst (λ (x : Chunk). 1 ≤ x.level) o some)
          (subst (λ (x : Chunk). event.level ≡ x.level - 1 → ⊥) o other)
