-- Levels of nodes that stand one above another: what they send of events, and of all of them.
use Rattle.std.proofs.Common.{Bool, List, None, Option, [], ap, append-nil, append_assoc, arith}
use Rattle.std.proofs.Common.{cond, drop, false, get_or, length, map, refl, rules, subst, suc, sym}
use Rattle.std.proofs.Common.{take, true, zero, ℕ, ◌++◌, ◌+◌, ◌<◌, ◌^◌, ◌∙◌, ◌∷◌, ◌≡◌, ◌≤◌}
use Rattle.std.specs.Option.{option_to_list}
use Rattle.std.proofs.lemmas.Grind.{common_steps}
use Rattle.std.proofs.lemmas.List.{append_cancel_left}
use Rattle.prolly_entry.specs.Cut.{Cut, sha512_cut}
use Rattle.prolly_entry.specs.Pair.{Pair}
use Rattle.prolly_entry.specs.Prefix.{IsPrefix}
use Rattle.prolly_entry.specs.declared.version.Version.{Version}
use Rattle.prolly_tree.specs.Chunk.{Chunk, chunks}
use Rattle.prolly_tree.specs.Events.{clean, event_is_boundary, faulty, group_event, inner_events}
use Rattle.prolly_tree.specs.Tree.{level_count}
use Rattle.prolly_laws.specs.Stages.{enough_stages, fault_is_prefix, stage_step}
use Rattle.prolly_chunk.specs.NodeLevel.{NodeBegins, NodeState, NodeTakes, node_level}
use Rattle.prolly_chunk.specs.lemmas.{node_passes}
use Rattle.prolly_check.specs.FirstFault.{difference}
use Rattle.prolly_check.specs.OpenLevels.{AreBehind, AreBelow, AreUnused, node_levels, sent_through}
use Rattle.prolly_tree.specs.Pipeline.{pipeline_events}
use Rattle.prolly_laws.specs.Trees.{few_levels}

-- ---- what is sent of more events goes on

pub prefix_of : {A : Type 0} (xs ys zs : List A) → IsPrefix xs ys → IsPrefix ys zs → IsPrefix xs zs
prefix_of xs ys zs p q = (p.0 ++ q.0, q.1 ∙ ap (λ a. a ++ q.0) p.1 ∙ append_assoc xs p.0 q.0)

module _ (cut : Cut) (version : Version) where
  sent_more : (level count : ℕ) (events more : List Chunk) →
      IsPrefix (sent_through cut version level count events)
      (sent_through cut version level count (events ++ more))
  sent_more level zero events more = (more, refl)
  sent_more level (suc count) events more =
      let p = (fault_is_prefix cut version).1 faulty level events more in
      let g = sent_more (suc level) count (inner_events level cut version faulty events) p.0 in
      (g.0, ap (sent_through cut version (suc level) count) p.1 ∙ g.1)

  pub sent_prefix : (level count : ℕ) (events all : List Chunk) → IsPrefix events all →
      IsPrefix (sent_through cut version level count events)
      (sent_through cut version level count all)
  sent_prefix level count events all p =
      let g = sent_more level count events p.0 in
      (g.0, ap (sent_through cut version level count) p.1 ∙ g.1)

  -- a level sends an event on first, and then perhaps a node
  sends_first : (level : ℕ) (events : List Chunk) (event : Chunk) →
      IsPrefix (inner_events level cut version faulty events ++ event ∷ [])
      (inner_events level cut version faulty (events ++ event ∷ []))
  sends_first zero events event = ([], sym (append-nil (events ++ event ∷ [])))
  sends_first (suc below) events event = (
    _,
    (stage_step below (group_event version (suc below)) (event_is_boundary cut version) events
        event).0
        ∙ sym (append_assoc (inner_events (suc below) cut version faulty events) (event ∷ []) _),
  )

  -- so do all levels together
  pub sent_first : (level count : ℕ) (events : List Chunk) (event : Chunk) →
      IsPrefix (sent_through cut version level count events ++ event ∷ [])
      (sent_through cut version level count (events ++ event ∷ []))
  sent_first level zero events event = ([], sym (append-nil (events ++ event ∷ [])))
  sent_first level (suc count) events event =
      let sent = sent_through cut version (suc level) count in
      let inner = inner_events level cut version faulty in
      prefix_of (sent (inner events) ++ event ∷ []) (sent (inner events ++ event ∷ []))
      (sent (inner (events ++ event ∷ [])))
      (sent_first (suc level) count (inner events) event)
      (sent_prefix (suc level) count (inner events ++ event ∷ []) (inner (events ++ event ∷ []))
      (sends_first level events event))

-- ---- differences

-- where chunks begin alike, what follows is compared
pub difference_along : (chunks rest : List (List ℕ)) (start number : ℕ) → number ≤ length chunks →
    difference start (take number chunks ++ rest) chunks ≡ difference (start + number) rest
    (drop number chunks)
difference_along chunks rest start zero h = search rules
difference_along [] rest start (suc number) h = absurd (omega arith)
difference_along (c ∷ chunks) rest start (suc number) h =
    search (rules, difference_along chunks rest (suc start) number (omega arith))

-- ---- what the levels do with an event

-- a level that is not the next above an event sends it on, and stays as it is
forwards : (bits : ℕ) (version : Version) (level : ℕ) (events : List Chunk) (event : Chunk) →
    suc event.level < level →
    NodeTakes sha512_cut (node_level sha512_cut bits version level events)
    (node_level sha512_cut bits version level events) event None
forwards bits version level events event h = grind (arith, node_passes)

-- so do all levels above it
pub behind_on : (bits : ℕ) (version : Version) (level : ℕ) (states : List (NodeState ℕ))
    (events : List Chunk) (event : Chunk) → suc event.level < level →
    AreBehind bits version level states events →
    AreBehind bits version level states (events ++ event ∷ [])
behind_on bits version level [] events event h b = tt
behind_on bits version level (s ∷ states) events event h b =
    let t = forwards bits version level events event h in (
      b.0 ∙ t.state bits version level events refl,
      subst (AreBehind bits version (suc level) states)
          (sym (t.events bits version level events refl))
          (behind_on bits version (suc level) states
          (inner_events level (sha512_cut bits) version faulty events) event (omega arith) b.1),
    )

pub sent_on : (bits : ℕ) (version : Version) (level count : ℕ) (events : List Chunk) (event : Chunk) →
    suc event.level < level →
    sent_through (sha512_cut bits) version level count (events ++ event ∷ []) ≡
    sent_through (sha512_cut bits) version level count events ++ event ∷ []
sent_on bits version level zero events event h = refl
sent_on bits version level (suc count) events event h =
    ap (sent_through (sha512_cut bits) version (suc level) count)
    ((forwards bits version level events event h).events bits version level events refl)
    ∙ sent_on bits version (suc level) count (inner_events level (sha512_cut bits) version faulty
    events) event (omega arith)

-- ---- the level of what a level closes

grouped_below : (version : Version) (level : ℕ) (b : Bool) (groups : List (List Chunk)) →
    AreBelow (suc level) (cond b (map (group_event version level) groups) [])
grouped_below version level false groups = tt
grouped_below version level true [] = tt
grouped_below version level true (g ∷ groups) =
    (omega arith, grouped_below version level true groups)

pub closed_below : (cut : Cut) (version : Version) (level : ℕ) (events : List Chunk) (event : Chunk)
    (closed : Option Chunk) →
    inner_events level cut version faulty (events ++ event ∷ []) ≡ inner_events level cut version
    faulty events ++ event ∷ option_to_list closed →
    AreBelow (suc level) (option_to_list closed)
closed_below cut version zero events event closed e = search (rules, append_cancel_left)
closed_below cut version (suc below) events event closed e =
    search (rules, append_cancel_left, stage_step, grouped_below)

pub ended_below : (cut : Cut) (version : Version) (level : ℕ) (events : List Chunk)
    (last : Option Chunk) →
    inner_events level cut version clean events ≡ inner_events level cut version faulty events ++
    option_to_list last → AreBelow (suc level) (option_to_list last)
ended_below cut version zero events last e = search (rules, common_steps)
ended_below cut version (suc below) events last e =
    search (rules, append_cancel_left, grouped_below)

-- ---- levels that took nothing

-- levels that took nothing are those behind no chunks, and send none
pub unused_behind : (bits : ℕ) (version : Version) (level : ℕ) (states : List (NodeState ℕ)) →
    AreUnused bits version level states → AreBehind bits version level states []
unused_behind bits version level [] h = tt
unused_behind bits version level (s ∷ states) h =
    search (rules, unused_behind bits version (suc level) states h.1)

pub unused_sent : (bits : ℕ) (version : Version) (level : ℕ) (states : List (NodeState ℕ)) →
    AreUnused bits version level states → sent_through (sha512_cut bits) version level
    (length states) [] ≡ []
unused_sent bits version level [] h = refl
unused_sent bits version level (s ∷ states) h =
    search (rules, unused_sent bits version (suc level) states h.1)

pub unused_more : (bits : ℕ) (version : Version) (level next : ℕ) (states : List (NodeState ℕ))
    (s : NodeState ℕ) → next ≡ level + length states → AreUnused bits version level states →
    NodeBegins sha512_cut bits version next s → AreUnused bits version level (states ++ s ∷ [])
unused_more bits version level next [] s e h b = search rules
unused_more bits version level next (t ∷ states) s e h b =
    (h.0, unused_more bits version (suc level) next states s (omega arith) h.1 b)

-- ---- the levels above send a prefix of what the last one sends

module _ (bits : ℕ) (version : Version) (pairs : List Pair) where
  abbrev cut : Cut
  cut = sha512_cut bits

  abbrev pub clean_events : ℕ → List Chunk
  clean_events level = pipeline_events level (sha512_cut bits) version clean pairs

  pub sends_prefix : (level count : ℕ) → IsPrefix
      (sent_through cut version (suc level) count (clean_events level))
      (clean_events (level + count))
  sends_prefix level zero = grind (arith, append-nil)
  sends_prefix level (suc count) =
      let sent = sent_through cut version (suc (suc level)) count in
      let below = clean_events level in
      let inner = inner_events (suc level) cut version faulty below in
      let p = (fault_is_prefix cut version).1 clean (suc level) below [] in
      let more : IsPrefix inner (clean_events (suc level)) =
      (p.0, ap (inner_events (suc level) cut version clean) (sym (append-nil below)) ∙ p.1) in
      let e : suc level + count ≡ level + suc count = omega arith in
      subst (λ n. IsPrefix (sent inner) (clean_events n)) e
      (prefix_of (sent inner) (sent (clean_events (suc level))) (clean_events (suc level + count))
      (sent_prefix cut version (suc (suc level)) count inner (clean_events (suc level)) more)
      (sends_prefix (suc level) count))

-- ---- the same, as the code has it

-- the first of the levels was taken out
pub taken_out : {A : Type 0} (old new : List A) (first : A) → 0 < length old →
    first ≡ get_or old 0 first → new ≡ take 0 old ++ drop (0 + 1) old → old ≡ first ∷ new
taken_out [] new first some v e = absurd (omega arith)
taken_out (x ∷ xs) new first some v e = ap (λ y. y ∷ xs) (sym v) ∙ ap (λ ys. first ∷ ys) (sym e)

-- ---- all that is sent

-- so many levels are enough
levels_enough : (cut : Cut) (version : Version) (pairs : List Pair) → length pairs < 2 ^ 64 →
    level_count cut version pairs ≤ suc node_levels
unfolding node_levels
levels_enough cut version pairs few = few_levels cut version pairs 64 (omega arith)

pub all_sent : (bits : ℕ) (version : Version) (pairs : List Pair) → length pairs < 2 ^ 64 →
    pipeline_events node_levels (sha512_cut bits) version clean pairs ≡ chunks (sha512_cut bits)
    version pairs
all_sent bits version pairs few = search (rules, enough_stages, levels_enough)
