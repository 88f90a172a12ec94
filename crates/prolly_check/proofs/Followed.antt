-- Events that pass levels of nodes, and the closing of these, where what leaves the last one is due.
use Rattle.std.proofs.Common.{◌≡◌, ℕ, zero, suc, ◌+◌, ◌<◌, List, [], ◌∷◌, ◌++◌, length}
use Rattle.std.proofs.Common.{Option, Some, None, refl, sym, ap, ◌∙◌, subst, arith, append_assoc}
use Rattle.std.proofs.Common.{append-nil}
use Rattle.std.specs.Option.{option_to_list}
use Rattle.prolly_entry.specs.Cut.{Cut, sha512_cut}
use Rattle.prolly_entry.specs.Pair.{Pair}
use Rattle.prolly_entry.specs.declared.version.Version.{Version}
use Rattle.prolly_entry.specs.declared.version.Version.TheVariants.{One}
use Rattle.prolly_tree.specs.Chunk.{Chunk, chunk_of}
use Rattle.prolly_tree.specs.Events.{clean, faulty, leaf_events, inner_events, group_event}
use Rattle.prolly_tree.specs.Events.{event_is_boundary, with_group_events}
use Rattle.prolly_tree.specs.lemmas.Splits.{flat}
use Rattle.prolly_laws.specs.Splits.{closed_parts}
use Rattle.prolly_chunk.specs.LeafLevel.{LeafState, LeafBegins, LeafEnds}
use Rattle.prolly_tree.specs.Pipeline.{pipeline_events}
use Rattle.prolly_chunk.specs.NodeLevel.{NodeState, NodeTakes, NodeEnds, node_level}
use Rattle.prolly_check.specs.Follower.{PassedOn, PassesOn, ClosedPasses, ClosesAll, ClosesBehind}
use Rattle.prolly_check.specs.Follower.{AllWhole}
use Rattle.prolly_check.specs.Follower.{all_of, leaf_chunks, sent_of_leaves}
use Rattle.prolly_look_up.specs.HeldPairs.{bytes_in}
use Rattle.prolly_check.specs.OpenLevels.{AreBehind, AreBelow, node_levels, sent_through}
use Rattle.prolly_look_up.specs.lemmas.HeldPairs.{bytes_append}
use Rattle.prolly_check.proofs.NextLeaf.{ends_empty, ends_whole_leaves}
use Rattle.prolly_check.proofs.OpenLevels.{behind_on, sent_on, closed_below, ended_below, prefix_of}
use Rattle.prolly_check.proofs.OpenLevels.{sent_first, sent_prefix}

-- ---- an event on its way

-- one event more leaves the last level
one_sent : (gone before : List (List ℕ)) (sent : List Chunk) (event : Chunk) →
    gone ++ before ≡ bytes_in sent →
    gone ++ (before ++ event.bytes ∷ []) ≡ bytes_in (sent ++ event ∷ [])
one_sent gone before sent event e =
    sym (append_assoc gone before (event.bytes ∷ [])) ∙ ap (λ cs. cs ++ event.bytes ∷ []) e ∙
    sym (bytes_append sent (event ∷ []))

-- no level is left
pub none_above : (event : Chunk) (before : List (List ℕ)) →
    PassesOn [] [] event before (before ++ event.bytes ∷ [])
none_above event before bits version level events low behind =
    record { behind = tt; sent = λ gone e. one_sent gone before events event e }

-- the first level takes it, those above let it pass, and then they take what the first one closes
module _ (event : Chunk) (before after : List (List ℕ)) (state state' : NodeState ℕ)
    (above above' : List (NodeState ℕ)) (bits : ℕ) (version : Version) (level : ℕ)
    (events : List Chunk) (low : event.level < level)
    (behind : AreBehind bits version level (state ∷ above) events)
    (here : state' ≡ node_level sha512_cut bits version level (events ++ event ∷ [])) where
  abbrev inner : List Chunk → List Chunk
  inner = inner_events level (sha512_cut bits) version faulty

  abbrev through : List Chunk → List Chunk
  through = sent_through (sha512_cut bits) version (suc level) (length above)

  above_it : AreBehind bits version (suc level) above (inner events ++ event ∷ [])
  above_it = behind_on bits version (suc level) above (inner events) event (omega arith) behind.1

  mid : (gone : List (List ℕ)) → gone ++ before ≡ bytes_in (through (inner events)) →
      gone ++ (before ++ event.bytes ∷ []) ≡ bytes_in (through (inner events ++ event ∷ []))
  mid gone e = one_sent gone before (through (inner events)) event e ∙
      ap bytes_in (sym (sent_on bits version (suc level) (length above) (inner events) event
      (omega arith)))

  above_passes : (closed : Option Chunk) →
      inner (events ++ event ∷ []) ≡ inner events ++ event ∷ option_to_list closed →
      ClosedPasses above above' closed (before ++ event.bytes ∷ []) after →
      AreBelow (suc level) (option_to_list closed) →
      PassedOn bits version level (state ∷ above) (state' ∷ above') events event before after
  above_passes None sends p below = record {
    behind = (
      here,
      subst (AreBehind bits version (suc level) above') (sym sends)
          (subst (λ ls. AreBehind bits version (suc level) ls (inner events ++ event ∷ []))
          (sym p.0) above_it),
    );
    sent = λ gone e. ap (λ cs. gone ++ cs) p.1 ∙ mid gone e ∙
        ap (λ es. bytes_in (through es)) (sym sends);
  }
  above_passes (Some c) sends p below =
      let q = p bits version (suc level) (inner events ++ event ∷ []) below.0 above_it in
      let e : inner (events ++ event ∷ []) ≡ (inner events ++ event ∷ []) ++ c ∷ [] =
      sends ∙ sym (append_assoc (inner events) (event ∷ []) (c ∷ [])) in
      record {
        behind = (here, subst (AreBehind bits version (suc level) above') (sym e) q.behind);
        sent = λ gone h. q.sent gone (mid gone h) ∙ ap (λ es. bytes_in (through es)) (sym e);
      }

pub one_above : (event : Chunk) (before after : List (List ℕ)) (state state' : NodeState ℕ)
    (above above' : List (NodeState ℕ)) (closed : Option Chunk) →
    NodeTakes sha512_cut state state' event closed →
    ClosedPasses above above' closed (before ++ event.bytes ∷ []) after →
    PassesOn (state ∷ above) (state' ∷ above') event before after
one_above event before after state state' above above' closed takes passes bits version level events
    low behind =
    let sends = takes.events bits version level events behind.0 in
    above_passes event before after state state' above above' bits version level events low behind
    (takes.state bits version level events behind.0) closed sends passes
    (closed_below (sha512_cut bits) version level events event closed sends)

-- what is due stands behind what was due before
pub passes_behind : (old new : List (NodeState ℕ)) (closed : Option Chunk)
    (front before after : List (List ℕ)) → ClosedPasses old new closed before after →
    ClosedPasses old new closed (front ++ before) (front ++ after)
passes_behind old new None front before after p = (p.0, ap (λ cs. front ++ cs) p.1)
passes_behind old new (Some event) front before after p = λ bits version level events low behind.
    let q = p bits version level events low behind in record {
      behind = q.behind;
      sent = λ gone e. sym (append_assoc gone front after) ∙
          q.sent (gone ++ front) (append_assoc gone front before ∙ e);
    }

-- ---- closing the levels

-- the lowest one is closed, what it sends passes the others, and then they are closed
module _ (state : NodeState ℕ) (rest rest' : List (NodeState ℕ))
    (before mid after : List (List ℕ)) (size : length rest' ≡ length rest)
    (closes : ClosesAll rest' mid after) (bits : ℕ) (version : Version) (pairs : List Pair)
    (level : ℕ) (count : level + suc (length rest) ≡ node_levels) (gone : List (List ℕ)) where
  abbrev below : ℕ → List Chunk
  below n = pipeline_events n (sha512_cut bits) version clean pairs

  abbrev sent_on_last : List Chunk
  sent_on_last = inner_events (suc level) (sha512_cut bits) version faulty (below level)

  abbrev through_rest : ℕ → List Chunk → List Chunk
  through_rest n = sent_through (sha512_cut bits) version (suc (suc level)) n

  many : suc level + length rest' ≡ node_levels
  many = omega (arith, size, count)

  rest_closed : AreBehind bits version (suc (suc level)) rest sent_on_last →
      gone ++ before ≡ bytes_in (through_rest (length rest) sent_on_last) → (last : Option Chunk) →
      below (suc level) ≡ sent_on_last ++ option_to_list last →
      ClosedPasses rest rest' last before mid → AreBelow (suc (suc level)) (option_to_list last) →
      gone ++ after ≡ bytes_in (all_of bits version pairs)
  rest_closed behind e None sends p low =
      let same : below (suc level) ≡ sent_on_last = sends ∙ append-nil sent_on_last in
      closes bits version pairs (suc level) many
      (subst (AreBehind bits version (suc (suc level)) rest') (sym same)
      (subst (λ ls. AreBehind bits version (suc (suc level)) ls sent_on_last) (sym p.0) behind))
      gone
      (ap (λ cs. gone ++ cs) p.1 ∙ e ∙ ap (λ n. bytes_in (through_rest n sent_on_last)) (sym size) ∙
      ap (λ es. bytes_in (through_rest (length rest') es)) (sym same))
  rest_closed behind e (Some c) sends p low =
      let q = p bits version (suc (suc level)) sent_on_last low.0 behind in
      closes bits version pairs (suc level) many
      (subst (AreBehind bits version (suc (suc level)) rest') (sym sends) q.behind) gone
      (q.sent gone e ∙ ap (λ n. bytes_in (through_rest n (sent_on_last ++ c ∷ []))) (sym size) ∙
      ap (λ es. bytes_in (through_rest (length rest') es)) (sym sends))

pub one_closed : (state : NodeState ℕ) (rest rest' : List (NodeState ℕ)) (last : Option Chunk)
    (before mid after : List (List ℕ)) → NodeEnds sha512_cut state last →
    length rest' ≡ length rest → ClosedPasses rest rest' last before mid →
    ClosesAll rest' mid after → ClosesAll (state ∷ rest) before after
one_closed state rest rest' last before mid after ends size passes closes bits version pairs level
    count behind gone e =
    let below = pipeline_events level (sha512_cut bits) version clean pairs in
    let sends = ends bits version (suc level) below behind.0 in
    rest_closed state rest rest' before mid after size closes bits version pairs level count gone
    behind.1 e last sends passes
    (ended_below (sha512_cut bits) version (suc level) below last sends)

-- ---- closing behind leaves

inner_none : (cut : Cut) (version : Version) (level : ℕ) →
    inner_events level cut version faulty [] ≡ []
inner_none cut version zero = refl
inner_none cut version (suc below) =
    let test = event_is_boundary cut version in
    ap (λ gs. with_group_events below (group_event version (suc below)) gs [] ++ [])
    (closed_parts test 2 [] [] tt tt)

sent_none : (cut : Cut) (version : Version) (level count : ℕ) →
    sent_through cut version level count [] ≡ []
sent_none cut version level zero = refl
sent_none cut version level (suc count) =
    ap (sent_through cut version (suc level) count) (inner_none cut version level) ∙
    sent_none cut version (suc level) count

-- leaves send something
sent_some : (bits : ℕ) (version : Version) (l : List Pair) (ls : List (List Pair)) →
    [] ≡ bytes_in (sent_of_leaves bits version (l ∷ ls)) → ⊥
sent_some bits version l ls e =
    let leaf = chunk_of version 0 l in
    let p = prefix_of _ (sent_through (sha512_cut bits) version 1 node_levels (leaf ∷ [])) _
    (sent_first (sha512_cut bits) version 1 node_levels [] leaf)
    (sent_prefix (sha512_cut bits) version 1 node_levels (leaf ∷ []) (leaf_chunks version (l ∷ ls))
    (leaf_chunks version ls, refl)) in
    absurd (cc (e ∙ ap bytes_in (p.1 ∙ ap (λ es. (es ++ leaf ∷ []) ++ p.0)
    (sent_none (sha512_cut bits) version 1 node_levels))))

-- the leaf of the empty map
pub empty_leaf : (bits : ℕ) (level : LeafState ℕ) (last : Option Chunk) →
    LeafBegins sha512_cut bits level → LeafEnds sha512_cut level last →
    last ≡ Some (chunk_of One 0 [])
empty_leaf bits level last begins ends =
    go last (sym (ends_empty (sha512_cut bits) One) ∙ ends bits One [] begins.state ∙
    ap (λ es. es ++ option_to_list last) (begins.events One))
  where
    go : (last : Option Chunk) → chunk_of One 0 [] ∷ [] ≡ [] ++ option_to_list last →
        last ≡ Some (chunk_of One 0 [])
    go None e = cc
    go (Some c) e = ap Some (sym (cc e))

module _ (bits : ℕ) (nodes : List (NodeState ℕ)) (number : ℕ) where
  -- where there are no leaves
  pub closes_empty : (nodes' : List (NodeState ℕ)) (due due' : List (List ℕ)) → number ≡ 0 →
      length nodes' ≡ length nodes → PassesOn nodes nodes' (chunk_of One 0 []) [] due →
      ClosesAll nodes' due due' → ClosesBehind bits nodes number due'
  closes_empty nodes' due due' zero_is size passes closes version leaves read whole many behind e n =
      go leaves behind (none read (sym n ∙ zero_is)) (sym (none read (sym n ∙ zero_is)) ∙ e)
    where
      none : (read : List (List ℕ)) → length read ≡ 0 → read ≡ []
      none [] h = refl
      none (c ∷ read) h = absurd (omega (arith, h))

      go : (leaves : List (List Pair)) → AreBehind bits version 1 nodes (leaf_chunks version leaves) →
          read ≡ [] → [] ≡ bytes_in (sent_of_leaves bits version leaves) →
          read ++ due' ≡ bytes_in (all_of bits version (flat leaves))
      go (l ∷ ls) behind r e = absurd (sent_some bits version l ls e)
      go [] behind r e =
          let cut = sha512_cut bits in
          let p = passes bits version 1 [] (omega arith) behind in
          let sent = p.sent [] (ap bytes_in (sym (sent_none cut version 1 (length nodes)))) in
          let empty = ends_empty cut version in
          let all : [] ++ due' ≡ bytes_in (all_of bits version []) =
          closes bits version [] 0 (omega (arith, size, many))
          (subst (AreBehind bits version 1 nodes') (sym empty) p.behind) []
          (sent ∙ ap (λ n. bytes_in (sent_through cut version 1 n (chunk_of One 0 [] ∷ []))) (sym size)
          ∙ ap (λ es. bytes_in (sent_through cut version 1 (length nodes') es)) (sym empty)) in
          ap (λ cs. cs ++ due') r ∙ all

  -- where whole leaves are all
  pub closes_leaves : (due' : List (List ℕ)) → (number ≡ 0 → ⊥) → ClosesAll nodes [] due' →
      ClosesBehind bits nodes number due'
  closes_leaves due' some closes version leaves read whole many behind e n =
      go leaves whole behind e
    where
      go : (leaves : List (List Pair)) → AllWhole bits leaves →
          AreBehind bits version 1 nodes (leaf_chunks version leaves) →
          read ≡ bytes_in (sent_of_leaves bits version leaves) →
          read ++ due' ≡ bytes_in (all_of bits version (flat leaves))
      go [] whole behind e = absurd (some (n ∙ ap length e ∙
          ap (λ es. length (bytes_in es)) (sent_none (sha512_cut bits) version 1 node_levels)))
      go (l ∷ ls) whole behind e =
          let cut = sha512_cut bits in
          let ends : leaf_events cut version clean (flat (l ∷ ls)) ≡ leaf_chunks version (l ∷ ls) =
          ap (leaf_events cut version clean) (sym (append-nil (flat (l ∷ ls)))) ∙
          ends_whole_leaves cut version l ls whole in
          closes bits version (flat (l ∷ ls)) 0 (omega (arith, many))
          (subst (AreBehind bits version 1 nodes) (sym ends) behind) read
          (append-nil read ∙ e ∙
          ap (λ n. bytes_in (sent_through cut version 1 n (leaf_chunks version (l ∷ ls)))) (sym many) ∙
          ap (λ es. bytes_in (sent_through cut version 1 (length nodes) es)) (sym ends))
