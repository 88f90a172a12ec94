-- Workers that stand one behind another.
use Rattle.std.proofs.Common.{◌≡◌, ℕ, zero, suc, List, [], ◌∷◌, ◌++◌, ◌∙◌, ap, subst, inl, inr}
use Rattle.std.specs.Option.{option_to_list}
use Rattle.prolly_entry.specs.declared.version.Version.{Version}
use Rattle.prolly_entry.specs.Prefix.{IsPrefix}
use Rattle.prolly_tree.specs.Chunk.{Chunk}
use Rattle.prolly_entry.specs.Cut.{Cut}
use Rattle.prolly_tree.specs.Events.{Closing, faulty, leaf_events, inner_events}
use Rattle.prolly_tree.specs.Pipeline.{pipeline_events}
use Rattle.prolly_link.specs.declared.message.End.{End}
use Rattle.prolly_link.specs.declared.message.End.TheVariants.{Fault}
use Rattle.prolly_link.specs.declared.fault.RunFault.TheVariants.{Memory}
use Rattle.prolly_chunk.specs.NodeLevel.{NodeState, node_level}
use Rattle.prolly_stage.specs.Sends.{closing_of, Sends, GivesUp}
use Rattle.prolly_stage.specs.StageStep.{SendsNodeInPart}
use Rattle.prolly_stage.specs.Workers.{KeepsPrefixes, behind, WorkersJoin, StageFollows}
use Rattle.prolly_laws.specs.Stages.{fault_is_prefix}
use Rattle.prolly_entry.specs.lemmas.Lists.{prefix_trans}
use Rattle.prolly_stage.specs.lemmas.Steps.{gives_up_before, gives_up_within}

module _ {A B C : Type 0} (first : Closing → List A → List B) (second : Closing → List B → List C)
  where
    -- A stage behind another keeps prefixes where both do.
    pub behind_keeps : KeepsPrefixes first → KeepsPrefixes second →
        KeepsPrefixes (behind second first)
    behind_keeps f s closing prefix more =
        let p = f closing prefix more in
        let q = s closing (first faulty prefix) p.0 in
        (q.0, ap (second closing) p.1 ∙ q.1)

    -- The first worker gave up.
    after_refusal : KeepsPrefixes second → (received : List A) (end : End) (passed : List B)
        (sent : List C) (last : End) →
        IsPrefix passed (first (closing_of end) received) →
        Sends second passed (Fault Memory) [] sent last →
        Sends (behind second first) received end [] sent last
    after_refusal law received end passed sent last f k =
        let q = law (closing_of end) passed f.0 in
        let all : IsPrefix (second faulty passed) (behind second first (closing_of end) received) =
        (q.0, ap (second (closing_of end)) f.1 ∙ q.1) in
        elim k [
          | inl h ↦ inr (h.1, (second faulty passed, all, h.0))
          | inr h ↦ inr (
            h.0,
            (
              h.1.0,
              prefix_trans h.1.0 (second faulty passed)
                  (behind second first (closing_of end) received) h.1.1 all,
              h.1.2,
            ),
          )
        ]

    moved : (passed passed' : List B) (middle middle' : End) (sent : List C) (last : End) →
        passed ≡ passed' → middle ≡ middle' →
        Sends second passed middle [] sent last → Sends second passed' middle' [] sent last
    moved passed passed' middle middle' sent last p q h =
        let P : List B → End → Type 0 = λ xs e. Sends second xs e [] sent last in
        subst (λ e. P passed' e) q (subst (λ xs. P xs middle) p h)

    pub join_workers : WorkersJoin first second
    join_workers law received end passed middle sent last h k = go h
      where
        go : Sends first received end [] passed middle →
            Sends (behind second first) received end [] sent last
        go (inl f) = moved passed (first (closing_of end) received) middle end sent last f.0 f.1 k
        go (inr f) = after_refusal law received end f.1.0 sent last f.1.1
            (moved passed f.1.0 middle (Fault Memory) sent last f.1.2 f.0 k)

module _ (cut : Cut) (version : Version) where
  pub leaves_keep : KeepsPrefixes (leaf_events cut version)
  leaves_keep closing prefix more = (fault_is_prefix cut version).0 closing prefix more

  pub nodes_keep : (level : ℕ) → KeepsPrefixes (inner_events level cut version)
  nodes_keep level closing prefix more = (fault_is_prefix cut version).1 closing level prefix more

  pub pipeline_keeps : (n : ℕ) → KeepsPrefixes (pipeline_events n cut version)
  pipeline_keeps zero = leaves_keep
  pipeline_keeps (suc n) = behind_keeps (pipeline_events n cut version)
      (inner_events (suc n) cut version) (pipeline_keeps n) (nodes_keep (suc n))

  pub stage_follows : (n : ℕ) → StageFollows cut version n
  stage_follows n = join_workers (pipeline_events n cut version) (inner_events (suc n) cut version)
      (nodes_keep (suc n))

-- A stage of nodes gives up while it takes an event.
pub gives_up_in_part : {C : Type 0} (cut_of : C → Cut) (cut : C) (version : Version) (level : ℕ)
    (received all : List Chunk) (old new : NodeState C)
    (event : Chunk) (before sent sent' : List Chunk) →
    all ≡ received ++ event ∷ [] → old ≡ node_level cut_of cut version level received →
    sent ≡ before ++ inner_events level (cut_of cut) version faulty received →
    SendsNodeInPart cut_of old new event sent sent' →
    GivesUp (inner_events level (cut_of cut) version) all before sent'
gives_up_in_part cut_of cut version level received all old new event before sent sent' e s f part =
    let stage = inner_events level (cut_of cut) version in
    let law = nodes_keep (cut_of cut) version level in
    elim part [
      | inl h ↦ gives_up_before stage law received (event ∷ []) all before sent sent' e f h
      | inr h ↦ gives_up_within stage law received all (event ∷ []) (option_to_list h.0) before sent
          sent'
          (ap (stage faulty) e ∙ h.1.events cut version level received s) f h.2
    ]
