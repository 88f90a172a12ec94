-- Workers that stand one behind another.
use Rattle.std.specs.Prelude.{◌≡◌, ◌≢◌, ℕ, suc, ◌<◌, ◌↔◌, List, [], ◌++◌}
use Rattle.prolly_entry.specs.declared.version.Version.{Version}
use Rattle.prolly_entry.specs.Prefix.{IsPrefix}
use Rattle.prolly_entry.specs.Pair.{Pair}
use Rattle.prolly_entry.specs.Cut.{Cut}
use Rattle.prolly_tree.specs.Tree.{level_count}
use Rattle.prolly_tree.specs.Chunk.{Chunk, chunks, begun_chunks}
use Rattle.prolly_tree.specs.Events.{Closing, faulty, inner_events}
use Rattle.prolly_tree.specs.Pipeline.{pipeline_events, within_stages, HasSecond}
use Rattle.prolly_link.specs.declared.message.End.{End}
use Rattle.prolly_link.specs.declared.message.End.TheVariants.{Clean, Fault}
use Rattle.prolly_link.specs.declared.fault.RunFault.{RunFault}
use Rattle.prolly_link.specs.declared.fault.RunFault.TheVariants.{Memory}
use Rattle.prolly_stage.specs.Sends.{Sends}

-- A stage keeps prefixes: what it makes of a list with a fault is a prefix of what it makes of a
-- longer list, however that closes.
abbrev pub KeepsPrefixes : {A B : Type 0} → (Closing → List A → List B) → Type 0
KeepsPrefixes {A} stage = (closing : Closing) (prefix more : List A) →
    IsPrefix (stage faulty prefix) (stage closing (prefix ++ more))

-- One stage behind another makes its list of the list that the other makes.
abbrev pub behind : {A B C : Type 0} → (Closing → List B → List C) → (Closing → List A → List B) →
    Closing → List A → List C
behind second first closing items = second closing (first closing items)

-- Law: where one worker has sent what its stage makes, and a second received just that and has sent
-- what its own stage makes, the second has sent what its stage makes behind the first. A second
-- stage that keeps prefixes makes this hold where memory was refused too.
abbrev pub WorkersJoin : {A B C : Type 0} → (Closing → List A → List B) →
    (Closing → List B → List C) → Type 0
WorkersJoin {A} {B} {C} first second = KeepsPrefixes second →
    (received : List A) (end : End) (passed : List B) (middle : End) (sent : List C) (last : End) →
    Sends first received end [] passed middle → Sends second passed middle [] sent last →
    Sends (behind second first) received end [] sent last

-- Law: the stage of level n + 1 behind the pipeline of the levels 0 to n is the pipeline of the
-- levels 0 to n + 1.
abbrev pub StageFollows : Cut → Version → ℕ → Type 0
StageFollows cut version n =
    (pairs : List Pair) (end : End) (passed : List Chunk) (middle : End) (sent : List Chunk)
    (last : End) →
    Sends (pipeline_events n cut version) pairs end [] passed middle →
    Sends (inner_events (suc n) cut version) passed middle [] sent last →
    Sends (pipeline_events (suc n) cut version) pairs end [] sent last

-- What the writer behind n + 1 stages takes of the list sent, and of its end, where the pairs of a
-- map were to come with their own end.
pub record TakesTree (cut : Cut) (version : Version) (m : List Pair) (n : ℕ) (end : End)
    (sent : List Chunk) (last : End) : Type 0 where
  -- At a clean end the pairs had one, and it takes what it would take of the chunks of the map's
  -- tree.
  pub clean_end : last ≡ Clean → end ≡ Clean
  pub clean : last ≡ Clean → within_stages (suc n) sent ≡ within_stages (suc n)
      (chunks cut version m)
  -- There a second chunk of the last stage's level says that the tree has more levels than there
  -- are stages.
  pub tall : last ≡ Clean → HasSecond n sent ↔ (suc n < level_count cut version m)
  -- At a fault that is not want of memory the pairs ended with it, and it takes what it would take
  -- of the chunks that are closed.
  pub fault_end : (fault : RunFault) → last ≡ Fault fault → fault ≢ Memory → end ≡ Fault fault
  pub fault : (fault : RunFault) → last ≡ Fault fault → fault ≢ Memory →
      within_stages (suc n) sent ≡ within_stages (suc n) (begun_chunks cut version m)
  -- At want of memory it takes a prefix of what it would take of the chunks of the tree.
  pub memory : last ≡ Fault Memory → IsPrefix (within_stages (suc n) sent)
      (within_stages (suc n) (chunks cut version m))

-- Law: the writer behind a pipeline of n + 1 stages takes the chunks of the map's tree.
abbrev pub WriterTakes : Cut → Version → List Pair → ℕ → Type 0
WriterTakes cut version m n = (end : End) (sent : List Chunk) (last : End) →
    Sends (pipeline_events n cut version) m end [] sent last →
    TakesTree cut version m n end sent last
