-- What the stages of a pipeline send, and its writer takes.
use Rattle.std.proofs.Common.{ℕ, suc, ◌^◌, ◌<◌, ◌≤◌, Bool, List, length}
use Rattle.prolly_entry.specs.declared.version.Version.{Version}
use Rattle.prolly_entry.specs.Cut.{Cut}
use Rattle.prolly_entry.specs.Pair.{Pair}
use Rattle.prolly_tree.specs.Chunk.{Chunk}
use Rattle.prolly_tree.specs.Events.{FaultSendsPrefix, StageStep}
use Rattle.prolly_tree.specs.Pipeline.{StagesMakeTree, EnoughStages, WriterTakesPrefix}
use Rattle.prolly_tree.specs.Tree.{level_count}
use Rattle.prolly_tree.proofs.stages.Composition as proved
use Rattle.prolly_tree.proofs.stages.Prefixes as prefixes
use Rattle.prolly_tree.proofs.stages.Steps as steps
use Rattle.prolly_tree.proofs.stages.Writers as writers

-- What a stage sends goes on event by event.
pub stage_step : (level : ℕ) (event_of : List Chunk → Chunk) (ends : Chunk → Bool)
    (events : List Chunk) (e : Chunk) → StageStep ends event_of level events e
stage_step = steps.stage_step

-- What a stage sends at a fault is a prefix of what it sends of a longer input.
pub fault_is_prefix : (cut : Cut) (version : Version) → FaultSendsPrefix cut version
fault_is_prefix = prefixes.fault_is_prefix

-- The stages, one behind another, make the tree.
pub composition : (cut : Cut) (version : Version) (m : List Pair) → length m < 2 ^ 64 → (n : ℕ) →
    StagesMakeTree cut version m n
composition = proved.composition

-- Where they are as many as the tree has levels, they send its chunks, and the root last.
pub enough_stages : (cut : Cut) (version : Version) (m : List Pair) → length m < 2 ^ 64 → (n : ℕ) →
    level_count cut version m ≤ suc n → EnoughStages cut version m n
enough_stages = proved.enough_stages

-- Of a prefix of a list the writer takes a prefix.
pub within_is_prefix : WriterTakesPrefix
within_is_prefix = writers.within_is_prefix
