-- How the records of the files reach the last merger.
use Rattle.std.specs.Prelude.{◌≡◌, ℕ, zero, suc, List, map}
use Rattle.prolly_tree.specs.Merge.{Input}
use Rattle.prolly_entry.specs.Record.{Record}
use Rattle.prolly_io.specs.Source.{SourceView}
use Rattle.prolly_link.specs.Views.{Batching, Whole}
use Rattle.prolly_link.specs.declared.message.End.{End}
use Rattle.prolly_link.specs.declared.fault.RunFault.{RunFault}
use Rattle.prolly_merge.specs.Inputs.{input_of}
use Rattle.prolly_build.specs.Lists.{IsForked}
use Rattle.prolly_build.specs.Mergers.{MergesTwo, sent_input}
use Rattle.prolly_build.specs.RunResult.{AreLoaded}

-- Where two neighbours stood before, now what a merger of two sent of them stands.
pub record IsJoint (before after : List (Input RunFault)) : Type 0 where
  pub at : ℕ
  pub left : Input RunFault
  pub right : Input RunFault
  pub sent : List Record
  pub end : End
  pub forked : IsForked at after (input_of sent end) before left right
  pub merges : MergesTwo left right sent end

-- A number of mergers of two made the inputs out of the files.
abbrev pub Joined : ℕ → List (Input RunFault) → List (Input RunFault) → Type 0
Joined zero files inputs = inputs ≡ files
Joined (suc n) files inputs = (before : List (Input RunFault)) × Joined n files before ×
    IsJoint before inputs

-- The outputs carried what mergers of two made of what the loaders sent of the sources, from the
-- first file on.
pub record IsFed {S : Type 0} (seen : S → SourceView) (limit : ℕ) (before after : List S)
    (outs : List (Batching Record)) (closed : List (Whole Record)) : Type 0 where
  pub links : map (λ c. c.link) closed ≡ map (λ o. o.link) outs
  pub loader_outs : List (Batching Record)
  pub files : List (Whole Record)
  pub loaded : AreLoaded seen limit 0 before loader_outs after files
  pub mergers : ℕ
  pub joined : Joined mergers (map sent_input files) (map sent_input closed)
