-- What the workers of a build give back.
use Rattle.std.specs.Prelude.{◌≡◌, ◌≢◌, ◌↔◌, ℕ, List, []}
use Rattle.prolly_tree.specs.Chunk.{Chunk}
use Rattle.prolly_tree.specs.Events.{Closing}
use Rattle.prolly_io.specs.Source.{SourceView}
use Rattle.prolly_link.specs.Identity.{LinkId}
use Rattle.prolly_link.specs.Views.{Receiving, Whole}
use Rattle.prolly_link.specs.Progress.{end_given, HasEnded}
use Rattle.prolly_link.specs.declared.message.End.TheVariants.{Fault}
use Rattle.prolly_link.specs.declared.fault.RunFault.TheVariants.{Read}
use Rattle.prolly_entry.specs.Record.{Record}
use Rattle.prolly_load.specs.Loaded.{IsLoaded}
use Rattle.prolly_load.specs.Reader.{StaysAsItWas}
use Rattle.prolly_stage.specs.Sends.{Sends}

-- The stage's input has ended, and what the stage makes of it was sent, on the links that it was
-- given.
pub record IsStaged {A : Type 0} (stage : Closing → List A → List Chunk) (input : Receiving A)
    (link : LinkId) (ended : Receiving A) (closed : Whole Chunk) : Type 0 where
  pub reads : ended.link ≡ input.link
  pub has_ended : HasEnded ended.progress
  pub writes : closed.link ≡ link
  pub sends : Sends stage ended.items (end_given ended.progress) [] closed.items closed.end

-- The source was loaded into the output of this link: what was sent and the end are what the bytes
-- come to, and the end tells a failed read exactly where a read failed. The source stayed what it
-- was.
pub record IsLoadedFrom {S : Type 0} (seen : S → SourceView) (file limit : ℕ) (source : S)
    (link : LinkId) (source' : S) (closed : Whole Record) : Type 0 where
  pub writes : closed.link ≡ link
  pub loaded : IsLoaded file limit (seen source).is_honest (seen source).left (seen source').left []
      closed.items closed.end
  pub read : (closed.end ≡ Fault (Read file)) ↔ ((seen source').failures ≢ (seen source).failures)
  pub unfailed : closed.end ≢ Fault (Read file) → (seen source').failures ≡ (seen source).failures
  pub stays : StaysAsItWas (seen source) (seen source')
