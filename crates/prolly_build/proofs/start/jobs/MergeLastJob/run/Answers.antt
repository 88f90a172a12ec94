use Rattle.prolly_build.proofs.MergingSteps.{same_links, all_ended, all_received, merges_all}
use Rattle.prolly_build.proofs.start.jobs.MergeLastJob.run.Goals as goal

pub returns : goal.returns
returns g c =
    let before = c.args.self.inputs.items in
    let merged = c.merge-inputs in
    record {
      reads = same_links _ before merged.result.inputs.items merged.ensures.inputs;
      have_ended = all_ended _ before merged.result.inputs.items merged.ensures.inputs;
      writes = merged.ensures.out_link;
      merges = merges_all _ _ _ _ _
          (all_received _ before merged.result.inputs.items merged.ensures.inputs c.requires.ready)
          c.requires.unsent merged.ensures.merged;
    }
