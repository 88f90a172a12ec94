use Rattle.prolly_root_diff.proofs.LawfulWalks.{lawful_files_are_walked}
use Rattle.prolly_root_diff.proofs.OneFault.{leaf_faults_are_one}
use Rattle.prolly_root_diff.proofs.OneWalk.{walk_faults_are_one}
use Rattle.prolly_root_diff.proofs.laws.walks_tell_one_fault.Goals as goal

pub returns : goal.returns
returns c = record {
  lawful = lawful_files_are_walked c.tops_are_read.ensures.root c.tops_are_read.ensures.child
      c.tops_are_read.ensures.read;
  leaves = leaf_faults_are_one;
  walks = walk_faults_are_one;
}
