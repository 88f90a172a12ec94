use Rattle.prolly_root_diff.proofs.Lacking.{notes_are_right}
use Rattle.prolly_root_diff.proofs.Opening.{begins_at_root, opens_first}
use Rattle.prolly_root_diff.proofs.Passing.{passes_equal}
use Rattle.prolly_root_diff.proofs.ReadOn.{read_chunks_stand}
use Rattle.prolly_root_diff.proofs.Runs.{walks_are_right}
use Rattle.prolly_root_diff.proofs.laws.walks_are_right.Goals as goal

pub returns : goal.returns
returns c =
    let opens = opens_first c.tops_are_read.ensures.child c.tops_are_read.ensures.read in record {
      begins = begins_at_root c.tops_are_read.ensures.root;
      opens = opens;
      passes = passes_equal;
      walks = walks_are_right c.tops_are_read.ensures.root opens;
      stand = read_chunks_stand;
      notes = notes_are_right c.tops_are_read.ensures.root c.tops_are_read.ensures.child
          c.tops_are_read.ensures.read;
    }
