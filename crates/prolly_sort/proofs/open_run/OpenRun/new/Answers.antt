use Rattle.std.proofs.Common.{[], ◌∙◌, ap, sym}
use Rattle.prolly_entry.specs.Position.{last_position}
use Rattle.prolly_sort.specs.Overlaid.{written}
use Rattle.prolly_sort.specs.Shelf.{counted}
use Rattle.prolly_sort.proofs.Coming.{come_to}
use Rattle.prolly_sort.proofs.Once.{none_obey}
use Rattle.prolly_sort.proofs.open_run.OpenRun.new.Goals as goal

pub returns : goal.returns
returns g c = λ rule keeping empty. record {
  holds = record {
    keeping = keeping;
    taken = empty ∙ sym (ap written (come_to []));
    len_is = sym (ap counted (come_to []));
  };
  last_is = sym (ap last_position (come_to []));
  obeys = none_obey rule;
}
