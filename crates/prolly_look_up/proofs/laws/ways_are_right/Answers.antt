use Rattle.prolly_look_up.specs.lemmas.TreeWays.{scans_go_on, count_ways_are_right, scans_are_right}
use Rattle.prolly_look_up.specs.lemmas.TreeWays.{ways_are_right}
use Rattle.prolly_look_up.proofs.laws.ways_are_right.Goals as goal

pub returns : goal.returns
returns c = record {
  found = ways_are_right;
  scanned = scans_are_right;
  onward = scans_go_on;
  counted = count_ways_are_right;
}
