use Rattle.prolly_range.proofs.Showing.{shown_in_order}
use Rattle.prolly_range.proofs.laws.shown_in_order.Goals as goal

pub returns : goal.returns
returns c = shown_in_order
