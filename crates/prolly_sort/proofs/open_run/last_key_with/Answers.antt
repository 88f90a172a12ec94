use Rattle.std.proofs.Common.{◌∙◌, ap, sym}
use Rattle.std.specs.Option.{option_copied}
use Rattle.prolly_sort.specs.Shelf.{key_bytes}
use Rattle.prolly_sort.proofs.Behind.{end_stays}
use Rattle.prolly_sort.proofs.open_run.last_key_with.Goals as goal

pub returns-in-None : goal.returns-in-None
returns-in-None c = sym (end_stays (key_bytes c.args.last_key) c.args.sorted.now
    (sym c.last_key.ensures ∙ ap option_copied c.in-None.is))
