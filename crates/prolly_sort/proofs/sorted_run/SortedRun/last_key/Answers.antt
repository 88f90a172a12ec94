use Rattle.std.proofs.Common.{◌∙◌, Some, ap, sym}
use Rattle.std.specs.Option.{option_copied}
use Rattle.prolly_entry.specs.Position.{last_position}
use Rattle.prolly_sort.specs.Place.{key_in}
use Rattle.prolly_sort.proofs.Behind.{last_in}
use Rattle.prolly_sort.proofs.sorted_run.SortedRun.last_key.Goals as goal

pub returns-in-Some : goal.returns-in-Some
returns-in-Some c = ap Some (c.key.ensures ∙
    ap (λ bytes. key_in bytes c.in-Some.place.now) c.deref-in-Some.ensures.value) ∙
    sym (last_in c.self.inside.bytes.items c.self.inside.places.items c.in-Some.place.now
    (rw c.deref.ensures.value at (sym c.last.ensures.value ∙ ap option_copied c.in-Some.is))) ∙
    ap last_position c.self.view_is
