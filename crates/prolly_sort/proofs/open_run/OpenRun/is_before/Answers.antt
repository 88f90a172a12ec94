use Rattle.std.proofs.Common.{◌∙◌, Some, ap, sym}
use Rattle.std.specs.Option.{option_copied}
use Rattle.prolly_entry.specs.Position.{is_before}
use Rattle.prolly_sort.specs.Overlaid.{overlaid}
use Rattle.prolly_sort.specs.Shelf.{first_position}
use Rattle.prolly_sort.proofs.Behind.{none_behind, rise_behind}
use Rattle.prolly_sort.proofs.Coming.{overlaid_rises}
use Rattle.prolly_sort.proofs.open_run.OpenRun.is_before.Goals as goal

pub returns-in-None : goal.returns-in-None
returns-in-None g c = λ rule came more h s t.
    none_behind (overlaid came) (overlaid more) (overlaid_rises came)
    (ap first_position (sym s) ∙ sym c.first_key.ensures ∙ ap option_copied c.in-None.is)

pub returns-in-Some : goal.returns-in-Some
returns-in-Some g c = λ rule came more h s t.
    let key = c.in-Some.key.now in
    rise_behind (overlaid came) (overlaid more) key (overlaid_rises came) (overlaid_rises more)
    (ap first_position (sym s) ∙ sym c.first_key.ensures ∙ ap option_copied c.in-Some.is)
    (ap (λ p. is_before p (Some key)) (sym (c.as_deref.ensures.value ∙ h.last_is)) ∙
    sym c.key_rises.ensures ∙ t)
