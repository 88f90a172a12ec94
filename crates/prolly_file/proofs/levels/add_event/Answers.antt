use Rattle.std.proofs.Common.{◌++◌, ◌∷◌, [], ap, ◌∙◌, append_assoc}
use Rattle.std.specs.Option.{option_to_list}
use Rattle.std.proofs.lemmas.Result.{on_ok_weaker}
use Rattle.prolly_file.proofs.levels.add_event.Goals as goal

pub returns : goal.returns
returns g c =
    let closed = c.in_ok-closed.closed in
    on_ok_weaker c.add-2.result
    (λ added. (
      closed,
      c.in_ok-closed.ensures,
      added ∙ (ap (λ events. events ++ option_to_list closed) c.in_ok-add.ensures ∙
          append_assoc c.args.more.now.items (c.args.event ∷ []) (option_to_list closed)),
    ))
    c.add-2.ensures
