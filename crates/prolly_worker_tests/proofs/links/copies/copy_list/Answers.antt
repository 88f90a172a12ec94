use Rattle.std.proofs.Common.{◌++◌, ◌∙◌, ap}
use Rattle.prolly_link.specs.Progress.{end_given}
use Rattle.prolly_link.specs.ListIn.{items_left, last_end, front_lost}
use Rattle.prolly_link.specs.ListInLaws.{all_lost}
use Rattle.prolly_worker_tests.proofs.links.copies.copy_list.Goals as goal

pub returns : goal.returns
returns g c = λ clean.
    let list = c.new.result in
    let after = c.copy_all-input.result.input in
    let copied = c.copy_all-input.ensures.copied clean in
    let all = all_lost list after c.copy_all-input.ensures.follows c.copy_all-input.ensures.ended
    in (
      copied.0 ∙ ap (λ xs. xs ++ front_lost list after) c.new-2.ensures ∙ all.0 ∙
          ap items_left c.new.ensures,
      copied.1 ∙ ap end_given all.1 ∙ ap last_end c.new.ensures,
    )
