use Rattle.std.proofs.Common.{◌≡◌, sym, subst, arith}
use Rattle.std.specs.Option.{option_copied}
use Rattle.prolly_look_up.specs.Entries.{IsLeaf}
use Rattle.prolly_look_up.specs.Sought.Sought.{Key}
use Rattle.prolly_tree.specs.lemmas.Maps.{find_above}
use Rattle.prolly_c.proofs.RunLists.{all_above, around, found_there, some_run}
use Rattle.prolly_c.specs.Runs.{Answers, AreUpTo}
use Rattle.prolly_c.proofs.found.value_by.Goals as goal

pub returns-then-count-eq0 : goal.returns-then-count-eq0
returns-then-count-eq0 c = λ pairs are is_map.
    let none : c.count_up_to-count.result ≡ 0 = omega arith in
    sym (find_above pairs c.args.key.now
    (all_above c.args.bytes.now c.args.runs.now pairs c.args.key.now are is_map
    (subst (AreUpTo c.args.bytes.now c.args.runs.now (Key c.args.key.now)) none
    c.count_up_to-count.ensures)))

pub returns-in_err-bytes_between : goal.returns-in_err-bytes_between
returns-in_err-bytes_between c = λ pairs are is_map.
    let a = around c.args.bytes.now c.args.runs.now pairs c.args.key.now c.count_up_to-count.result
    (omega arith) are is_map c.count_up_to-count.ensures in
    let part = (a.is some_run).is in
    absurd (c.in_err-bytes_between.ensures.there part.order part.within)

pub returns : goal.returns
returns c = λ pairs are is_map.
    let count = c.count_up_to-count.result in
    let a = around c.args.bytes.now c.args.runs.now pairs c.args.key.now count (omega arith) are is_map
    c.count_up_to-count.ensures in
    let part = (a.is some_run).is in
    subst (λ f. Answers (λ value. option_copied value ≡ f) c.value_in.result)
    (sym (found_there c.args.bytes.now c.args.runs.now pairs c.args.key.now count a))
    (c.value_in.ensures a.here
    (subst (λ x. IsLeaf x a.here) (sym (c.in_ok-bytes_between.ensures.there part.order part.within))
    part.leaf))
