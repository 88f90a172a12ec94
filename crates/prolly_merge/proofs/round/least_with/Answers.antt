use Rattle.std.proofs.Common.{◌<◌, length, take, subst, rules}
use Rattle.std.proofs.lemmas.Option.{slice_get_within}
use Rattle.std.specs.declared.cmp.Ordering.TheVariants.{Less, Equal, Greater}
use Rattle.prolly_merge.specs.declared.heads.Head.TheVariants.{Ready}
use Rattle.prolly_merge.specs.Choice.{IsLeast}
use Rattle.prolly_merge.proofs.Choices.{least_first, least_less, least_equal, least_keeps}
use Rattle.prolly_merge.proofs.Choices.{chosen_get, chosen_is, chosen_not, keys_compare}
use Rattle.prolly_merge.proofs.round.least_with.Goals as goal

pub returns-in_default : goal.returns-in_default
returns-in_default c = least_first c.args.heads.now c.args.at c.args.next.now c.requires.head
    (subst (IsLeast (take c.args.at c.args.heads.now)) c.in_default.is c.requires.least)

pub bounds-heads-least : goal.bounds-heads-least
bounds-heads-least c =
    let l = subst (IsLeast (take c.args.at c.args.heads.now)) c.in-Some.is c.requires.least in
    slice_get_within c.args.heads.now c.in-Some.least.at (Ready l.0)
    (chosen_get c.in-Some.least.at c.args.at c.args.heads.now l.0 l.1)

pub offset_bounds-heads-least : goal.offset_bounds-heads-least
offset_bounds-heads-least c =
    let l = subst (IsLeast (take c.args.at c.args.heads.now)) c.in-Some.is c.requires.least in
    let within : c.in-Some.least.at < length c.args.heads.now =
    slice_get_within c.args.heads.now c.in-Some.least.at (Ready l.0)
    (chosen_get c.in-Some.least.at c.args.at c.args.heads.now l.0 l.1) in
    search rules

pub unreachable-requires : goal.unreachable-requires
unreachable-requires c =
    let l = subst (IsLeast (take c.args.at c.args.heads.now)) c.in-Some.is c.requires.least in
    chosen_not c.args.heads.now c.in-Some.least.at c.args.at l.0 c.index-heads-least.result
    c.in_default-heads.field-0 l.1 c.index-heads-least.is c.in_default-heads.is

pub returns-in-Less : goal.returns-in-Less
returns-in-Less c =
    let l = subst (IsLeast (take c.args.at c.args.heads.now)) c.in-Some.is c.requires.least in
    let same = chosen_is c.args.heads.now c.in-Some.least.at c.args.at l.0
    c.index-heads-least.result c.in-Ready.other l.1 c.index-heads-least.is c.in-Ready.is in
    least_less c.args.heads.now c.args.at c.in-Some.least c.args.next.now l.0 c.requires.head l.1
    (keys_compare c.key.result.now c.key-2.result.now c.args.next.now l.0 c.in-Ready.other
    c.key_order.result Less c.key.ensures.key c.key-2.ensures.key same c.key_order.ensures
    c.in-Less.is)

pub returns-in-Equal : goal.returns-in-Equal
returns-in-Equal c =
    let l = subst (IsLeast (take c.args.at c.args.heads.now)) c.in-Some.is c.requires.least in
    let same = chosen_is c.args.heads.now c.in-Some.least.at c.args.at l.0
    c.index-heads-least.result c.in-Ready.other l.1 c.index-heads-least.is c.in-Ready.is in
    least_equal c.args.heads.now c.args.at c.in-Some.least c.args.next.now l.0 c.requires.head l.1
    (keys_compare c.key.result.now c.key-2.result.now c.args.next.now l.0 c.in-Ready.other
    c.key_order.result Equal c.key.ensures.key c.key-2.ensures.key same c.key_order.ensures
    c.in-Equal.is)

pub returns-in-Greater : goal.returns-in-Greater
returns-in-Greater c =
    let l = subst (IsLeast (take c.args.at c.args.heads.now)) c.in-Some.is c.requires.least in
    let same = chosen_is c.args.heads.now c.in-Some.least.at c.args.at l.0
    c.index-heads-least.result c.in-Ready.other l.1 c.index-heads-least.is c.in-Ready.is in
    least_keeps c.args.heads.now c.args.at c.in-Some.least c.args.next.now l.0 c.requires.head l.1
    l.2
    (keys_compare c.key.result.now c.key-2.result.now c.args.next.now l.0 c.in-Ready.other
    c.key_order.result Greater c.key.ensures.key c.key-2.ensures.key same c.key_order.ensures
    c.in-Greater.is)
