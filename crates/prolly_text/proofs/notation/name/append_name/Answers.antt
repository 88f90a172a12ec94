use Rattle.std.proofs.Common.{◌≡◌, ◌++◌, sym, ap, ◌∙◌, append_assoc, append-nil, arith, rules}
use Rattle.std.proofs.lemmas.Grind.{common_steps}
use Rattle.std.proofs.lemmas.List.{nil_from_length}
use Rattle.std.proofs.lemmas.Result.{err_from_is_err_and}
use Rattle.std.proofs.lemmas.Str.{chars-nil, chars_past_char, IsUtf8-past_char}
use Rattle.std.specs.List.{flat_map}
use Rattle.std.specs.Str.{chars}
use Rattle.std.specs.Str.Iter.{chars_rest}
use Rattle.prolly_text.specs.Names.{shown_in_name}
use Rattle.prolly_text.proofs.Appended.{still_front}
use Rattle.prolly_text.proofs.Kept.{kept_all, kept_more}
use Rattle.prolly_text.proofs.notation.name.append_name.Goals as goal

pub loop-character-init : goal.loop-character-init
loop-character-init c = (
  first_of (search rules, grind (arith, common_steps)),
  first_of (search rules, grind (arith, common_steps)),
  kept_all c.args.out.now.items,
)

pub loop-character-preserved : goal.loop-character-preserved
loop-character-preserved c =
    let before = c.loop-character.out.items in
    let shown = shown_in_name c.in-Some.character in
    let rest = flat_map shown_in_name (chars (chars_rest c.next.new.self)) in
    let step = c.in-Some.ensures.steps.0 in
    let valid = c.loop-character.invariant.0 in
    let first : c.append_shown.new.out.items ≡ before ++ shown = search rules in (
      IsUtf8-past_char _ _ _ valid step,
      ap (λ t. t ++ rest) first ∙ append_assoc before shown rest
          ∙ ap (λ cs. before ++ flat_map shown_in_name cs) (sym (chars_past_char _ _ _ valid step))
          ∙ c.loop-character.invariant.1,
      kept_more c.args.out.now.items before _ shown c.loop-character.invariant.2 first,
    )

pub returns : goal.returns
returns c =
    let none = ap chars (nil_from_length _ c.in-None.ensures.steps.0.0) ∙ chars-nil in
    sym (append-nil c.loop-character.out.items)
    ∙ ap (λ cs. c.loop-character.out.items ++ flat_map shown_in_name cs) (sym none)
    ∙ c.loop-character.invariant.1

pub returns-in_err-append_shown : goal.returns-in_err-append_shown
returns-in_err-append_shown c =
    let failed = err_from_is_err_and c.from_residual.result c.from_residual.ensures.1 in
    rw failed.1 (still_front c.args.out.now.items c.loop-character.out.items
    c.append_shown.new.out.items c.loop-character.invariant.2 c.in_err-append_shown.ensures)
