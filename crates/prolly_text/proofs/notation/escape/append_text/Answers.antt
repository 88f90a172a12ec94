use Rattle.std.proofs.Common.{◌≡◌, ◌++◌, sym, ap, ◌∙◌, append_assoc, append-nil, arith, rules}
use Rattle.std.proofs.lemmas.Grind.{common_steps}
use Rattle.std.proofs.lemmas.Result.{err_from_is_err_and}
use Rattle.std.specs.List.{flat_map}
use Rattle.std.specs.Str.{chars}
use Rattle.std.specs.Str.Chunks.{utf8_chunks_rest, utf8_chunk_valid, utf8_chunk_invalid}
use Rattle.prolly_text.specs.Escapes.{hex_escape, shown_character, text_of}
use Rattle.prolly_text.proofs.Appended.{still_front}
use Rattle.prolly_text.proofs.Kept.{kept_all, kept_more}
use Rattle.prolly_text.proofs.Writing.{text_chunk, text_of_none}
use Rattle.prolly_text.proofs.notation.escape.append_text.Goals as goal

pub loop-chunk-init : goal.loop-chunk-init
loop-chunk-init c =
    (first_of (search rules, grind (arith, common_steps)), kept_all c.args.out.now.items)

pub loop-chunk-preserved : goal.loop-chunk-preserved
loop-chunk-preserved c =
    let steps = c.in-Some.ensures.steps in
    let before = c.loop-chunk.out.items in
    let valid = flat_map shown_character (chars (utf8_chunk_valid c.in-Some.chunk)) in
    let invalid = flat_map hex_escape (utf8_chunk_invalid c.in-Some.chunk) in
    let rest = text_of (utf8_chunks_rest c.next.new.self) in
    let text = text_chunk _ _ _ _ steps.0 steps.3.0 steps.3.1 steps.1 in
    let first : c.append_characters.new.out.items ≡ before ++ valid = search rules in
    let second : c.append_escapes.new.out.items ≡ c.append_characters.new.out.items ++ invalid =
    search rules in
    let old = c.args.out.now.items in (
      ap (λ t. t ++ rest) (second ∙ ap (λ t. t ++ invalid) first)
          ∙ append_assoc (before ++ valid) invalid rest
          ∙ append_assoc before valid (invalid ++ rest)
          ∙ ap (λ t. before ++ t) (sym text) ∙ c.loop-chunk.invariant.0,
      kept_more old _ _ invalid (kept_more old before _ valid c.loop-chunk.invariant.1 first)
          second,
    )

pub returns : goal.returns
returns c =
    let none = text_of_none _ c.in-None.ensures.steps.0 in
    sym (append-nil c.loop-chunk.out.items) ∙ ap (λ t. c.loop-chunk.out.items ++ t) (sym none)
    ∙ c.loop-chunk.invariant.0

pub returns-in_err-append_characters : goal.returns-in_err-append_characters
returns-in_err-append_characters c =
    let failed = err_from_is_err_and c.from_residual.result c.from_residual.ensures.1 in
    rw failed.1 (still_front c.args.out.now.items c.loop-chunk.out.items
    c.append_characters.new.out.items c.loop-chunk.invariant.1 c.in_err-append_characters.ensures)

pub returns-in_err-append_escapes : goal.returns-in_err-append_escapes
returns-in_err-append_escapes c =
    let failed = err_from_is_err_and c.from_residual-in_err-append_escapes.result
    c.from_residual-in_err-append_escapes.ensures.1 in
    rw failed.1 (still_front c.args.out.now.items c.append_characters.new.out.items
    c.append_escapes.new.out.items (kept_more c.args.out.now.items c.loop-chunk.out.items
    c.append_characters.new.out.items _ c.loop-chunk.invariant.1
    c.in_ok-append_characters.ensures) c.in_err-append_escapes.ensures)
