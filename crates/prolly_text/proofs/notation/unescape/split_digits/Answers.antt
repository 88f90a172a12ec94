use Rattle.prolly_text.specs.lemmas.Fronts.{begins_digits}
use Rattle.prolly_text.proofs.Digits.{digits_read, none_here, none_so_short}
use Rattle.prolly_text.proofs.notation.unescape.split_digits.Goals as goal

pub returns-then-text-lt2-clause-none : goal.returns-then-text-lt2-clause-none
returns-then-text-lt2-clause-none c = none_so_short c.args.text.now c.if-text-lt2.true

pub returns-in-Ok-clause-some : goal.returns-in-Ok-clause-some
returns-in-Ok-clause-some c =
    begins_digits c.split_at.result.0.now _ c.args.text.now c.split_at.result.1.now
    c.split_at.ensures.by_index.0
    (digits_read c.split_at.result.0.now c.decode_to_slice.new.out c.decode_to_slice.result
    c.in-Ok.field-0 c.split_at.ensures.front_len c.decode_to_slice.ensures.value c.in-Ok.is)

pub returns-in-Err-clause-none : goal.returns-in-Err-clause-none
returns-in-Err-clause-none c =
    none_here c.args.text.now c.split_at.result.0.now c.split_at.result.1.now
    c.decode_to_slice.new.out c.decode_to_slice.result c.in-Err.field-0
    c.split_at.ensures.by_index.0
    c.split_at.ensures.front_len c.decode_to_slice.ensures.value c.in-Err.is
