use Rattle.std.proofs.Common.{ap, arith, inr, length}
use Rattle.prolly_text.specs.lemmas.Notations.{one_reading}
use Rattle.prolly_line.proofs.values.keys.decoded.Goals as goal

-- the text writes one key at most, and that one is too long
pub returns-in-Ok-2-clause-refused : goal.returns-in-Ok-2-clause-refused
returns-in-Ok-2-clause-refused c = inr (
  c.bad_key.ensures,
  λ key is.
      let read = rw c.as_bytes.ensures.value at c.in-Ok.ensures.ok in
      let same = one_reading c.args.notation c.args.text.now key c.in-Ok.key.items is.0 read in
      omega (arith, ap length same),
)
