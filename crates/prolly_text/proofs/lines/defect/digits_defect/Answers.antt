use Rattle.std.proofs.Common.{arith, refl}
use Rattle.prolly_text.proofs.DefectLemmas.{bad_digit, digits_read, every_digit}
use Rattle.prolly_text.proofs.lines.defect.digits_defect.Goals as goal

pub returns-then-digits-text-clause-some : goal.returns-then-digits-text-clause-some
returns-then-digits-text-clause-some c = (
  refl,
  bad_digit c.args.text.now c.leading_digits-digits.result c.args.start
      c.if-digits-text.true (c.leading_digits-digits.ensures.over c.if-digits-text.true)
      c.leading_digits-digits.ensures.all,
)

pub returns-then-digits-eq1-clause-some : goal.returns-then-digits-eq1-clause-some
returns-then-digits-eq1-clause-some c = (
  refl,
  refl,
  (let odd = c.if-digits-eq1.true in let a = c.if-digits-text.false in
      let b = c.leading_digits-digits.ensures.bound in omega arith),
  every_digit c.args.text.now c.leading_digits-digits.result
      c.leading_digits-digits.ensures.all c.if-digits-text.false,
)

pub returns-clause-none : goal.returns-clause-none
returns-clause-none c = digits_read c.args.text.now c.leading_digits-digits.result
    c.leading_digits-digits.ensures.all c.if-digits-text.false
    (let even = c.if-digits-eq1.false in let b = c.leading_digits-digits.ensures.bound in
    omega arith)
