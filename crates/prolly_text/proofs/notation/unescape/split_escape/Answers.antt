use Rattle.std.proofs.Common.{◌∷◌, sym, ap, ◌∙◌, subst, rules}
use Rattle.std.specs.Prelude.{IfNone}
use Rattle.prolly_text.specs.Pieces.{HasPiece, BeginsWithNone}
use Rattle.prolly_text.specs.lemmas.Fronts.{begins_named}
use Rattle.prolly_text.proofs.notation.unescape.split_escape.Goals as goal

pub returns-then-letter-eq120-clause-none : goal.returns-then-letter-eq120-clause-none
returns-then-letter-eq120-clause-none c =
    let whole = c.in_ok-letter.ensures.cases.0 in
    let front = c.if-letter-eq120.true in
    subst (λ t. IfNone c.split_digits.result (BeginsWithNone (0x5C ∷ t)))
    (sym (whole ∙ ap (λ b. b ∷ c.in_ok-letter.behind.now) front)) c.split_digits.ensures.none

pub returns-clause-some : goal.returns-clause-some
returns-clause-some c =
    subst (λ t. HasPiece (0x5C ∷ t) c.in_ok-byte.byte c.in_ok-letter.behind.now)
    (sym c.in_ok-letter.ensures.cases.0)
    (begins_named c.in_ok-letter.letter.now c.in_ok-byte.byte c.in_ok-letter.behind.now
    (search rules))
