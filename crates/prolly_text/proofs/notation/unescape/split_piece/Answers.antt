use Rattle.std.proofs.Common.{◌∷◌, sym, ap, ◌∙◌, subst, rules}
use Rattle.std.specs.Prelude.{IfNone}
use Rattle.prolly_text.specs.Pieces.{HasPiece, BeginsWithNone}
use Rattle.prolly_text.specs.lemmas.Fronts.{begins_plain}
use Rattle.prolly_text.proofs.notation.unescape.split_piece.Goals as goal

pub returns-then-first-eq92-clause-none : goal.returns-then-first-eq92-clause-none
returns-then-first-eq92-clause-none c =
    let whole = c.in_ok-first.ensures.cases.0 in
    let front = c.if-first-eq92.true in
    subst (λ t. IfNone c.split_escape.result (BeginsWithNone t))
    (sym (whole ∙ ap (λ b. b ∷ c.in_ok-first.behind.now) front)) c.split_escape.ensures.none

pub returns-then-is_plain-clause-some : goal.returns-then-is_plain-clause-some
returns-then-is_plain-clause-some c =
    subst (λ t. HasPiece t c.in_ok-first.first.now c.in_ok-first.behind.now)
    (sym c.in_ok-first.ensures.cases.0)
    (begins_plain c.in_ok-first.first.now c.in_ok-first.behind.now (search rules))
