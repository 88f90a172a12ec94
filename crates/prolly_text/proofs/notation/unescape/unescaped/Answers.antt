use Rattle.std.proofs.Common.{◌≡◌, [], ◌∷◌, ◌++◌, length, arith, rules, ap, subst, sym}
use Rattle.prolly_text.specs.Pieces.{HasPiece, BeginsWithAll, BeginsWithNone}
use Rattle.prolly_text.specs.lemmas.Sequences.{all_more, none_read, piece_shortens}
use Rattle.prolly_text.proofs.notation.unescape.unescaped.Goals as goal

pub returns-in_default-split_piece-clause-err : goal.returns-in_default-split_piece-clause-err
returns-in_default-split_piece-clause-err c bytes h =
    let none : BeginsWithNone c.loop-rest.rest.now = search rules in
    let some : c.loop-rest.rest.now ≡ [] → ⊥ = λ e. grind (arith, ap length e) in
    none_read c.args.text.now c.loop-rest.bytes.items c.loop-rest.rest.now bytes
    c.loop-rest.invariant none some h

pub loop-rest-preserved : goal.loop-rest-preserved
loop-rest-preserved c =
    let first : HasPiece c.loop-rest.rest.now c.in-Some.byte c.in-Some.behind.now = search rules
    in
    let more = all_more c.loop-rest.bytes.items c.args.text.now
    c.loop-rest.rest.now c.in-Some.behind.now c.in-Some.byte c.loop-rest.invariant first in
    let items : c.push.new.self.items ≡ c.loop-rest.bytes.items ++ c.in-Some.byte ∷ [] =
    search rules
    in subst (λ t. BeginsWithAll c.args.text.now t c.in-Some.behind.now) (sym items) more

pub loop-rest-smaller : goal.loop-rest-smaller
loop-rest-smaller c =
    let first : HasPiece c.loop-rest.rest.now c.in-Some.byte c.in-Some.behind.now = search rules
    in
    piece_shortens c.loop-rest.rest.now c.in-Some.byte c.in-Some.behind.now first
