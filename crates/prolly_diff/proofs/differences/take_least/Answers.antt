use Rattle.std.proofs.Common.{◌≡◌, ◌∷◌, subst}
use Rattle.std.specs.Option.{option_map}
use Rattle.prolly_diff.specs.Sides.{StartsWith, IsOrder}
use Rattle.prolly_diff.proofs.Steps.{pair_of, mapped, takes_before, takes_after, takes_both}
use Rattle.prolly_diff.proofs.differences.take_least.Goals as goal

pub returns-in-Less : goal.returns-in-Less
returns-in-Less c = rw (c.peek-2.ensures.same) (takes_before c.args.before.now c.args.after.now
    c.take.new.self (option_map pair_of c.peek.result) (option_map pair_of c.peek-2.result)
    (option_map pair_of c.take.result)
    (mapped pair_of _ (λ p. StartsWith p c.args.before.now) c.peek.result c.peek.ensures.first)
    (mapped pair_of _ (λ p. StartsWith p c.args.after.now) c.peek-2.result c.peek-2.ensures.first)
    (subst (λ o. IsOrder (option_map pair_of c.peek.result) (option_map pair_of c.peek-2.result) o)
    c.in-Less.is c.entry_order.ensures)
    (mapped pair_of _ (λ p. c.args.before.now ≡ p ∷ c.take.new.self) c.take.result
    (rw c.peek.ensures.same at c.take.ensures))
    c.requires.1)

pub returns-in-Greater : goal.returns-in-Greater
returns-in-Greater c = rw (c.peek.ensures.same) (takes_after c.args.before.now c.args.after.now
    c.take-in-Greater.new.self (option_map pair_of c.peek.result)
    (option_map pair_of c.peek-2.result) (option_map pair_of c.take-in-Greater.result)
    (mapped pair_of _ (λ p. StartsWith p c.args.before.now) c.peek.result c.peek.ensures.first)
    (mapped pair_of _ (λ p. StartsWith p c.args.after.now) c.peek-2.result c.peek-2.ensures.first)
    (subst (λ o. IsOrder (option_map pair_of c.peek.result) (option_map pair_of c.peek-2.result) o)
    c.in-Greater.is c.entry_order.ensures)
    (mapped pair_of _ (λ p. c.args.after.now ≡ p ∷ c.take-in-Greater.new.self)
    c.take-in-Greater.result (rw c.peek-2.ensures.same at c.take-in-Greater.ensures))
    c.requires.0)

pub returns-in-Equal : goal.returns-in-Equal
returns-in-Equal c = takes_both c.args.before.now c.args.after.now c.take-in-Equal.new.self
    c.take-in-Equal-2.new.self (option_map pair_of c.peek.result)
    (option_map pair_of c.peek-2.result) (option_map pair_of c.take-in-Equal.result)
    (option_map pair_of c.take-in-Equal-2.result)
    (mapped pair_of _ (λ p. StartsWith p c.args.before.now) c.peek.result c.peek.ensures.first)
    (mapped pair_of _ (λ p. StartsWith p c.args.after.now) c.peek-2.result c.peek-2.ensures.first)
    (subst (λ o. IsOrder (option_map pair_of c.peek.result) (option_map pair_of c.peek-2.result) o)
    c.in-Equal.is c.entry_order.ensures)
    (mapped pair_of _ (λ p. c.args.before.now ≡ p ∷ c.take-in-Equal.new.self)
    c.take-in-Equal.result (rw c.peek.ensures.same at c.take-in-Equal.ensures))
    (mapped pair_of _ (λ p. c.args.after.now ≡ p ∷ c.take-in-Equal-2.new.self)
    c.take-in-Equal-2.result (rw c.peek-2.ensures.same at c.take-in-Equal-2.ensures))
