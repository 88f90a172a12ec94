use Rattle.std.proofs.Common.{ℕ, Option, arith, refl, subst, sym}
use Rattle.std.specs.Prelude.{IsSome}
use Rattle.std.specs.Str.Parse.{ExplainsUnsignedError, HasUnsignedDigitsIfOk, ParsesUnsigned}
use Rattle.clap.specs.Words.{found_of}
use Rattle.prolly_line.proofs.ValueLemmas.{number_there, reads_number}
use Rattle.prolly_line.proofs.values.numbers.byte_of.Goals as goal

pub unwrap-requires : goal.unwrap-requires
unwrap-requires c =
    let there = number_there _ (λ bs r. ParsesUnsigned 8 10 bs r × ExplainsUnsignedError 10 bs r ×
    HasUnsignedDigitsIfOk bs r) 8 0 255
    (found_of c.args.given.now) c.args.name.now c.get_one.result (λ t x g. g.0) (omega arith)
    c.requires c.get_one.ensures.value in
    subst (λ (o : Option ℕ). IsSome o) (sym there.1) refl

pub returns : goal.returns
returns c =
    reads_number _ (λ bs r. ParsesUnsigned 8 10 bs r × ExplainsUnsignedError 10 bs r ×
    HasUnsignedDigitsIfOk bs r) 8 255
    (found_of c.args.given.now) c.args.name.now c.get_one.result c.unwrap.result c.unwrap.ensures
    (omega arith) (λ t x g. g.0)
    c.get_one.ensures.none c.get_one.ensures.value
