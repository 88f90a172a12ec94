use Rattle.std.proofs.Common.{arith}
use Rattle.std.specs.Str.Parse.{ExplainsUnsignedError, HasUnsignedDigitsIfOk, ParsesUnsigned}
use Rattle.clap.specs.Words.{found_of}
use Rattle.prolly_line.proofs.ValueLemmas.{may_read_number}
use Rattle.prolly_line.proofs.values.numbers.optional_number_of.Goals as goal

pub returns : goal.returns
returns c =
    may_read_number _ (λ bs r. ParsesUnsigned 32 10 bs r × ExplainsUnsignedError 10 bs r ×
    HasUnsignedDigitsIfOk bs r) 32 4294967295
    (found_of c.args.given.now) c.args.name.now c.get_one.result (omega arith) (λ t x g. g.0)
    c.get_one.ensures.none c.get_one.ensures.value
