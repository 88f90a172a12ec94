use Rattle.std.proofs.Common.{refl, sym, subst}
use Rattle.std.specs.Prelude.{IsSome}
use Rattle.clap.specs.Words.{found_of}
use Rattle.prolly_line.proofs.ValueLemmas.{word_read, word_there}
use Rattle.prolly_line.proofs.values.words.word_of.Goals as goal

pub unwrap-requires : goal.unwrap-requires
unwrap-requires c =
    let there = word_there (found_of c.args.given.now) c.args.name.now c.get_str.result
    c.get_str.ensures c.requires in
    subst IsSome (sym there.1) refl

pub returns : goal.returns
returns c = word_read (found_of c.args.given.now) c.args.name.now c.get_str.result c.unwrap.result
    c.get_str.ensures c.unwrap.ensures
