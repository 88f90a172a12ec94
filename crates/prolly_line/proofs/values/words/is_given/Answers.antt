use Rattle.std.proofs.Common.{◌∙◌, sym}
use Rattle.clap.specs.Words.{found_of}
use Rattle.prolly_line.proofs.ValueLemmas.{word_given}
use Rattle.prolly_line.proofs.values.words.is_given.Goals as goal

pub returns-clause-yes : goal.returns-clause-yes
returns-clause-yes c = λ yes. (word_given (found_of c.args.given.now) c.args.name.now
    c.get_str.result c.get_str.ensures).0 (sym c.is_some.ensures ∙ yes)

pub returns-clause-no : goal.returns-clause-no
returns-clause-no c = λ no. (word_given (found_of c.args.given.now) c.args.name.now
    c.get_str.result c.get_str.ensures).1 (sym c.is_some.ensures ∙ no)
