use Rattle.std.proofs.Common.{◌≡◌, ◌∙◌, ◌∷◌, [], None, ap, sym}
use Rattle.std.specs.Prelude.{unwrap_or}
use Rattle.clap.specs.Words.{all_of, found_of}
use Rattle.clap.proofs.WalkLemmas.{raw_values-rows}
use Rattle.prolly_line.proofs.ValueLemmas.{counted_words, first_leads, only_word}
use Rattle.prolly_line.specs.AcceptedWords.{rows_in}
use Rattle.prolly_line.proofs.values.words.has_several.Goals as goal

pub returns-in-None-clause-no : goal.returns-in-None-clause-no
returns-in-None-clause-no c = λ few word is.
    let none : all_of c.args.name.now (rows_in c.args.given.now) ≡ None =
    sym (raw_values-rows (found_of c.args.given.now) c.args.name.now) ∙ sym c.in-None.ensures in
    let leads = first_leads c.args.name.now (rows_in c.args.given.now) word is in
    let bad : [] ≡ word ∷ leads.0 = sym (ap (λ o. unwrap_or o []) none) ∙ leads.1 in
    cc

pub returns-in-Some-clause-yes : goal.returns-in-Some-clause-yes
returns-in-Some-clause-yes c =
    (counted_words c.args.name.now (rows_in c.args.given.now) c.in-Some.words.now
    (sym (raw_values-rows (found_of c.args.given.now) c.args.name.now) ∙ sym c.in-Some.ensures)).0

pub returns-in-Some-clause-no : goal.returns-in-Some-clause-no
returns-in-Some-clause-no c = λ few word is.
    only_word c.args.name.now (rows_in c.args.given.now) word
    ((counted_words c.args.name.now (rows_in c.args.given.now) c.in-Some.words.now
    (sym (raw_values-rows (found_of c.args.given.now) c.args.name.now) ∙ sym c.in-Some.ensures)).1
    few) is
