use Rattle.std.proofs.Common.{rules}
use Rattle.prolly_entry.specs.Pair.{IsPair}
use Rattle.prolly_entry.specs.Spelling.{pair_spelling}
use Rattle.prolly_look_up.specs.lemmas.EntryLists.{behind_first, leaf_apart, leaf_less, next_pair}
use Rattle.prolly_look_up.specs.lemmas.EntryLists.{no_next}
use Rattle.prolly_look_up.proofs.entries.split_first_pair.Goals as goal

pub returns : goal.returns
returns c =
    let entries = c.args.entries.now in
    let rest = c.in_ok-key.rest.now in
    let begins = c.in_ok-key.ensures.some in record {
      first = next_pair entries _ rest begins;
      leaf = leaf_less entries rest _ begins c.requires;
      lawful = (begins.lawful.key, begins.lawful.value);
      behind = behind_first pair_spelling IsPair leaf_apart entries rest _ begins;
    }

pub returns-in_err-key-clause-first : goal.returns-in_err-key-clause-first
returns-in_err-key-clause-first c = search (rules, no_next)
