use Rattle.prolly_entry.specs.lemmas.Spellings.{pair_spellings_apart, record_spellings_apart}
use Rattle.prolly_entry.specs.lemmas.Spellings.{child_spellings_apart}
use Rattle.prolly_laws.proofs.entries.no_spelling_begins_another.Goals as goal

pub returns : goal.returns
returns c = record {
  pairs = pair_spellings_apart;
  records = record_spellings_apart;
  children = child_spellings_apart;
}
