use Rattle.prolly_entry.proofs.Texts.{same_reference}
use Rattle.prolly_laws.proofs.entries.reference_texts_differ.Goals as goal

pub returns : goal.returns
returns c = same_reference
