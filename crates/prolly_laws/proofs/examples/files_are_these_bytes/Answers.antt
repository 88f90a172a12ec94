use Rattle.prolly_laws.proofs.Computed.{text_of_abc, file_of_none, file_of_one, file_of_three}
use Rattle.prolly_laws.proofs.examples.files_are_these_bytes.Goals as goal

pub returns : goal.returns
returns c = record {
  text = text_of_abc;
  none = file_of_none;
  one = file_of_one;
  three = file_of_three;
}
