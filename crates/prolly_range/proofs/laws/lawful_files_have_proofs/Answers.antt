use Rattle.prolly_range.proofs.LawfulSets.{no_set_fault}
use Rattle.prolly_range.proofs.laws.lawful_files_have_proofs.Goals as goal

pub returns : goal.returns
returns c content set fault f first =
    let laws = c.tops_are_read.ensures in
    no_set_fault content (laws.child content.version) (laws.read content.version) laws.root f set
    fault first
