use Rattle.prolly_root.proofs.LawfulLookUps.{no_first_fault}
use Rattle.prolly_root.proofs.laws.lawful_files_are_read.Goals as goal

pub returns : goal.returns
returns c content sought fault f first =
    let laws = c.tops_are_read.ensures in
    no_first_fault content (laws.child content.version) (laws.read content.version) laws.root f
    sought
    fault first
