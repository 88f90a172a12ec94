use Rattle.prolly_entry.specs.Reference.{reference_of}
use Rattle.prolly_entry.proofs.Digests.{IsReference-reference_of}
use Rattle.prolly_entry.proofs.reference.Ref.of.Goals as goal

pub returns-clause-hashed : goal.returns-clause-hashed
unfolding reference_of
returns-clause-hashed c = cc (c.copy_from_slice.ensures.after, c.digest-digest.ensures)

pub returns-clause-reference : goal.returns-clause-reference
returns-clause-reference c = rw (returns-clause-hashed c)
    (IsReference-reference_of c.args.bytes.now)
