use Rattle.prolly_root_diff.proofs.Counting.{CountedTo}
use Rattle.prolly_root_diff.proofs.notes.Notes.missing.Given as goal

abbrev pub invariant-loop-note : goal.invariant-loop-note
invariant-loop-note l = CountedTo l.fn.self.old.items l.note-items l.note-index l.missing
