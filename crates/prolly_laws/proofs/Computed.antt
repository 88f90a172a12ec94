-- The worked examples, by computation.
use Rattle.std.proofs.Common.{refl}
use Rattle.sha2.specs.Sha512.{sha512, digest_bytes, hash_after, compress, rounds, schedule}
use Rattle.sha2.specs.Sha512.{first_words}
use Rattle.prolly_entry.specs.Reference.{reference_of, reference_text}
use Rattle.prolly_entry.specs.Cut.{boundary_number}
use Rattle.prolly_entry.specs.Overlay.{raw_overlay}
use Rattle.prolly_tree.specs.Split.{split}
use Rattle.prolly_tree.specs.Tree.{grow}
use Rattle.prolly_laws.specs.Examples.{TextOfAbc, FileOfNone, FileOfOne, FileOfThree, MarkedChunks}
use Rattle.prolly_laws.specs.Examples.{ChunksOfFive, TwoStagesAtAFault, MarkedEvents}
use Rattle.prolly_laws.specs.Examples.{FaultOfLeastPosition, Removals}

pub text_of_abc : TextOfAbc
unfolding sha512 digest_bytes hash_after compress rounds schedule first_words reference_of
    reference_text
text_of_abc = refl

pub file_of_none : FileOfNone
unfolding sha512 digest_bytes hash_after compress rounds schedule first_words reference_of
    boundary_number split grow
file_of_none = refl

pub file_of_one : FileOfOne
unfolding sha512 digest_bytes hash_after compress rounds schedule first_words reference_of
    boundary_number split grow
file_of_one = refl

pub file_of_three : FileOfThree
unfolding sha512 digest_bytes hash_after compress rounds schedule first_words reference_of
    boundary_number split grow
file_of_three = refl

pub marked_chunks : MarkedChunks
unfolding split grow
marked_chunks = refl

pub chunks_of_five : ChunksOfFive
unfolding split grow
chunks_of_five = (refl, refl)

pub two_stages_at_a_fault : TwoStagesAtAFault
unfolding split grow
two_stages_at_a_fault = refl

pub marked_events : MarkedEvents
unfolding split grow
marked_events = (refl, refl, refl)

pub fault_of_least_position : FaultOfLeastPosition
unfolding raw_overlay
fault_of_least_position = (refl, refl)

pub removals : Removals
unfolding raw_overlay
removals = (refl, refl, refl)
