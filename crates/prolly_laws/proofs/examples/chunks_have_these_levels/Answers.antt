use Rattle.prolly_laws.proofs.Computed.{marked_chunks, chunks_of_five, two_stages_at_a_fault}
use Rattle.prolly_laws.proofs.Computed.{marked_events}
use Rattle.prolly_laws.proofs.examples.chunks_have_these_levels.Goals as goal

pub returns : goal.returns
returns c = record {
  marked = marked_chunks;
  five = chunks_of_five;
  fault = two_stages_at_a_fault;
  events = marked_events;
}
