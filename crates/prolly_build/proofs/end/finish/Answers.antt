use Rattle.std.proofs.Common.{◌-◌, ap, sym, subst, ◌∙◌, List}
use Rattle.std.proofs.lemmas.Result.{on_ok_weaker, IfErr-weaker}
use Rattle.prolly_tree.specs.Chunk.{Chunk}
use Rattle.prolly_tree.specs.File.{header}
use Rattle.prolly_io.specs.Sink.{SinkView}
use Rattle.prolly_link.specs.Progress.{end_given}
use Rattle.prolly_link.specs.declared.message.End.{End}
use Rattle.prolly_link.specs.declared.fault.RunFault.{RunFault}
use Rattle.prolly_build.specs.WriterState.{HasWritten, IsEndFault}
use Rattle.prolly_build.proofs.RanSteps.{written_begun, ended_begun, ended_keeps}
use Rattle.prolly_build.proofs.Takings.{lost_is_no_memory, is_refused_at, is_stopped_at}
use Rattle.prolly_build.proofs.Makings.{file_made, no_start_fault, unmade_at, if_ok}
use Rattle.prolly_build.proofs.end.finish.Goals as goal

pub returns-in-Ok : goal.returns-in-Ok
returns-in-Ok g c = λ old written.
    let met = c.in-Ok.ensures.met c.requires.ended in
    let ended = c.requires.end ∙ ap end_given met.1 in
    let settings = c.args.config in
    let stages = c.requires.lawful.stages in
    let sent = c.args.out in
    let writer = c.args.wrote in
    let now : SinkView = g.W.Sink.seen c.args.sink.now in
    let after : SinkView = g.W.Sink.seen c.end_build.new.sink in
    let head = header settings.version settings.bits in
    let level = settings.stages - 1 in
    let result = c.end_build.result in
    let of_sent = subst (λ (es : List Chunk). HasWritten head level es old now writer.written) met.0
    written in
    let fault_of_sent = c.end_build.ensures.err head level sent.items old of_sent in
    let fault_of_last = c.end_build.ensures.err head level writer.last.items old written in
    let as_sent : (fault : RunFault) → IsEndFault head level sent.items old now after writer.end fault
    → IsEndFault head level sent.items old now after sent.end fault =
    λ fault h. subst (λ (e : End). IsEndFault head level sent.items old now after e fault) ended h in
    record {
      made = if_ok result _ _ _
          (λ clean report whole m run. file_made settings stages.0 stages.1 m sent.items
          (run (sym ended ∙ clean)) old _ report whole)
          c.end_build.ensures.clean (c.end_build.ensures.ok head level sent.items old of_sent);
      clean = on_ok_weaker result (λ clean. sym ended ∙ clean) c.end_build.ensures.clean;
      unmade = IfErr-weaker result _ _
          (λ fault h input. unmade_at settings stages.0 stages.1 sent input old now after fault
          (as_sent fault h)) fault_of_sent;
      stopped = IfErr-weaker result _ _
          (λ fault h. is_stopped_at settings stages.0 sent old now after writer.written fault
          of_sent (as_sent fault h)) fault_of_sent;
      refused = IfErr-weaker result _ _
          (λ fault h. is_refused_at settings sent old now after writer.written fault of_sent
          (as_sent fault h)) fault_of_sent;
      begun = IfErr-weaker result _ _
          (λ fault h other. ended_begun settings level writer.last.items old now after writer.written
          writer.end fault written h other) fault_of_last;
      started = IfErr-weaker result _ _
          (λ fault h input. no_start_fault head level sent.items old now after sent.end fault input
          (as_sent fault h)) fault_of_sent;
      keeps = ended_keeps head level writer.last.items old now after writer.written writer.end result
          written (c.end_build.ensures.ok head level writer.last.items old written) fault_of_last;
    }

pub returns-in-Err : goal.returns-in-Err
returns-in-Err g c = λ old written. record {
  made = tt;
  clean = tt;
  unmade = λ input w. absurd w;
  stopped = λ file. absurd file;
  refused = λ memory. absurd (lost_is_no_memory memory);
  begun = λ other. written_begun c.args.config (c.args.config.stages - 1)
      c.args.wrote.last.items old _ c.args.wrote.written written;
  started = λ input start. absurd start;
  keeps = (written_begun c.args.config (c.args.config.stages - 1) c.args.wrote.last.items old _
      c.args.wrote.written written).keeps;
}
