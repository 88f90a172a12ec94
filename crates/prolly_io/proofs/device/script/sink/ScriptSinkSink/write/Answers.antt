use Rattle.std.proofs.Common.{rules}
use Rattle.prolly_io.proofs.device.script.sink.ScriptSinkSink.write.Goals as goal

pub returns-else-count-eq0-clause-count : goal.returns-else-count-eq0-clause-count
returns-else-count-eq0-clause-count c = search rules
