use Rattle.std.proofs.Common.{rules}
use Rattle.prolly_io.specs.BytesLaws.{test_from_bytes}
use Rattle.prolly_io.proofs.device.script.source.ScriptSource.new.Goals as goal

pub returns-clause-honest : goal.returns-clause-honest
returns-clause-honest c = search (rules, test_from_bytes)
