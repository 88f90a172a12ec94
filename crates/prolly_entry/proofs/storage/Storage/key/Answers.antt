use Rattle.std.proofs.Common.{rules}
use Rattle.prolly_entry.proofs.storage.Storage.key.Goals as goal

pub returns-in-Apart-clause-key : goal.returns-in-Apart-clause-key
returns-in-Apart-clause-key c = search rules
