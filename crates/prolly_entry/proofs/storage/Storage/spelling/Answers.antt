use Rattle.std.proofs.Common.{rules}
use Rattle.prolly_entry.proofs.storage.Storage.spelling.Goals as goal

pub returns-in-InPlace : goal.returns-in-InPlace
returns-in-InPlace c = search rules
