-- The key is what is sought, and the limit is one argument more.
use Rattle.prolly_line.proofs.commands.scan.scan_line.Goals as goal

pub returns : goal.returns
returns c =
    let with_key = c.look_up_line-line.ensures _ c.key_word-key.ensures in
    c.with_argument.ensures _ _ with_key c.limit_word.ensures
