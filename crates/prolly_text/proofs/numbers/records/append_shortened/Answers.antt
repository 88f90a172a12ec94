use Rattle.std.proofs.Common.{rules}
use Rattle.prolly_text.proofs.Shown.{shown_front}
use Rattle.prolly_text.proofs.numbers.records.append_shortened.Goals as goal

pub returns : goal.returns
returns c = shown_front c.args.notation c.args.key.now c.split_at.result.0.now c.args.out.now.items
    c.extend_from_slice.new.self.items (search rules) c.split_at.ensures.front (search rules)
