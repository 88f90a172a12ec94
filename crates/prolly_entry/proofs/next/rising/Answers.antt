use Rattle.std.proofs.Common.{Some, sym, ap, ◌∙◌, arith}
use Rattle.std.specs.Option.{option_copied}
use Rattle.prolly_entry.specs.Position.{is_before}
use Rattle.prolly_entry.specs.RecordAt.{record_at}
use Rattle.prolly_entry.proofs.Endings.{order_flawed}
use Rattle.prolly_entry.proofs.next.rising.Goals as goal

pub returns-else-key_rises : goal.returns-else-key_rises
returns-else-key_rises c limit count free =
    order_flawed limit count (option_copied c.args.last_key) c.args.bytes.now
    (record_at c.args.bytes.now c.args.at) c.args.at.len
    (let lies = c.requires.lies in let a = lies.starts in let b = lies.key in let d = lies.within in omega arith)
    c.requires.there free
    (ap (λ key. is_before (option_copied c.args.last_key) (Some key)) (sym c.key.ensures) ∙
    sym c.key_rises.ensures ∙ c.if-key_rises.false)
