use Rattle.std.proofs.Common.{rules}
use Rattle.std.specs.Option.{option_copied}
use Rattle.prolly_entry.proofs.NextFlaws.{value_stays}
use Rattle.prolly_entry.proofs.next.next_record.Goals as goal

pub returns-in-ValueTooLong : goal.returns-in-ValueTooLong
returns-in-ValueTooLong c = record {
  some = search rules;
  is = λ more. value_stays c.args.limit c.args.count (option_copied c.args.last_key)
      c.args.bytes.now more c.in-ValueTooLong.ensures.exact c.if-count-limit.false;
}
