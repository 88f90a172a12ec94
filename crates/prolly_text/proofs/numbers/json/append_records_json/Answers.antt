use Rattle.std.proofs.Common.{[], ◌∷◌, codes, rules}
use Rattle.std.specs.Fmt.{decimal}
use Rattle.std.specs.Option.{option_copied}
use Rattle.prolly_text.specs.Json.{key_member, member, records_json_of}
use Rattle.prolly_text.proofs.Commas.{three_and_more}
use Rattle.prolly_text.proofs.numbers.json.append_records_json.Goals as goal

pub returns : goal.returns
unfolding records_json_of
returns c =
    let numbers = c.args.numbers.now in
    three_and_more c.args.out.now.items c.extend_from_slice.new.self.items
    (member (codes "records") (decimal numbers.records))
    (member (codes "removals") (decimal numbers.removals))
    (member (codes "bytes") (decimal numbers.bytes))
    (key_member (codes "first") (option_copied numbers.first_key))
    (key_member (codes "last") (option_copied numbers.last_key)) (0x0A ∷ []) (search rules)
