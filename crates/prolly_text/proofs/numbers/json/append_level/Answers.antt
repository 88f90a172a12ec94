use Rattle.std.proofs.Common.{[], ◌++◌, ◌∙◌, ap, append-nil, codes, rules}
use Rattle.std.specs.Fmt.{decimal}
use Rattle.prolly_text.specs.Json.{level_json, member}
use Rattle.prolly_text.proofs.Commas.{seven}
use Rattle.prolly_text.proofs.numbers.json.append_level.Goals as goal

pub returns : goal.returns
unfolding level_json
returns c =
    let row = c.args.row.now in
    seven c.args.out.now.items c.push.new.self.items
    (member (codes "level") (decimal row.number))
    (member (codes "chunks") (decimal row.level.chunks))
    (member (codes "entries") (decimal row.entries))
    (member (codes "bytes") (decimal row.level.bytes))
    (member (codes "least") (decimal row.level.least))
    (member (codes "middle") (decimal row.level.middle))
    (member (codes "greatest") (decimal row.level.greatest)) [] (search rules) ∙
    ap (λ t. c.args.out.now.items ++ t) (append-nil (level_json row))
