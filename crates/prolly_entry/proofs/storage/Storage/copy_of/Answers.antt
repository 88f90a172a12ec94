use Rattle.std.proofs.Common.{rules, ◌≡◌}
use Rattle.prolly_entry.specs.Pair.{Pair}
use Rattle.prolly_entry.specs.Spelling.{pair_spelling}
use Rattle.prolly_entry.proofs.Copies.{copied, is_spelling, short_spelling}
use Rattle.prolly_entry.proofs.storage.Storage.copy_of.Goals as goal

abbrev copy : goal.In_ok-append_parts → Pair
copy c = record { key = c.args.key.now; value = c.args.value.now }

spelled : (c : goal.In_ok-append_parts) → c.append_parts.new.out.items ≡ pair_spelling (copy c)
spelled c = search rules

pub returns-clause-stored : goal.returns-clause-stored
returns-clause-stored c = is_spelling (copy c) c.append_parts.new.out.items
    (record { key = c.requires.key; value = c.requires.value }) (spelled c)

pub returns-clause-pair : goal.returns-clause-pair
returns-clause-pair c = copied (copy c) c.append_parts.new.out.items (spelled c)

pub returns-then-len-le-IN_PLACE_LIMIT-clause-stored
    : goal.returns-then-len-le-IN_PLACE_LIMIT-clause-stored
returns-then-len-le-IN_PLACE_LIMIT-clause-stored c =
    let pair : Pair = record { key = c.args.key.now; value = c.args.value.now } in (
      c.if-len-le-IN_PLACE_LIMIT.true,
      is_spelling pair _
          (record { key = c.requires.key; value = c.requires.value })
          (short_spelling pair c.joined_parts.result c.two_bytes-key_length.result
          c.four_bytes-value_length.result c.two_bytes-key_length.ensures
          c.four_bytes-value_length.ensures c.joined_parts.ensures),
    )

pub returns-then-len-le-IN_PLACE_LIMIT-clause-pair
    : goal.returns-then-len-le-IN_PLACE_LIMIT-clause-pair
returns-then-len-le-IN_PLACE_LIMIT-clause-pair c =
    let pair : Pair = record { key = c.args.key.now; value = c.args.value.now } in
    copied pair _ (short_spelling pair c.joined_parts.result c.two_bytes-key_length.result
    c.four_bytes-value_length.result c.two_bytes-key_length.ensures
    c.four_bytes-value_length.ensures c.joined_parts.ensures)
