use Rattle.std.proofs.Common.{rules}
use Rattle.prolly_look_up.specs.Entries.{IsChild, entry_of}
use Rattle.prolly_look_up.specs.lemmas.EntryLists.{shorter, child_behind, next_child, no_next_child}
use Rattle.prolly_look_up.specs.lemmas.EntryLists.{node_apart, node_less}
use Rattle.prolly_look_up.proofs.entries.split_first_child.Goals as goal

pub returns : goal.returns
returns c =
    let entries = c.args.entries.now in
    let rest = c.in_ok-child.rest.now in
    let begins = c.in_ok-child.ensures.some in record {
      first = next_child c.args.version entries rest _ begins c.in_ok-child.ensures.counted;
      node = node_less c.args.version entries rest _ begins c.requires;
      shorter = shorter (entry_of c.args.version) IsChild (node_apart c.args.version) entries rest _
          begins;
      behind = child_behind c.args.version entries rest _ begins;
    }

pub returns-in_err-child-clause-first : goal.returns-in_err-child-clause-first
returns-in_err-child-clause-first c = search (rules, no_next_child)
