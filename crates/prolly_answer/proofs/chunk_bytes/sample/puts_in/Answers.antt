use Rattle.std.proofs.Common.{Some, ap, sym, ◌∙◌}
use Rattle.std.specs.Option.{option_copied}
use Rattle.prolly_entry.specs.lemmas.Lists.{rest_is}
use Rattle.prolly_answer.proofs.Sampling.{put_counted, removal_counted, stopped}
use Rattle.prolly_answer.specs.declared.chunk_bytes.sample.Puts.{Puts}
use Rattle.prolly_answer.proofs.chunk_bytes.sample.puts_in.Goals.{else-is_some, then-is_some}
use Rattle.prolly_answer.proofs.chunk_bytes.sample.puts_in.Goals as goal

pub loop-at-preserved : goal.loop-at-preserved
loop-at-preserved c =
    let at = c.in-Record.at in
    let l = c.loop-at in
    elim c.if-is_some.branch [
      | then-is_some w ↦
          put_counted c.args.front.now l.rest.now _ l.count (option_copied l.last_key) _
          l.puts.entries c.if-is_some.puts.entries l.puts.bytes c.if-is_some.puts.bytes at
          l.invariant c.in-Record.ensures (sym c.is_some.ensures ∙ w.if-is_some.true)
          (rest_is l.rest.now at.len) (ap Some c.key.ensures)
          (ap (λ (p : Puts). p.entries) w.puts-is) (ap (λ (p : Puts). p.bytes) w.puts-is)
      | else-is_some w ↦
          rw w.puts-is (removal_counted c.args.front.now l.rest.now _ l.count
          (option_copied l.last_key) _ l.puts.entries l.puts.bytes at l.invariant
          c.in-Record.ensures (sym c.is_some.ensures ∙ w.if-is_some.false)
          (rest_is l.rest.now at.len) (ap Some c.key.ensures))
    ]

pub returns-in-More : goal.returns-in-More
returns-in-More c =
    let l = c.loop-at in
    stopped c.args.front.now l.rest.now l.count (option_copied l.last_key) l.puts.entries
    l.puts.bytes c.next_record.result l.invariant c.next_record.ensures c.in-More.is
