use Rattle.std.proofs.Common.{ℕ, ◌+◌, ◌∙◌, ◌++◌, ap, length, min, sym}
use Rattle.prolly_entry.specs.Position.{last_position}
use Rattle.prolly_sort.specs.Overlaid.{overlaid, written}
use Rattle.prolly_sort.specs.Shelf.{counted, key_bytes, position_behind}
use Rattle.prolly_sort.proofs.Behind.{counted_behind, last_behind, stands_behind, written_behind}
use Rattle.prolly_sort.proofs.Once.{both_obey}
use Rattle.prolly_sort.proofs.open_run.OpenRun.append.Goals as goal

abbrev most : ℕ
most = 0xFFFF_FFFF_FFFF_FFFF

pub returns : goal.returns
returns g c = λ rule came more h s rising obeys.
    let w = c.in_ok-write_records.ensures.writes in (
      record {
        holds = record {
          keeping = w.keeping h.holds.keeping;
          taken = w.written h.holds.keeping ∙ ap (λ xs. xs ++ written c.args.sorted.now) h.holds.taken ∙
              ap (λ rs. written (overlaid came) ++ written rs) s ∙ sym (written_behind came more rising);
          len_is = c.saturating_add-self.ensures ∙
              ap (λ n. min (n + c.len.result) most) h.holds.len_is ∙
              ap (λ n. min (counted (overlaid came) + n) most) (c.len.ensures ∙ ap length s) ∙
              sym (counted_behind came more rising);
        };
        last_is = c.in_ok-self.ensures ∙
            ap (λ key. position_behind (key_bytes key) c.args.sorted.now) c.take-last_key.ensures.value ∙
            ap (λ p. position_behind p c.args.sorted.now) h.last_is ∙
            ap (position_behind (last_position (overlaid came))) s ∙
            sym (last_behind (overlaid came) (overlaid more)) ∙
            sym (ap last_position (stands_behind came more rising));
        obeys = both_obey rule came more rising h.obeys obeys;
      },
      c.in_ok-write_records.ensures.settled,
    )
