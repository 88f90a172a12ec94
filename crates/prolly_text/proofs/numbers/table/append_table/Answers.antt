use Rattle.std.proofs.Common.{◌≡◌, ◌++◌, ◌-◌, [], drop, length, reverse, sym, ap, ◌∙◌, arith}
use Rattle.std.proofs.Common.{append_assoc, append-nil, rules}
use Rattle.std.proofs.lemmas.List.{drop_all}
use Rattle.std.specs.List.{flat_map}
use Rattle.prolly_text.specs.Rows.{rows_of}
use Rattle.prolly_text.specs.Table.{head_of, heading, row_line, table_of}
use Rattle.prolly_text.proofs.Rows.{last_first, length-rows_from}
use Rattle.prolly_text.proofs.numbers.table.append_table.Goals as goal

pub loop-number-init : goal.loop-number-init
unfolding heading
loop-number-init c =
    let tree = c.args.tree.now in
    let front = c.args.out.now.items ++ head_of tree ++ heading in
    let written : c.extend_from_slice.new.self.items ≡ front = search rules in
    let none : drop (length tree.levels.now) (rows_of tree) ≡ [] =
    drop_all (length tree.levels.now) (rows_of tree)
    (omega (arith, length-rows_from tree.levels.now 0 tree.pairs)) in
    written ∙ sym (append-nil front) ∙
    ap (λ rows. front ++ flat_map row_line (reverse rows)) (sym none)

pub loop-number-preserved : goal.loop-number-preserved
loop-number-preserved c =
    let tree = c.args.tree.now in
    let front = c.args.out.now.items ++ head_of tree ++ heading in
    c.in_ok-append_row.ensures ∙ ap (λ t. t ++ row_line c.row_at.result) c.loop-number.invariant ∙
    last_first row_line front (rows_of tree) (c.loop-number.number - 1) c.loop-number.number
    c.row_at.result (omega arith) c.row_at.ensures

pub returns : goal.returns
unfolding table_of
returns c =
    let tree = c.args.tree.now in
    let none : c.loop-number.number ≡ 0 = omega arith in
    c.loop-number.invariant ∙ ap (λ n. c.args.out.now.items ++ head_of tree ++ heading ++
    flat_map row_line (reverse (drop n (rows_of tree)))) none ∙ simp append_assoc
