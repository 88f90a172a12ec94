use Rattle.std.proofs.Common.{◌≡◌, ◌<◌, ap, length, refl, rules, sym, ◌∙◌}
use Rattle.std.proofs.lemmas.Result.{err_from_is_err_and}
use Rattle.prolly_look_up.specs.Way.{level_of}
use Rattle.prolly_root_diff.specs.Left.{opened}
use Rattle.prolly_root_diff.proofs.FileSteps.{one_step}
use Rattle.prolly_root_diff.proofs.Subtrees.{node_pairs, reads_so}
use Rattle.prolly_root_diff.proofs.side.Side.open_first.Goals as goal

pub returns-then-index-eq-LEAF-clause-opens : goal.returns-then-index-eq-LEAF-clause-opens
returns-then-index-eq-LEAF-clause-opens g c =
    let chunk = c.in_ok-reference.chunk.items in
    let reads = c.in_ok-reference.ensures.reads in
    let long : c.len.result ≡ length chunk = search rules in (
      reads_so c.args.version c.args.self.now (record {
        leaf = c.of.result;
        due = c.read_first.new.due;
      }) c.in_ok-reference.reference.0 chunk
          (record { reference = c.in_ok-reference.reference; length = c.len.result }) reads refl long
          c.requires.0 (sym (ap (λ entries. (opened (level_of chunk) entries reads.due).pairs)
          c.of.ensures)),
      λ file due goes st. one_step g.S.ChunkSource.stands c.read_first.new.due.items
          (c.in_ok-reference.ensures.tells file due goes st),
    )

pub returns-else-index-eq-LEAF-clause-opens : goal.returns-else-index-eq-LEAF-clause-opens
returns-else-index-eq-LEAF-clause-opens g c =
    let chunk = c.in_ok-reference.chunk.items in
    let reads = c.in_ok-reference.ensures.reads in
    let long : c.len.result ≡ length chunk = search rules in
    let high : 0 < level_of chunk = search rules in (
      reads_so c.args.version c.args.self.now (record {
        leaf = c.args.self.now.leaf;
        due = c.read_first.new.due;
      }) c.in_ok-reference.reference.0 chunk
          (record { reference = c.in_ok-reference.reference; length = c.len.result }) reads refl long
          c.requires.0
          (c.requires.0 ∙ node_pairs c.args.version chunk (level_of chunk) reads.due high),
      λ file due goes st. one_step g.S.ChunkSource.stands c.read_first.new.due.items
          (c.in_ok-reference.ensures.tells file due goes st),
    )

pub returns-in_err-reference-clause-stops : goal.returns-in_err-reference-clause-stops
returns-in_err-reference-clause-stops g c =
    let p = err_from_is_err_and c.from_residual.result c.from_residual.ensures.1 in
    rw (p.1, p.2) (λ file due goes st.
    (due, refl, c.in_err-reference.ensures.tells file due goes st))
