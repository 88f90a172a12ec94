use Rattle.std.proofs.Common.{rules, ◌≡◌, ◌≤◌, ◌++◌, length, refl, sym, ◌∙◌}
use Rattle.std.proofs.lemmas.Result.{err_from_is_err_and}
use Rattle.prolly_look_up.specs.lemmas.SameBytes.{equal, unequal}
use Rattle.prolly_check.proofs.MapFiles.{good_body, refused_body}
use Rattle.prolly_check.proofs.Sources.{header_other, read_on, read_other, read_told, stream_failed}
use Rattle.prolly_check.specs.declared.stream.fault.StreamFault.TheVariants as stream
use Rattle.prolly_check.specs.declared.verdict.fault.CheckFault.TheVariants.{Read}
use Rattle.prolly_check.proofs.stream.root_checker.check_with.Goals as goal

pub returns-in_err-fill-clause-source : goal.returns-in_err-fill-clause-source
returns-in_err-fill-clause-source g c =
    let p = err_from_is_err_and c.from_residual.result c.from_residual.ensures.1 in
    rw (p.1, p.2) (
      c.in_err-fill.ensures.source.0,
      stream_failed c.in_err-fill.field-0.0 c.in_err-fill.ensures.source.1,
    )

pub returns-in-Err-clause-source : goal.returns-in-Err-clause-source
returns-in-Err-clause-source g c =
    read_other _ _ c.in_ok-fill.ensures.source (header_other c.in-Err.fault c.from.result c.from.ensures)

pub returns-then-ne-clause-source : goal.returns-then-ne-clause-source
returns-then-ne-clause-source g c =
    let other : stream.Version ≡ stream.Check Read → ⊥ = λ e. cc e in
    read_other _ _ c.in_ok-fill.ensures.source other

pub returns-in_err-chunks-clause-verdict : goal.returns-in_err-chunks-clause-verdict
returns-in_err-chunks-clause-verdict g c = λ honest.
    let p = err_from_is_err_and c.from_residual-in_err-chunks.result
    c.from_residual-in_err-chunks.ensures.1 in
    let all = (g.S.Source.seen c.args.source.now).left in
    let bytes = c.fill.new.bytes.items in
    let left = (g.S.Source.seen c.fill.new.source).left in
    let e : all ≡ bytes ++ left =
    rw c.requires.none at (c.in_ok-fill.ensures.bytes honest) in
    let room : 6 ≤ length bytes = rw c.deref.ensures.value at c.in-Ok.ensures.room in
    let same : c.in-Ok.header.version ≡ c.args.version = search rules in
    rw (p.1, p.2, sym same)
    (refused_body all bytes left e room c.in-Ok.header.version c.in-Ok.header.bits
    (rw c.deref.ensures.value at c.in-Ok.ensures.found)
    (rw c.deref.ensures.value at c.in-Ok.ensures.version)
    (rw c.deref.ensures.value at c.in-Ok.ensures.bits) c.args.root.now.0 _
    (rw c.let_go.ensures at
    (c.in_err-chunks.ensures.verdict (c.in_ok-fill.ensures.source.0.honest honest))))

pub returns-in_err-chunks-clause-source : goal.returns-in_err-chunks-clause-source
returns-in_err-chunks-clause-source g c =
    let p = err_from_is_err_and c.from_residual-in_err-chunks.result
    c.from_residual-in_err-chunks.ensures.1 in
    let r = read_told _ _ c.in_ok-fill.ensures.source _ c.in_err-chunks.ensures.source in
    rw (p.1, p.2) (r.0, stream_failed c.in_err-chunks.field-0.0 r.1)

pub returns-then-ne-2-clause-verdict : goal.returns-then-ne-2-clause-verdict
returns-then-ne-2-clause-verdict g c = λ honest.
    let all = (g.S.Source.seen c.args.source.now).left in
    let bytes = c.fill.new.bytes.items in
    let left = (g.S.Source.seen c.fill.new.source).left in
    let e : all ≡ bytes ++ left =
    rw c.requires.none at (c.in_ok-fill.ensures.bytes honest) in
    let room : 6 ≤ length bytes = rw c.deref.ensures.value at c.in-Ok.ensures.room in
    let same : c.in-Ok.header.version ≡ c.args.version = search rules in
    let good = good_body all bytes left e room c.in-Ok.header.version c.in-Ok.header.bits
    (rw c.deref.ensures.value at c.in-Ok.ensures.found)
    (rw c.deref.ensures.value at c.in-Ok.ensures.version)
    (rw c.deref.ensures.value at c.in-Ok.ensures.bits) c.in_ok-chunks.chunks
    c.in_ok-chunks.found.0
    (rw c.let_go.ensures at
    (c.in_ok-chunks.ensures.verdict (c.in_ok-fill.ensures.source.0.honest honest))) in
    rw (sym same) (record {
      content = record {
        version = c.in-Ok.header.version;
        bits = c.in-Ok.header.bits;
        pairs = good.pairs;
      };
      file = good.file;
      same = refl;
      other = λ is. unequal c.in_ok-chunks.found.0 c.args.root.now.0 c.if-ne-2.ensures
          (good.root_is ∙ is);
    })

pub returns-then-ne-2-clause-source : goal.returns-then-ne-2-clause-source
returns-then-ne-2-clause-source g c =
    let other : stream.OtherRoot ≡ stream.Check Read → ⊥ = λ e. cc e in
    read_other _ _ (read_on _ _ c.in_ok-fill.ensures.source _ c.in_ok-chunks.ensures.source) other

pub returns-clause-verdict : goal.returns-clause-verdict
returns-clause-verdict g c = λ honest.
    let all = (g.S.Source.seen c.args.source.now).left in
    let bytes = c.fill.new.bytes.items in
    let left = (g.S.Source.seen c.fill.new.source).left in
    let e : all ≡ bytes ++ left =
    rw c.requires.none at (c.in_ok-fill.ensures.bytes honest) in
    let room : 6 ≤ length bytes = rw c.deref.ensures.value at c.in-Ok.ensures.room in
    let same : c.in-Ok.header.version ≡ c.args.version = search rules in
    let good = good_body all bytes left e room c.in-Ok.header.version c.in-Ok.header.bits
    (rw c.deref.ensures.value at c.in-Ok.ensures.found)
    (rw c.deref.ensures.value at c.in-Ok.ensures.version)
    (rw c.deref.ensures.value at c.in-Ok.ensures.bits) c.in_ok-chunks.chunks
    c.in_ok-chunks.found.0
    (rw c.let_go.ensures at
    (c.in_ok-chunks.ensures.verdict (c.in_ok-fill.ensures.source.0.honest honest))) in
    rw (sym same) (record {
      pairs = good.pairs;
      file = good.file;
      root_is = sym good.root_is ∙ equal c.in_ok-chunks.found.0 c.args.root.now.0 c.if-ne-2.ensures;
      many = good.many;
    })

pub returns-clause-source : goal.returns-clause-source
returns-clause-source g c =
    read_on _ _ c.in_ok-fill.ensures.source _ c.in_ok-chunks.ensures.source
