use Rattle.std.proofs.Common.{◌∙◌, add-zero, inl, refl, subst, sym, ℕ}
use Rattle.prolly_text.specs.Defects.{IsPartDefect}
use Rattle.prolly_text.proofs.DefectLemmas.{bare_read, part_wrong}
use Rattle.prolly_text.proofs.lines.defect.bare_defect.Goals as goal

pub unreachable-requires : goal.unreachable-requires
unreachable-requires c =
    bare_read c.args.form c.args.line.now
    (sym c.reads_bare_keys.ensures ∙ c.if-not-reads_bare_keys.false) c.in-None.ensures.none
    c.requires.bad

pub returns : goal.returns
returns c =
    let line = c.args.line.now in
    let reads = sym c.reads_bare_keys.ensures ∙ c.if-not-reads_bare_keys.false in
    part_wrong c.args.form c.args.place line line 0 c.in-Some.defect c.requires.bad
    (inl ((reads, refl, c.requires.none), refl))
    (subst (λ (n : ℕ). IsPartDefect c.args.form.notation line n c.in-Some.defect)
    (sym (add-zero c.args.place.offset)) c.in-Some.ensures.some)
