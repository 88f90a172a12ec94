use Rattle.std.proofs.Common.{◌≡◌, ◌+◌, ◌∙◌, ◌≢◌, All, Some, add-zero, arith, ap, inl, inr, length}
use Rattle.std.proofs.Common.{refl, subst, sym, take, ℕ}
use Rattle.std.specs.List.{AllByRecursion}
use Rattle.prolly_text.specs.Defects.{IsPartDefect}
use Rattle.prolly_text.specs.Lines.{CutsAt}
use Rattle.prolly_text.specs.Notations.{separator}
use Rattle.prolly_text.proofs.DefectLemmas.{both_read, byte_there, marks_none, part_wrong}
use Rattle.prolly_text.proofs.DefectLemmas.{second_there}
use Rattle.prolly_text.proofs.lines.defect.spelling_defect.Goals as goal

pub returns-then-returned-line : goal.returns-then-returned-line
returns-then-returned-line c = (
  c.requires.bad,
  byte_there c.args.line.now c.first_place-returned.result 0x0D c.args.place.offset
      (c.first_place-returned.ensures.there c.if-returned-line.true)
      c.first_place-returned.ensures.bound c.first_place-returned.ensures.none,
)

pub bare_defect-requires-clause-none : goal.bare_defect-requires-clause-none
bare_defect-requires-clause-none c =
    subst (λ (n : ℕ). AllByRecursion (λ b. b ≢ n) c.args.line.now)
    c.separator-separator.ensures c.in_default.ensures.none

pub returns-then-second-change : goal.returns-then-second-change
returns-then-second-change c =
    let key = c.in-Some.key.now in
    let change = c.in-Some.change.now in
    let cut = subst (λ (n : ℕ). CutsAt n c.args.line.now key change)
    c.separator-separator.ensures c.in-Some.ensures.some in (
      c.requires.bad,
      second_there (separator c.args.form.notation) c.args.line.now key change
          c.first_place-second.result c.args.place.offset cut
          (c.first_place-second.ensures.there c.if-second-change.true ∙
          ap Some c.separator-separator.ensures)
          c.first_place-second.ensures.bound
          (subst (λ (n : ℕ). All (λ b. b ≢ n) (take c.first_place-second.result change))
          c.separator-separator.ensures c.first_place-second.ensures.none),
    )

pub returns-in-Some-part_defect : goal.returns-in-Some-part_defect
returns-in-Some-part_defect c =
    let key = c.in-Some.key.now in
    let change = c.in-Some.change.now in
    let cut = subst (λ (n : ℕ). CutsAt n c.args.line.now key change)
    c.separator-separator.ensures c.in-Some.ensures.some in
    part_wrong c.args.form c.args.place c.args.line.now key 0 c.in-Some-part_defect.defect
    c.requires.bad (inr (inl (change, cut, refl)))
    (subst (λ (n : ℕ). IsPartDefect c.args.form.notation key n c.in-Some-part_defect.defect)
    (sym (add-zero c.args.place.offset)) c.in-Some-part_defect.ensures.some)

pub unreachable-requires : goal.unreachable-requires
unreachable-requires c =
    let key = c.in-Some.key.now in
    let change = c.in-Some.change.now in
    let cut = subst (λ (n : ℕ). CutsAt n c.args.line.now key change)
    c.separator-separator.ensures c.in-Some.ensures.some in
    both_read c.args.form c.args.line.now key change cut c.in_default-part_defect.ensures.none
    c.in-None.ensures.none c.requires.bad

pub returns : goal.returns
returns c =
    let key = c.in-Some.key.now in
    let change = c.in-Some.change.now in
    let cut = subst (λ (n : ℕ). CutsAt n c.args.line.now key change)
    c.separator-separator.ensures c.in-Some.ensures.some in
    let start : c.args.place.offset + length key + 1 ≡ c.args.place.offset + (length key + 1) =
    omega arith in
    let read = c.in_default-part_defect.ensures.none in
    let unmarked = marks_none c.args.form c.args.line.now key change cut read c.requires.bad in
    part_wrong c.args.form c.args.place c.args.line.now change (length key + 1)
    c.in-Some-part_defect-2.defect c.requires.bad (inr (inr (key, cut, read, unmarked, refl)))
    (subst (λ (n : ℕ). IsPartDefect c.args.form.notation change n c.in-Some-part_defect-2.defect)
    start c.in-Some-part_defect-2.ensures.some)
