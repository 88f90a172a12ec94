use Rattle.std.proofs.Common.{◌≡◌, ◌∙◌, ap, is_lt, sym, true≢false, refl}
use Rattle.std.specs.Option.{option_copied}
use Rattle.prolly_entry.specs.Keys.{key_order}
use Rattle.prolly_sort.specs.Place.{key_in, records_in}
use Rattle.prolly_sort.proofs.Keeping.{rise_before}
use Rattle.prolly_sort.proofs.Lasting.{alone, less_with, rises_with}
use Rattle.prolly_sort.proofs.run.rises.Goals as goal

pub returns-then-not-is_rising : goal.returns-then-not-is_rising
returns-then-not-is_rising c = λ r e. (
  λ h. absurd (true≢false (sym h)),
  λ h. absurd (true≢false (sym (c.requires.1 (rise_before (records_in c.args.bytes.now
      c.args.places.now) r h)) ∙ c.if-not-is_rising.true)),
)

pub returns-in-None : goal.returns-in-None
returns-in-None c = λ r e. (
  λ h. alone c.args.bytes.now c.args.places.now r
      (sym c.last.ensures.value ∙ ap option_copied c.in-None.is),
  λ h. refl,
)

pub returns-in-Some : goal.returns-in-Some
returns-in-Some c = λ r e.
    let bytes = c.args.bytes.now in
    let there = sym c.last.ensures.value ∙ ap option_copied c.in-Some.is in
    let less : is_lt (key_order (key_in bytes c.in-Some.last.now) r.key) ≡ c.is_lt.result =
    ap (λ k. is_lt (key_order (key_in bytes c.in-Some.last.now) k)) e ∙
    ap (λ k. is_lt (key_order k c.args.key.now)) (sym c.key.ensures) ∙
    ap is_lt (sym c.key_order.ensures) ∙ sym c.is_lt.ensures in (
      λ h. rises_with bytes c.args.places.now c.in-Some.last.now r there
          (c.requires.0 c.if-not-is_rising.false) (less ∙ h),
      λ h. sym less ∙ less_with bytes c.args.places.now c.in-Some.last.now r there h,
    )
