use Rattle.std.proofs.Common.{◌≡◌, ◌*◌, length, All, refl, sym, ◌∙◌, ap, arith, rules}
use Rattle.std.proofs.lemmas.List.Elements.{All-replicate, All-take, All-drop}
use Rattle.std.proofs.lemmas.List.{take_all, places}
use Rattle.prolly_entry.specs.Byte.{IsByte}
use Rattle.prolly_entry.specs.Reference.{reference_text, IsCharacter}
use Rattle.prolly_entry.proofs.Texts.{text_of_none, text_of-read, text_of_all}
use Rattle.prolly_entry.proofs.Texts.{length-reference_text, All-reference_text, All-put_mid}
use Rattle.prolly_entry.proofs.Texts.{same_reference}
use Rattle.prolly_entry.proofs.reference.Ref.from_text.Goals as goal

pub returns-then-text-ne32-clause-every : goal.returns-then-text-ne32-clause-every
returns-then-text-ne32-clause-every c bytes _ same =
    omega (arith, length-reference_text bytes, ap length same)

pub loop-group-init : goal.loop-group-init
loop-group-init c = (
  record { twenty = refl; in_range = All-replicate IsByte 20 0 (omega arith) },
  text_of_none _,
)

pub returns-in_err-number-clause-every : goal.returns-in_err-number-clause-every
returns-in_err-number-clause-every c bytes _ same =
    let whole : All IsCharacter c.args.text.now = rw same at (All-reference_text bytes) in
    absurd (c.in_err-number.ensures.none (All-take IsCharacter _ _
    (All-drop IsCharacter _ _ whole)))

pub loop-group-preserved : goal.loop-group-preserved
loop-group-preserved c = (
  record {
    twenty = search (rules, places);
    in_range = All-put_mid _ _ c.loop-group.bytes c.write_bytes.new.bytes
        c.loop-group.invariant.0.in_range c.write_bytes.ensures.in_range;
  },
  text_of-read c.loop-group.group c.in_ok-number.number c.args.text.now c.loop-group.bytes
      c.write_bytes.new.bytes
      (omega arith) (omega arith) (omega arith) c.in_ok-number.ensures.below
      c.in_ok-number.ensures.read
      c.write_bytes.ensures.spelled c.write_bytes.auto.bytes c.loop-group.invariant.1,
)

read_back : (c : goal.After-loop-group) → reference_text c.loop-group.bytes ≡ c.args.text.now
read_back c =
    let all = text_of_all c.loop-group.group c.loop-group.bytes (omega arith) (omega arith) in
    let whole = take_all (8 * c.loop-group.group) c.args.text.now (omega arith) in
    sym all ∙ c.loop-group.invariant.1 ∙ whole

pub returns-clause-read : goal.returns-clause-read
returns-clause-read c = read_back c

pub returns-clause-every : goal.returns-clause-every
returns-clause-every c bytes is same =
    same_reference c.loop-group.bytes bytes c.loop-group.invariant.0 is (read_back c ∙ sym same)
