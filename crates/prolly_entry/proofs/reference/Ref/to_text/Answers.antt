use Rattle.std.proofs.Common.{◌*◌, refl, sym, ◌∙◌, arith, rules}
use Rattle.std.proofs.lemmas.List.{take_all, places}
use Rattle.std.proofs.lemmas.List.Elements.{All-nil, All-same}
use Rattle.prolly_entry.specs.Byte.{IsByte}
use Rattle.prolly_entry.proofs.Texts.{text_of_none, text_of-written, text_of_all, All-take_more}
use Rattle.prolly_entry.proofs.reference.Ref.to_text.Goals as goal

pub loop-group-init : goal.loop-group-init
loop-group-init c = record {
  long = refl;
  written = sym (text_of_none c.args.self.now.0);
  in_range = All-nil IsByte;
}

pub loop-group-preserved : goal.loop-group-preserved
loop-group-preserved c = record {
  long = search (rules, places);
  written = text_of-written c.loop-group.group c.number_of_bytes-number.result c.args.self.now.0
      c.loop-group.text c.write_characters.new.text
      (omega arith) (omega arith) (omega arith) c.number_of_bytes-number.ensures.spelled
      c.number_of_bytes-number.ensures.below
      c.write_characters.ensures c.loop-group.invariant.written;
  in_range = All-take_more c.loop-group.group c.args.self.now.0 c.loop-group.invariant.in_range
      c.number_of_bytes-number.ensures.in_range;
}

pub returns-clause-written : goal.returns-clause-written
returns-clause-written c =
    let whole = take_all (8 * c.loop-group.group) c.loop-group.text (omega arith) in
    let all = text_of_all c.loop-group.group c.args.self.now.0 (omega arith) (omega arith) in
    sym whole ∙ c.loop-group.invariant.written ∙ all

pub returns-clause-reference : goal.returns-clause-reference
returns-clause-reference c =
    let whole = take_all (5 * c.loop-group.group) c.args.self.now.0 (omega arith) in
    record {
      twenty = omega arith;
      in_range = All-same IsByte _ _ (sym whole)
          c.loop-group.invariant.in_range;
    }
