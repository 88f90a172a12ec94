-- What is written of a portion of the pairs of a tree, and what is left of it, list by list.
use Rattle.std.proofs.Common.{◌≡◌, ◌-◌, inl, inr, List, [], ◌++◌, length, take, refl}
use Rattle.std.proofs.Common.{ap, ◌∙◌, arith}
use Rattle.std.proofs.lemmas.List.{length-append}
use Rattle.prolly_look_up.specs.ScanWay.{EndsEmpty, joined}
use Rattle.prolly_entry.specs.Pair.{Pair}
use Rattle.prolly_text.specs.declared.lines.form.RecordForm.TheVariants.{Lines}
use Rattle.prolly_answer.specs.LookUps.{pair_lines}
use Rattle.prolly_answer.specs.RootOutcomes.{AreEnough, left_of, portion_bytes}
use Rattle.prolly_answer.specs.declared.answers.root_pairs.Portion.{Portion}
use Rattle.prolly_answer.specs.declared.answers.root_pairs.Portion.TheVariants.{First, Whole}
use Rattle.prolly_answer.proofs.DumpSteps.{written_append}
use Rattle.prolly_answer.proofs.FirstLines.{none_of, parts_of}

-- ---- what is written

pub bytes_none : (portion : Portion) → portion_bytes portion [] ≡ []
bytes_none (Whole form) = refl
bytes_none (First notation limit) = ap (pair_lines notation) (none_of limit)

pub bytes_more : (portion : Portion) (ps qs : List Pair) → portion_bytes portion (ps ++ qs) ≡
    portion_bytes portion ps ++ portion_bytes (left_of portion ps) qs
bytes_more (Whole form) ps qs = written_append form ps qs
bytes_more (First notation limit) ps qs = ap (pair_lines notation) (parts_of limit ps qs) ∙
    written_append (Lines notation) (take limit ps) (take (limit - length ps) qs)

-- ---- what is left

pub all_left : (portion : Portion) → portion ≡ left_of portion []
all_left (Whole form) = refl
all_left (First notation limit) = ap (First notation) (omega arith)

pub left_more : (portion : Portion) (ps qs : List Pair) →
    left_of (left_of portion ps) qs ≡ left_of portion (ps ++ qs)
left_more (Whole form) ps qs = refl
left_more (First notation limit) ps qs =
    ap (First notation) (omega (arith, length-append ps qs))

-- ---- what is enough

pub enough_at_end : (portion : Portion) (lists : List (List Pair)) → EndsEmpty lists →
    AreEnough portion lists
enough_at_end (Whole form) lists ends = ends
enough_at_end (First notation limit) lists ends = inr ends

-- These lists are enough where nothing is left behind them.
pub enough_found : (portion : Portion) (lists : List (List Pair)) →
    AreEnough (left_of portion (joined lists)) [] → AreEnough portion lists
enough_found (Whole form) lists none = absurd none
enough_found (First notation limit) lists (inl none) = inl (omega (arith, none))
enough_found (First notation limit) lists (inr none) = absurd none

pub more_wanted : (portion : Portion) (lists : List (List Pair)) →
    ¬ (AreEnough (left_of portion (joined lists)) []) → ¬ (EndsEmpty lists) →
    ¬ (AreEnough portion lists)
more_wanted (Whole form) lists some more ends = more ends
more_wanted (First notation limit) lists some more (inl many) = some (inl (omega (arith, many)))
more_wanted (First notation limit) lists some more (inr ends) = more ends
