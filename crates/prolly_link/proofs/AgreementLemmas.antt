-- One more message of a receiver that was open.
use Rattle.std.proofs.Common.{◌≡◌, List, [], ◌∷◌, ◌++◌, refl, ap, ◌∙◌}
use Rattle.prolly_link.specs.Message.{is_open, is_closed, end_in}
use Rattle.prolly_link.specs.Receiver.{is_before_end, Agrees}
use Rattle.prolly_link.specs.declared.message.End.{End}
use Rattle.prolly_link.specs.declared.message.Message.{Message}
use Rattle.prolly_link.specs.declared.message.Message.TheVariants.{Item, Last}
use Rattle.prolly_link.specs.declared.message.Progress.{Progress}
use Rattle.prolly_link.specs.declared.message.Progress.TheVariants.{Open, Ended, Lost}
use Rattle.prolly_link.proofs.MessageLemmas.{is_open-item, is_open-last, is_closed-item}
use Rattle.prolly_link.proofs.MessageLemmas.{is_closed-last, end_in-last}

module _ {T : Type 0} where
  pub agrees_item : (p : Progress) (ms all : List (Message T)) (x : T) → p ≡ Open →
      is_open ms ≡ is_before_end p → all ≡ ms ++ Item x ∷ [] → Agrees p all
  agrees_item Open ms all x is o e = record {
    open_is = ap is_open e ∙ is_open-item ms x ∙ o;
    closed_is = ap is_closed e ∙ is_closed-item ms x;
    end_is = refl;
  }
  agrees_item (Ended d) ms all x is o e = cc
  agrees_item Lost ms all x is o e = cc

  pub agrees_last : (p : Progress) (ms all : List (Message T)) (d : End) → p ≡ Open →
      is_open ms ≡ is_before_end p → all ≡ ms ++ Last d ∷ [] → Agrees (Ended d) all
  agrees_last Open ms all d is o e = record {
    open_is = ap is_open e ∙ is_open-last ms d;
    closed_is = ap is_closed e ∙ is_closed-last ms d o;
    end_is = ap Ended (ap end_in e ∙ end_in-last ms d o);
  }
  agrees_last (Ended c) ms all d is o e = cc
  agrees_last Lost ms all d is o e = cc
