-- How far a receiver has come, by the messages that it popped.
use Rattle.std.specs.Prelude.{◌≡◌, Bool, true, false, List}
use Rattle.prolly_link.specs.Message.{is_open, is_closed, end_in}
use Rattle.prolly_link.specs.declared.message.End.{End}
use Rattle.prolly_link.specs.declared.message.Message.{Message}
use Rattle.prolly_link.specs.declared.message.Progress.{Progress}
use Rattle.prolly_link.specs.declared.message.Progress.TheVariants.{Open, Ended, Lost}

-- a receiver that has come this far has popped no end
abbrev pub is_before_end : Progress → Bool
is_before_end Open = true
is_before_end (Ended e) = false
is_before_end Lost = true

-- it has popped an end
abbrev pub is_ended : Progress → Bool
is_ended Open = false
is_ended (Ended e) = true
is_ended Lost = false

-- the progress, with this end in the place of its end
abbrev pub with_end : Progress → End → Progress
with_end Open e = Open
with_end (Ended d) e = Ended e
with_end Lost e = Lost

-- a receiver that popped these messages has come this far
pub record Agrees {T : Type 0} (p : Progress) (ms : List (Message T)) : Type 0 where
  pub open_is : is_open ms ≡ is_before_end p
  pub closed_is : is_closed ms ≡ is_ended p
  pub end_is : with_end p (end_in ms) ≡ p
