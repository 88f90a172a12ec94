-- A receiver, and the same one later.
use Rattle.std.proofs.Common.{◌≡◌, [], ◌++◌, refl, ap, subst, sym, ◌∙◌}
use Rattle.prolly_link.specs.Views.{Receiving}
use Rattle.prolly_link.specs.Progress.{HasEnded}
use Rattle.prolly_link.specs.Growth.{items_between, Grew, between_nothing, between_more}

module _ {T : Type 0} where
  -- its items grew, and where it had ended it stayed as it was
  pub record IsLater (before after : Receiving T) : Type 0 where
    pub grew : Grew before.items after.items
    pub items_stay : HasEnded before.progress → after.items ≡ before.items
    pub progress_stays : HasEnded before.progress → after.progress ≡ before.progress

  pub later_same : (a : Receiving T) → IsLater a a
  later_same a = record {
    grew = (between_nothing a.items).0;
    items_stay = λ _. refl;
    progress_stays = λ _. refl;
  }

  still_ended : (a b : Receiving T) → IsLater a b → HasEnded a.progress → HasEnded b.progress
  still_ended a b h ended = subst HasEnded (sym (h.progress_stays ended)) ended

  pub later_more : (a b c : Receiving T) → IsLater a b → IsLater b c → IsLater a c
  later_more a b c h k = record {
    grew = (between_more a.items b.items c.items h.grew k.grew).0;
    items_stay = λ ended. k.items_stay (still_ended a b h ended) ∙ h.items_stay ended;
    progress_stays = λ ended. k.progress_stays (still_ended a b h ended) ∙ h.progress_stays ended;
  }

  pub received_in_both : (a b c : Receiving T) → IsLater a b → IsLater b c →
      items_between a.items c.items ≡ items_between a.items b.items ++ items_between b.items c.items
  received_in_both a b c h k = (between_more a.items b.items c.items h.grew k.grew).1

  -- one that had ended received nothing
  pub nothing_after_end : (a b : Receiving T) → IsLater a b → HasEnded a.progress →
      items_between a.items b.items ≡ []
  nothing_after_end a b h ended = ap (items_between a.items) (h.items_stay ended) ∙
      (between_nothing a.items).1
