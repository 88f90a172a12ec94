-- What a list lost at its front, in one stretch after another and in all.
use Rattle.std.proofs.Common.{◌≡◌, List, [], ◌++◌, refl, sym, ◌∙◌, ap, subst, append_assoc}
use Rattle.std.proofs.lemmas.List.{append-nil}
use Rattle.prolly_link.specs.Fronts.{front_is}
use Rattle.prolly_link.specs.ListIn.{Remaining, Unread, Read, items_left, last_end, progress_of}
use Rattle.prolly_link.specs.ListIn.{front_lost, LostFront, IsLaterList}
use Rattle.prolly_link.specs.Progress.{HasEnded}
use Rattle.prolly_link.specs.declared.message.Progress.TheVariants.{Ended}

module _ {T : Type 0} where
  two_fronts : (xs ys zs p q : List T) → xs ≡ p ++ ys → ys ≡ q ++ zs → xs ≡ (p ++ q) ++ zs
  two_fronts xs ys zs p q e f = e ∙ ap (λ r. p ++ r) f ∙ sym (append_assoc p q zs)

module _ {T : Type 0} where
  pub lost_nothing : (a : Remaining T) → LostFront a a × (front_lost a a ≡ [])
  lost_nothing a =
      let none = front_is [] (items_left a) (items_left a) refl in
      ((ap (λ r. r ++ items_left a) (sym none), refl), none)

  pub lost_more : (a b c : Remaining T) → LostFront a b → LostFront b c →
      LostFront a c × (front_lost a c ≡ front_lost a b ++ front_lost b c)
  lost_more a b c h k =
      let whole = two_fronts (items_left a) (items_left b) (items_left c) (front_lost a b)
      (front_lost b c) h.0 k.0 in
      let both = front_is (front_lost a b ++ front_lost b c) (items_left c) (items_left a) whole in
      ((whole ∙ ap (λ r. r ++ items_left c) (sym both), k.1 ∙ h.1), both)

  pub later_list_same : (a : Remaining T) → IsLaterList a a
  later_list_same a = record { lost = (lost_nothing a).0; stays = λ _. refl }

  still_read : (a b : Remaining T) → IsLaterList a b → HasEnded (progress_of a) →
      HasEnded (progress_of b)
  still_read a b h ended = subst (λ r. HasEnded (progress_of r)) (sym (h.stays ended)) ended

  pub later_list_more : (a b c : Remaining T) → IsLaterList a b → IsLaterList b c →
      IsLaterList a c
  later_list_more a b c h k = record {
    lost = (lost_more a b c h.lost k.lost).0;
    stays = λ ended. k.stays (still_read a b h ended) ∙ h.stays ended;
  }

  -- one that had given its end lost nothing
  pub nothing_lost_after_end : (a b : Remaining T) → IsLaterList a b → HasEnded (progress_of a) →
      front_lost a b ≡ []
  nothing_lost_after_end a b h ended = ap (front_lost a) (h.stays ended) ∙ (lost_nothing a).1

  pub read_stays : (a b : Remaining T) → IsLaterList a b → HasEnded (progress_of a) →
      progress_of b ≡ progress_of a
  read_stays a b h ended = ap progress_of (h.stays ended)

  -- once a list gave its end, all its items were received, and the end was its own
  pub all_lost : (a b : Remaining T) → IsLaterList a b → HasEnded (progress_of b) →
      (front_lost a b ≡ items_left a) × (progress_of b ≡ Ended (last_end a))
  all_lost a (Unread xs e) h ended = absurd ended
  all_lost a (Read e) h ended = (
    sym (h.lost.0 ∙ append-nil (front_lost a (Read e))),
    ap Ended h.lost.1,
  )
