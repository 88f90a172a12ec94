-- A receiver once it gave one thing more.
use Rattle.std.proofs.Common.{◌≡◌, List, [], ◌∷◌, ◌++◌, ap, subst, sym, ◌∙◌, append_assoc}
use Rattle.std.proofs.lemmas.List.{append-nil}
use Rattle.prolly_link.specs.Views.{Receiving}
use Rattle.prolly_link.specs.Progress.{given_items, progress_after, GivesAgain, HasEnded}
use Rattle.prolly_link.specs.Growth.{rest_is}
use Rattle.prolly_link.specs.LaterReceiver.{IsLater}
use Rattle.prolly_link.specs.Drained.{Drains}
use Rattle.prolly_link.specs.declared.message.Next.{Next}
use Rattle.prolly_link.specs.declared.message.Next.TheVariants.{Item as next_item, End as next_end}
use Rattle.prolly_link.specs.declared.message.Next.TheVariants.{Lost as next_lost}
use Rattle.prolly_link.specs.declared.message.Progress.{Progress}
use Rattle.prolly_link.specs.declared.message.Progress.TheVariants.{Open, Ended, Lost}

module _ {T : Type 0} where
  gives_nothing_again : (p : Progress) (n : Next T) → GivesAgain p n → HasEnded p →
      given_items n ≡ []
  gives_nothing_again Open n h ended = absurd ended
  gives_nothing_again (Ended e) n h ended = ap given_items h
  gives_nothing_again Lost n h ended = ap given_items h

  progress_again : (p : Progress) (n : Next T) → GivesAgain p n → HasEnded p →
      progress_after n ≡ p
  progress_again Open n h ended = absurd ended
  progress_again (Ended e) n h ended = ap progress_after h
  progress_again Lost n h ended = ap progress_after h

  pub later_by_one : (a b : Receiving T) (n : Next T) → b.items ≡ a.items ++ given_items n →
      b.progress ≡ progress_after n → GivesAgain a.progress n → IsLater a b
  later_by_one a b n items progress again = record {
    grew = items ∙ ap (λ xs. a.items ++ xs) (sym (rest_is a.items (given_items n) b.items items));
    items_stay = λ ended. items ∙ ap (λ xs. a.items ++ xs)
        (gives_nothing_again a.progress n again ended) ∙ append-nil a.items;
    progress_stays = λ ended. progress ∙ progress_again a.progress n again ended;
  }

  -- a receiver that gives an item had not ended, and is drained as far as before
  pub drains_item : (p before after : Progress) (xs ys zs : List T) (x : T) →
      Drains p xs before ys → GivesAgain before (next_item x) → after ≡ Open → zs ≡ ys ++ x ∷ [] →
      Drains p xs after zs
  drains_item Open before after xs ys zs x d again o is =
      (d.0 ++ x ∷ [], sym (append_assoc xs d.0 (x ∷ [])) ∙ ap (λ r. r ++ x ∷ []) d.1 ∙ sym is)
  drains_item (Ended e) before after xs ys zs x d again o is = let same : next_item x ≡ next_end e =
      subst (λ p. GivesAgain p (next_item x)) d.0 again in cc
  drains_item Lost before after xs ys zs x d again o is = let same : next_item x ≡ next_lost =
      subst (λ p. GivesAgain p (next_item x)) d.0 again in cc
