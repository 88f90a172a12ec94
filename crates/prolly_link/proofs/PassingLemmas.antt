-- What came of a link, beside all that was sent.
use Rattle.std.proofs.Common.{◌≡◌, ◌≢◌, true, List, [], ◌∷◌, ◌++◌, refl, ap, sym, ◌∙◌, append_assoc}
use Rattle.std.proofs.lemmas.List.{append-nil}
use mathlib.Core.List.{IsPrefix}
use Rattle.prolly_link.specs.Message.{items_in, is_open, is_closed, end_in}
use Rattle.prolly_link.specs.Receiver.{with_end, is_before_end, is_ended, Agrees}
use Rattle.prolly_link.specs.PassedMessages.{open_messages, closed_messages, given_messages}
use Rattle.prolly_link.proofs.MessageLemmas.{items_in-append, closed_is_whole}
use Rattle.prolly_link.specs.declared.message.End.{End}
use Rattle.prolly_link.specs.declared.message.Message.{Message}
use Rattle.prolly_link.specs.declared.message.Message.TheVariants.{Item, Last}
use Rattle.prolly_link.specs.declared.message.Progress.{Progress}
use Rattle.prolly_link.specs.declared.message.Progress.TheVariants.{Open, Ended, Lost}

module _ {T : Type 0} where
  open_front : (ms ns : List (Message T)) → is_open (ms ++ ns) ≡ true → is_open ms ≡ true
  open_front [] ns o = refl
  open_front (Item x ∷ ms) ns o = open_front ms ns o
  open_front (Last e ∷ ms) ns o = cc

  -- the items that came are a prefix of those that were sent
  pub items_begin : (ms ns all : List (Message T)) → ms ++ ns ≡ all →
      IsPrefix (items_in ms) (items_in all)
  items_begin ms ns all e = (items_in ns, sym (items_in-append ms ns) ∙ ap items_in e)

  -- where no end was sent, none was received
  pub not_ended : (p : Progress) (ms ns all : List (Message T)) → Agrees p ms →
      is_open all ≡ true → ms ++ ns ≡ all → (e : End) → p ≢ Ended e
  not_ended p ms ns all a o is e ended =
      let begins : is_open ms ≡ true = open_front ms ns (ap is_open is ∙ o) in
      let stops : is_before_end p ≡ is_before_end (Ended e) = ap is_before_end ended in
      cc (begins, stops, a.open_is)

  -- an end that was received is the one that was sent, after all items
  pub ended_whole : (p : Progress) (ms ns all : List (Message T)) → Agrees p ms →
      is_closed all ≡ true → ms ++ ns ≡ all →
      (e : End) → p ≡ Ended e → (e ≡ end_in all) × (items_in ms ≡ items_in all)
  ended_whole p ms ns all a c is e ended =
      let whole = closed_is_whole ms ns all (a.closed_is ∙ ap is_ended ended) c is in
      let own : Ended (end_in ms) ≡ Ended e = sym (ap (λ q. with_end q (end_in ms)) ended) ∙
      a.end_is ∙ ended in
      let first : end_in ms ≡ e = cc own in
      (sym first ∙ ap end_in whole, ap items_in whole)

  open_messages-append : (xs ys : List T) → open_messages (xs ++ ys) ≡ open_messages xs ++
      open_messages ys
  open_messages-append [] ys = refl
  open_messages-append (x ∷ xs) ys = ap (λ ms. Item x ∷ ms) (open_messages-append xs ys)

  begins_open : (xs sent : List T) → IsPrefix xs sent →
      IsPrefix (open_messages xs) (open_messages sent)
  begins_open xs sent b = (
    open_messages b.0,
    sym (open_messages-append xs b.0) ∙
        ap open_messages b.1,
  )

  begins_closed : (xs sent : List T) (e : End) → IsPrefix xs sent →
      IsPrefix (open_messages xs) (closed_messages sent e)
  begins_closed xs sent e b =
      let front = begins_open xs sent b in (
        front.0 ++ Last e ∷ [],
        sym (append_assoc (open_messages xs) front.0 (Last e ∷ [])) ∙
            ap (λ ms. ms ++ Last e ∷ []) front.1,
      )

  pub received_of_open : (p : Progress) (xs sent : List T) → IsPrefix xs sent →
      ((e : End) → p ≢ Ended e) → IsPrefix (given_messages xs p) (open_messages sent)
  received_of_open Open xs sent b n = begins_open xs sent b
  received_of_open (Ended e) xs sent b n = absurd (n e refl)
  received_of_open Lost xs sent b n = begins_open xs sent b

  pub received_of_closed : (p : Progress) (xs sent : List T) (last : End) → IsPrefix xs sent →
      ((e : End) → p ≡ Ended e → (e ≡ last) × (xs ≡ sent)) →
      IsPrefix (given_messages xs p) (closed_messages sent last)
  received_of_closed Open xs sent last b w = begins_closed xs sent last b
  received_of_closed (Ended e) xs sent last b w =
      let end_is = (w e refl).0 in
      let all = (w e refl).1 in (
        [],
        append-nil (closed_messages xs e) ∙ ap (λ ys. closed_messages ys e) all ∙
            ap (closed_messages sent) end_is,
      )
  received_of_closed Lost xs sent last b w = begins_closed xs sent last b
