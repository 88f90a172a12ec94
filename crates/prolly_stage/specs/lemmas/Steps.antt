-- The steps of a stage: what it has received and sent, as lists.
use Rattle.std.proofs.Common.{◌≡◌, List, [], ◌++◌, refl, sym, ◌∙◌, ap, subst, inr, append_assoc}
use Rattle.std.proofs.lemmas.List.{append-nil}
use Rattle.std.specs.Prelude.{Result, Ok, Err, OnErr}
use Rattle.prolly_tree.specs.Events.{Closing, faulty}
use Rattle.prolly_link.specs.Progress.{end_given}
use Rattle.prolly_link.specs.declared.message.End.{End}
use Rattle.prolly_link.specs.declared.message.Progress.{Progress}
use Rattle.prolly_link.specs.declared.message.End.TheVariants.{Fault}
use Rattle.prolly_link.specs.declared.fault.RunFault.TheVariants.{Memory}
use Rattle.prolly_link.specs.Progress.{HasEnded}
use Rattle.prolly_stage.specs.Sends.{closing_of, Sends, GivesUp}
use Rattle.prolly_stage.specs.Workers.{KeepsPrefixes}
use Rattle.prolly_entry.specs.lemmas.Lists.{prefix_trans}

pub on_err : {T E P : Type 0} (r : Result T E) → P → OnErr r P
on_err (Ok x) p = tt
on_err (Err e) p = p

-- What gave an end has ended, by that end.
pub ended_by : (now after : Progress) → now ≡ after → HasEnded after →
    HasEnded now × (end_given now ≡ end_given after)
ended_by now after e h = (subst HasEnded (sym e) h, ap end_given e)

-- One list was sent, and then another.
pub sent_both : {A : Type 0} (sent part sent' rest sent'' : List A) → sent' ≡ sent ++ part →
    sent'' ≡ sent' ++ rest → sent'' ≡ sent ++ (part ++ rest)
sent_both sent part sent' rest sent'' e f = f ∙ ap (λ xs. xs ++ rest) e ∙
    append_assoc sent part rest

-- All that was wanted was sent, and now the rest of what is wanted.
pub sends_rest : {A : Type 0} (before wanted rest wanted' sent sent' : List A) →
    sent ≡ before ++ wanted → sent' ≡ sent ++ rest → wanted' ≡ wanted ++ rest →
    sent' ≡ before ++ wanted'
sends_rest before wanted rest wanted' sent sent' e f h =
    f ∙ ap (λ xs. xs ++ rest) e ∙ append_assoc before wanted rest ∙ ap (λ xs. before ++ xs) (sym h)

-- Nothing was sent yet.
pub gives_up_at_once : {A B : Type 0} (stage : Closing → List A → List B) (all : List A)
    (before : List B) → GivesUp stage all before before
gives_up_at_once stage all before closing rest =
    ([], (stage closing (all ++ rest), refl), sym (append-nil before))

module _ {A B : Type 0} (stage : Closing → List A → List B) (law : KeepsPrefixes stage) where
  -- All was sent that the items before the last stretch bring, and nothing more.
  pub gives_up_before : (old stretch all : List A) (before sent sent' : List B) →
      all ≡ old ++ stretch →
      sent ≡ before ++ stage faulty old → sent' ≡ sent → GivesUp stage all before sent'
  gives_up_before old stretch all before sent sent' e f h closing rest =
      let whole : stage closing (all ++ rest) ≡ stage closing (old ++ (stretch ++ rest)) =
      ap (λ xs. stage closing (xs ++ rest)) e ∙ ap (stage closing) (append_assoc old stretch rest)
      in
      let p = law closing old (stretch ++ rest) in
      (stage faulty old, (p.0, whole ∙ p.1), h ∙ f)

  -- All was sent that the items before the last stretch bring, and of what that brings a part.
  pub gives_up_within : (old all : List A) (part more before sent sent' : List B) →
      stage faulty all ≡ stage faulty old ++ (part ++ more) →
      sent ≡ before ++ stage faulty old → sent' ≡ sent ++ part → GivesUp stage all before sent'
  gives_up_within old all part more before sent sent' e f h closing rest =
      let so_far = stage faulty old ++ part in (
        so_far,
        prefix_trans so_far (stage faulty all) (stage closing (all ++ rest)) (
          more,
          e ∙ sym (append_assoc (stage faulty old) part more),
        ) (law closing all rest),
        h ∙ ap (λ xs. xs ++ part) f ∙ append_assoc before (stage faulty old) part,
      )

-- A worker that gave up, closed for want of memory, and received the rest.
pub gave_up : {A B : Type 0} (stage : Closing → List A → List B) (received rest all : List A)
    (end : End) (before sent sent' : List B) (last : End) →
    GivesUp stage received before sent → all ≡ received ++ rest → sent' ≡ sent →
    last ≡ Fault Memory → Sends stage all end before sent' last
gave_up stage received rest all end before sent sent' last h e f l =
    let p = h (closing_of end) rest in
    inr (l, (p.0, (p.1.0, ap (stage (closing_of end)) e ∙ p.1.1), f ∙ p.2))

-- What is sent of a list, closed by an end, is sent of the same list, closed by the same end.
pub sends_of : {A B : Type 0} (stage : Closing → List A → List B) (received received' : List A)
    (end end' : End) (before before' sent : List B) (last : End) →
    received ≡ received' → end ≡ end' → before ≡ before' →
    Sends stage received end before sent last → Sends stage received' end' before' sent last
sends_of {A} {B} stage received received' end end' before before' sent last p q r h =
    let P : List A → End → List B → Type 0 = λ xs e b. Sends stage xs e b sent last in
    subst (λ b. P received' end' b) r (subst (λ e. P received' e before) q
    (subst (λ xs. P xs end before) p h))
