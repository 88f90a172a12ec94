-- What is left of the batch in hand, as items are given and batches come.
use Rattle.std.proofs.Common.{◌≡◌, ◌≢◌, ◌+◌, ℕ, true, List, [], ◌∷◌, ◌++◌, length, refl, ap, sym}
use Rattle.std.proofs.Common.{◌∙◌, append_assoc, add-one, arith}
use Rattle.std.specs.Prelude.{Option, Some, None, MatchOption}
use Rattle.std.specs.Option.{option_to_list}
use Rattle.std.proofs.lemmas.List.{append-nil}
use mathlib.Core.List.{IsPrefix}
use Rattle.prolly_link.specs.Fronts.{before_rest, front_is}
use Rattle.prolly_link.specs.Views.{Receiving}
use Rattle.prolly_link.specs.Batch.{items_of}
use Rattle.prolly_link.specs.BatchReceiver.{given_of, empty_after, IsInHand}
use Rattle.prolly_link.specs.Drained.{Drains}
use Rattle.prolly_link.proofs.BatchLemmas.{items_of-append, items_of_push}
use Rattle.prolly_link.specs.declared.message.End.{End}
use Rattle.prolly_link.specs.declared.message.Progress.{Progress}
use Rattle.prolly_link.specs.declared.message.Progress.TheVariants.{Open, Ended, Lost}

module _ {T : Type 0} where
  -- an item goes from the front of what is left to the end of what was given
  pub given_one : (all left rest : List T) (x : T) → all ≡ before_rest all left ++ left →
      left ≡ x ∷ rest → before_rest all rest ≡ before_rest all left ++ x ∷ []
  given_one all left rest x e is =
      front_is (before_rest all left ++ x ∷ []) rest all
      (e ∙ ap (λ r. before_rest all left ++ r) is ∙
      sym (append_assoc (before_rest all left) (x ∷ []) rest))

  still_ends : (all left rest : List T) (x : T) → all ≡ before_rest all left ++ left →
      left ≡ x ∷ rest → all ≡ before_rest all rest ++ rest
  still_ends all left rest x e is =
      e ∙ ap (λ r. before_rest all left ++ r) is ∙
      sym (append_assoc (before_rest all left) (x ∷ []) rest) ∙
      ap (λ r. r ++ rest) (sym (given_one all left rest x e is))

  -- with nothing left, all was given
  given_all : (all left : List T) → all ≡ before_rest all left ++ left → left ≡ [] →
      before_rest all left ≡ all
  given_all all left e none = sym (e ∙ ap (λ r. before_rest all left ++ r) none ∙
      append-nil (before_rest all left))

  no_items : (left : List T) (n : ℕ) → n ≡ length left → n ≡ 0 → left ≡ []
  no_items [] n c z = refl
  no_items (x ∷ left) n c z = absurd (let d : n ≡ length left + 1 = c ∙
      sym (add-one (length left)) in omega arith)

  -- a batch b that came, with its first item given
  items_came : (old new : List (List T)) (b : List T) (x : T) (rest : List T) →
      new ≡ old ++ b ∷ [] → b ≡ x ∷ rest → items_of new ≡ (items_of old ++ x ∷ []) ++ rest
  items_came old new b x rest is l =
      ap items_of is ∙ items_of_push old b ∙ ap (λ r. items_of old ++ r) l ∙
      sym (append_assoc (items_of old) (x ∷ []) rest)

  given_begins_items : (came sent : List (List T)) (left : List T) →
      items_of came ≡ before_rest (items_of came) left ++ left → IsPrefix came sent →
      IsPrefix (before_rest (items_of came) left) (items_of sent)
  given_begins_items came sent left e p = (
    left ++ items_of p.0,
    sym (append_assoc (before_rest (items_of came) left) left (items_of p.0)) ∙
        ap (λ r. r ++ items_of p.0) (sym e) ∙ sym (items_of-append came p.0) ∙ ap items_of p.1,
  )

module _ {T : Type 0} where
  open_in_hand : (p : Progress) (left rest : List T) (x : T) → empty_after p left ≡ true →
      left ≡ x ∷ rest → p ≡ Open
  open_in_hand Open left rest x h e = refl
  open_in_hand (Ended d) [] rest x h e = cc
  open_in_hand (Ended d) (y ∷ left) rest x h e = cc
  open_in_hand Lost [] rest x h e = cc
  open_in_hand Lost (y ∷ left) rest x h e = cc

  empty_rest : (p : Progress) (rest : List T) → p ≡ Open → empty_after p rest ≡ true
  empty_rest Open rest o = refl
  empty_rest (Ended d) rest o = cc
  empty_rest Lost rest o = cc

  took_one : (r : Receiving (List T)) (left rest : List T) (x : T) (n m : ℕ) → IsInHand r left n →
      left ≡ x ∷ rest → m + 1 ≡ n → IsInHand r rest m
  took_one r left rest x n m h is k = record {
    counted_is = let d : n ≡ length rest + 1 = h.counted_is ∙ ap length is ∙
        sym (add-one (length rest)) in omega arith;
    empty_is = empty_rest r.progress rest (open_in_hand r.progress left rest x h.empty_is is);
    ends_is = still_ends (items_of r.items) left rest x h.ends_is is;
  }

  took_none : (r : Receiving (List T)) (left rest : List T) (n m : ℕ) → IsInHand r left n →
      left ≡ rest → n ≡ 0 → m ≡ 0 → IsInHand r rest m
  took_none r left rest n m h is k j = record {
    counted_is = j ∙ sym k ∙ h.counted_is ∙ ap length is;
    empty_is = ap (empty_after r.progress) (sym is) ∙ h.empty_is;
    ends_is = h.ends_is ∙ ap (λ left. before_rest (items_of r.items) left ++ left) is;
  }

  -- what is left in hand once `next` of it answered o
  pub hand_after : (r : Receiving (List T)) (left rest : List T) (n m : ℕ) (o : Option T) →
      IsInHand r left n → left ≡ option_to_list o ++ rest
      → MatchOption o ((n ≡ 0) × (m ≡ 0)) (λ x. m + 1 ≡ n) → IsInHand r rest m
  hand_after r left rest n m (Some x) h is k = took_one r left rest x n m h is k
  hand_after r left rest n m None h is k = took_none r left rest n m h is k.0 k.1

  pub batch_in_hand : (old new : Receiving (List T)) (b : List T) (x : T) (rest : List T) (n : ℕ)
      → new.items ≡ old.items ++ b ∷ [] → new.progress ≡ Open → b ≡ x ∷ rest → n ≡ length rest →
      IsInHand new rest n
  batch_in_hand old new b x rest n is o l c =
      let came = items_came old.items new.items b x rest is l in
      record {
        counted_is = c;
        empty_is = empty_rest new.progress rest o;
        ends_is = came ∙ ap (λ r. r ++ rest) (sym
            (front_is (items_of old.items ++ x ∷ []) rest (items_of new.items) came));
      }

  pub first_given : (old new : Receiving (List T)) (b : List T) (x : T) (left rest : List T)
      (n : ℕ)
      → IsInHand old left n → n ≡ 0 → new.items ≡ old.items ++ b ∷ [] → b ≡ x ∷ rest →
      (given_of new rest).items ≡ (given_of old left).items ++ x ∷ []
  first_given old new b x left rest n h none is l =
      front_is (items_of old.items ++ x ∷ []) rest (items_of new.items)
      (items_came old.items new.items b x rest is l)
      ∙ ap (λ r. r ++ x ∷ []) (sym (given_all (items_of old.items) left h.ends_is
      (no_items left n h.counted_is none)))

  -- the items given begin those sent in full batches
  pub given_begins_whole : (r : Receiving (List T)) (sent : List (List T)) (left : List T) (n : ℕ)
      → IsInHand r left n → IsPrefix r.items sent → IsPrefix (given_of r left).items (items_of sent)
  given_begins_whole r sent left n h p = given_begins_items r.items sent left h.ends_is p

  -- the items given begin those sent, in full batches and in an open one
  pub given_begins : (r : Receiving (List T)) (sent : List (List T)) (left pending : List T)
      (n : ℕ)
      → IsInHand r left n → IsPrefix r.items sent →
      IsPrefix (given_of r left).items (items_of sent ++ pending)
  given_begins r sent left pending n h p =
      let begins = given_begins_whole r sent left n h p in (
        begins.0 ++ pending,
        sym (append_assoc (before_rest (items_of r.items) left) begins.0
            pending) ∙ ap (λ xs. xs ++ pending) begins.1,
      )

  left_none_ended : (p : Progress) (left : List T) → empty_after p left ≡ true → p ≢ Open →
      left ≡ []
  left_none_ended Open left h o = absurd (o refl)
  left_none_ended (Ended e) [] h o = refl
  left_none_ended (Ended e) (x ∷ left) h o = cc
  left_none_ended Lost [] h o = refl
  left_none_ended Lost (x ∷ left) h o = cc

  -- a receiver of batches that has an end gave all that was sent, where the batches that came are
  -- those that were sent
  pub given_whole : (r : Receiving (List T)) (sent : List (List T)) (left : List T) (last : End)
      (n : ℕ) → IsInHand r left n
      → ((e : End) → r.progress ≡ Ended e → (e ≡ last) × (r.items ≡ sent)) → (e : End) →
      r.progress ≡ Ended e → (e ≡ last) × ((given_of r left).items ≡ items_of sent)
  given_whole r sent left last n h whole e ended =
      let none = left_none_ended r.progress left h.empty_is (λ unended. cc (unended, ended)) in (
        (whole e ended).0,
        given_all (items_of r.items) left h.ends_is none ∙
            ap items_of (whole e ended).1,
      )

  drained_items : (p after : Progress) (came got : List (List T)) (left : List T) →
      empty_after p left ≡ true → items_of came ≡ before_rest (items_of came) left ++ left
      → Drains p came after got → Drains p (before_rest (items_of came) left) after (items_of got)
  drained_items Open after came got left h e d = given_begins_items came got left e d
  drained_items (Ended c) after came got left h e d = (
    d.0,
    ap items_of d.1 ∙ sym (given_all (items_of came) left e
        (left_none_ended (Ended c) left h (λ q. cc))),
  )
  drained_items Lost after came got left h e d = (
    d.0,
    ap items_of d.1 ∙ sym (given_all (items_of came) left e
        (left_none_ended Lost left h (λ q. cc))),
  )

  -- draining the batches drains their items
  pub drained_batches : (r : Receiving (List T)) (after : Progress) (got : List (List T))
      (left : List T) (n : ℕ)
      → IsInHand r left n → Drains r.progress r.items after got →
      Drains r.progress (given_of r left).items after (items_of got)
  drained_batches r after got left n h d = drained_items r.progress after r.items got left
      h.empty_is h.ends_is d
