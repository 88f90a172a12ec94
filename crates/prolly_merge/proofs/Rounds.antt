-- A round of a merger of many inputs.
use Rattle.std.proofs.Common.{◌≡◌, ℕ, zero, suc, ◌<◌, length, true, false, List, [], ◌∷◌, Some}
use Rattle.std.proofs.Common.{None, slice_get, slice_set, refl, sym, ap, ◌∙◌, subst}
use Rattle.std.specs.Ordering.{is_lt, is_eq}
use Rattle.std.specs.List.{AllByRecursion}
use Rattle.prolly_entry.specs.Record.{Record}
use Rattle.prolly_entry.specs.Overlay.{change_of, or_else, last_change_of}
use Rattle.prolly_entry.specs.lemmas.Orders.{order_self}
use Rattle.prolly_link.specs.Identity.{LinkId}
use Rattle.prolly_link.specs.declared.message.End.{End}
use Rattle.prolly_link.specs.declared.message.Progress.{Progress}
use Rattle.prolly_merge.specs.declared.heads.Head.{Head}
use Rattle.prolly_merge.specs.declared.heads.Head.TheVariants.{Ready, Ended}
use Rattle.prolly_merge.specs.declared.heads.MergeStep.TheVariants.{Send}
use Rattle.std.proofs.lemmas.Option.{slice_get_within}
use Rattle.prolly_merge.specs.declared.heads.Peeked.{Peeked}
use Rattle.prolly_merge.specs.Each.{Each, EachUpto}
use Rattle.prolly_merge.specs.Head.{in_hand, Allows, has_key}
use Rattle.prolly_merge.specs.Peeked.{peeked_of, heads_in, Advances}
use Rattle.prolly_merge.specs.MergeStep.{hands_of, MovesOn, IsStep}
use Rattle.prolly_merge.specs.Choice.{IsAbove, IsChosen, IsFirstHead}
use Rattle.prolly_merge.proofs.EachLemmas.{each_same}
use Rattle.prolly_merge.proofs.Peeks.{peeked_head, heads_are}
use Rattle.prolly_merge.proofs.Choices.{get_chosen}
use Rattle.prolly_merge.proofs.Turns.{change_of_none, change_of_own}
use Rattle.prolly_merge.proofs.Steps.{has_moved, has_stayed}
use Rattle.prolly_merge.proofs.Equal.{some_same, ready_same, ready_ended}

-- ---- what the chosen record says of the heads

above_allows : (r : Record) (hs : List Head) → AllByRecursion (IsAbove r) hs →
    AllByRecursion (Allows r.key) hs
above_allows r [] a = tt
above_allows r (h ∷ hs) a = (a.0.0, above_allows r hs a.1)

pub chosen_allows : (at : ℕ) (hs : List Head) (r : Record) → IsChosen at hs r →
    AllByRecursion (Allows r.key) hs
chosen_allows at [] r c = absurd c
chosen_allows zero (h ∷ hs) r c = (
  subst (Allows r.key) (sym c.0) (ap is_lt (order_self r.key)),
  above_allows r hs c.1,
)
chosen_allows (suc at) (h ∷ hs) r c = (c.0, chosen_allows at hs r c.1)

above_change : (r : Record) (hs : List Head) → AllByRecursion (IsAbove r) hs →
    last_change_of (hands_of hs) r.key ≡ None
above_change r [] a = refl
above_change r (h ∷ hs) a = ap (λ o. or_else o (change_of (in_hand h) r.key))
    (above_change r hs a.1) ∙ change_of_none r.key h a.0.1

pub chosen_change : (at : ℕ) (hs : List Head) (r : Record) → IsChosen at hs r →
    last_change_of (hands_of hs) r.key ≡ Some r.value
chosen_change at [] r c = absurd c
chosen_change zero (h ∷ hs) r c =
    ap (λ o. or_else o (change_of (in_hand h) r.key)) (above_change r hs c.1) ∙
    ap (λ x. change_of (in_hand x) r.key) c.0 ∙ change_of_own r
chosen_change (suc at) (h ∷ hs) r c = ap (λ o. or_else o (change_of (in_hand h) r.key))
    (chosen_change at hs r c.1)

-- ---- who moves on

module _ {I : Type 0} (link : I → LinkId) (progress : I → Progress) (Follows : I → I → Type 0)
    (received : I → I → List Record)
    (stays : (a : I) → Follows a a) (received_none : (a : I) → received a a ≡ []) where
  abbrev pub Move : List ℕ → Peeked I → Peeked I → Type 0
  Move = MovesOn link progress Follows received

  abbrev pub Stay : Peeked I → Peeked I → Type 0
  Stay old new = new ≡ old

  above_stay : (r : Record) (os : List (Peeked I)) → AllByRecursion (IsAbove r) (heads_in os) →
      Each (Move r.key) os os
  above_stay r [] a = tt
  above_stay r (o ∷ os) a = (
    has_stayed link progress Follows received stays received_none r.key o
        a.0.1,
    above_stay r os a.1,
  )

  -- Where the input that was chosen moved on, and those before it that have its key, all are where
  -- they are to be.
  pub round_moves : (at : ℕ) (r : Record) (os : List (Peeked I)) (o n : Peeked I)
      (ns : List (Peeked I)) → IsChosen at (heads_in os) r → slice_get os at ≡ Some o →
      Move r.key o n →
      EachUpto (Move r.key) Stay at (slice_set os at n) ns → Each (Move r.key) os ns
  round_moves at r [] o n ns c e m u = absurd c
  round_moves zero r (p ∷ os) o n ns c e m u =
      subst (Each (Move r.key) (p ∷ os)) (sym (each_same (n ∷ os) ns u))
      (subst (λ x. Move r.key x n) (sym (some_same p o e)) m, above_stay r os c.1)
  round_moves (suc at) r (p ∷ os) o n [] c e m u = absurd u
  round_moves (suc at) r (p ∷ os) o n (q ∷ ns) c e m u =
      (u.0, round_moves at r os o n ns c.1 e m u.1)

  -- Where no other input before the chosen one has its key, they stay.
  pub first_stays : (at : ℕ) (r : Record) (os : List (Peeked I)) (n : Peeked I) →
      IsFirstHead at (heads_in os) r → EachUpto (Move r.key) Stay at (slice_set os at n)
      (slice_set os at n)
  first_stays zero r os n f = self (slice_set os 0 n)
    where
      self : (xs : List (Peeked I)) → Each Stay xs xs
      self [] = tt
      self (x ∷ xs) = (refl, self xs)
  first_stays (suc at) r [] n f = absurd f
  first_stays (suc at) r (o ∷ os) n f = (
    has_stayed link progress Follows received stays
        received_none r.key o f.0,
    first_stays at r os n f.1,
  )

  -- The next input has the key, and gave its next head.
  pub due_moves : (key : List ℕ) (p o n : Peeked I) → Stay p o →
      Advances link progress Follows o n → received o.input n.input ≡ in_hand n.head →
      has_key key o.head ≡ true → Move key p n
  due_moves key p o n same a is due = subst (λ x. Move key x n) same
      (has_moved link progress Follows received key o n a is due)

  pub other_stays : (key : List ℕ) (p o : Peeked I) → Stay p o → has_key key o.head ≡ false →
      Move key p o
  other_stays key p o same due = subst (λ x. Move key x o) same
      (has_stayed link progress Follows received stays received_none key o due)

  -- So the round is a step.
  pub round_step : (at : ℕ) (r : Record) (ns : List I) (hs : List Head) (o n : Peeked I)
      (qs : List (Peeked I)) → length hs ≡ length ns → IsChosen at hs r →
      slice_get (peeked_of ns hs) at ≡ Some o →
      o.head ≡ Ready r → Advances link progress Follows o n →
      received o.input n.input ≡ in_hand n.head →
      EachUpto (Move r.key) Stay at (slice_set (peeked_of ns hs) at n) qs →
      IsStep link progress Follows received (peeked_of ns hs) (Send r) qs
  round_step at r ns hs o n qs len c e is a got u =
      let same : heads_in (peeked_of ns hs) ≡ hs = heads_are ns hs len in (
        subst (AllByRecursion (Allows r.key)) (sym same) (chosen_allows at hs r c),
        ap (λ xs. last_change_of (hands_of xs) r.key) same ∙ chosen_change at hs r c,
        round_moves at r (peeked_of ns hs) o n qs (subst (λ xs. IsChosen at xs r) (sym same) c) e
            (has_moved link progress Follows received r.key o n a got (ap (has_key r.key) is ∙
            ap is_eq (order_self r.key))) u,
      )

-- The head of the chosen input is its record.
pub chosen_head : {I : Type 0} (ns : List I) (hs : List Head) (at : ℕ) (r : Record) (o : Peeked I) →
    IsChosen at hs r → slice_get (peeked_of ns hs) at ≡ Some o → o.head ≡ Ready r
chosen_head ns hs at r o c e = some_same o.head (Ready r) (sym (peeked_head ns hs at o e) ∙
    get_chosen at hs r c)

pub chosen_within : (hs : List Head) (at : ℕ) (r : Record) → IsChosen at hs r → at < length hs
chosen_within hs at r c = slice_get_within hs at (Ready r) (get_chosen at hs r c)

pub chosen_same : (r s : Record) (h given : Head) → h ≡ Ready r → given ≡ h → given ≡ Ready s →
    r ≡ s
chosen_same r s h given e f is = ready_same r s (sym e ∙ sym f ∙ is)

pub chosen_not_ended : (r : Record) (h given : Head) (end : End) → h ≡ Ready r → given ≡ h →
    given ≡ Ended end → ⊥
chosen_not_ended r h given end e f is = ready_ended r end (sym e ∙ sym f ∙ is)
