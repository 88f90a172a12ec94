-- The steps of a merger, from its start on.
use Rattle.std.proofs.Common.{◌≡◌, ℕ, true, false, List, [], ◌∷◌, ◌++◌, Some, refl, sym, ap, ◌∙◌}
use Rattle.std.proofs.Common.{subst, append_assoc}
use Rattle.std.proofs.lemmas.List.{append-nil}
use Rattle.std.specs.List.{AllByRecursion}
use Rattle.prolly_entry.specs.Record.{Record}
use Rattle.prolly_entry.specs.Overlay.{last_change_of}
use Rattle.prolly_link.specs.Identity.{LinkId}
use Rattle.prolly_link.specs.declared.message.End.{End}
use Rattle.prolly_link.specs.declared.message.Progress.{Progress}
use Rattle.prolly_merge.specs.declared.heads.Peeked.{Peeked}
use Rattle.prolly_merge.specs.declared.heads.MergeStep.TheVariants.{Send, Stop}
use Rattle.prolly_merge.specs.Head.{in_hand, IsHeld, has_key, Allows, MovesIf, Stops}
use Rattle.prolly_merge.specs.Places.{Place, heads_of, ComeFirst}
use Rattle.prolly_merge.specs.Each.{Each}
use Rattle.prolly_merge.specs.Peeked.{heads_in, AllHeld, Advances, places_after}
use Rattle.prolly_merge.specs.MergeStep.{hands_of, MovesOn, IsStep}
use Rattle.prolly_merge.proofs.Places.{AllMove, begins, goes_on as come_first_goes_on}

pub nothing_more : (h got : List Record) → got ≡ [] → h ++ got ≡ h
nothing_more h got is = ap (λ g. h ++ g) is ∙ append-nil h

one_more : (h xs ys both : List Record) → both ≡ xs ++ ys → h ++ both ≡ (h ++ xs) ++ ys
one_more h xs ys both is = ap (λ b. h ++ b) is ∙ sym (append_assoc h xs ys)

module _ {I : Type 0} (link : I → LinkId) (progress : I → Progress) (Follows : I → I → Type 0)
    (received : I → I → List Record) where
  abbrev Move : List ℕ → Peeked I → Peeked I → Type 0
  Move = MovesOn link progress Follows received

  abbrev Advance : List (Peeked I) → List (Peeked I) → Type 0
  Advance = Each (Advances link progress Follows)

  abbrev places : List (Peeked I) → List (Peeked I) → List Place
  places = places_after received

  -- An input that has the key gave its next head.
  pub has_moved : (key : List ℕ) (o n : Peeked I) → Advances link progress Follows o n →
      received o.input n.input ≡ in_hand n.head → has_key key o.head ≡ true → Move key o n
  has_moved key o n a is due = record {
    link_is = a.link_is;
    follows = a.follows;
    held = λ _. a.held;
    moves = subst (λ b. MovesIf b o.head (received o.input n.input) n.head) (sym due) is;
  }

  module _ (stays : (a : I) → Follows a a) (received_none : (a : I) → received a a ≡ []) where
    -- An input that does not have the key stayed.
    pub has_stayed : (key : List ℕ) (o : Peeked I) → has_key key o.head ≡ false → Move key o o
    has_stayed key o due = record {
      link_is = refl;
      follows = stays o.input;
      held = λ h. h;
      moves = subst (λ b. MovesIf b o.head (received o.input o.input) o.head) (sym due)
          (received_none o.input, refl);
    }

    one_stays : (o : Peeked I) → IsHeld o.head (progress o.input) →
        Advances link progress Follows o o
    one_stays o held = record { link_is = refl; follows = stays o.input; held = held }

    pub all_stay : (os : List (Peeked I)) → AllHeld progress os → Advance os os
    all_stay [] held = tt
    all_stay (o ∷ os) held = (one_stays o held.0, all_stay os held.1)

    -- At the start no more than the heads was received.
    pub place_start : (os : List (Peeked I)) → AllByRecursion (λ p. p.received ≡ in_hand p.head)
        (places os os)
    place_start [] = tt
    place_start (o ∷ os) = (
      nothing_more (in_hand o.head) (received o.input o.input)
          (received_none o.input),
      place_start os,
    )

    pub start : (os : List (Peeked I)) → ComeFirst (places os os) []
    start os = begins (places os os) (place_start os)

  module _ (goes_on : (a b c : I) → Follows a b → Follows b c → Follows a c)
      (received_both : (a b c : I) → Follows a b → Follows b c →
      received a c ≡ received a b ++ received b c) where
    one_advances : (key : List ℕ) (o m n : Peeked I) → Advances link progress Follows o m →
        Move key m n → Advances link progress Follows o n
    one_advances key o m n a b = record {
      link_is = b.link_is ∙ a.link_is;
      follows = goes_on o.input m.input n.input a.follows b.follows;
      held = b.held a.held;
    }

    -- Inputs went on, and their places move.
    pub all_go_on : (key : List ℕ) (os ms ns : List (Peeked I)) → Advance os ms →
        Each (Move key) ms ns → Advance os ns × AllMove key (places os ms) (places os ns)
    all_go_on key [] [] [] a b = (tt, tt)
    all_go_on key [] [] (n ∷ ns) a b = absurd b
    all_go_on key [] (m ∷ ms) ns a b = absurd a
    all_go_on key (o ∷ os) [] ns a b = absurd a
    all_go_on key (o ∷ os) (m ∷ ms) [] a b = absurd b
    all_go_on key (o ∷ os) (m ∷ ms) (n ∷ ns) a b =
        let rest = all_go_on key os ms ns a.1 b.1 in (
          (one_advances key o m n a.0 b.0, rest.0),
          (
            (
              received m.input n.input,
              one_more (in_hand o.head) (received o.input m.input) (received m.input n.input)
                  (received o.input n.input) (received_both o.input m.input n.input a.0.follows
                  b.0.follows),
              b.0.moves,
            ),
            rest.1,
          ),
        )

    pub heads_are : (os ms : List (Peeked I)) → Advance os ms →
        heads_of (places os ms) ≡ heads_in ms
    heads_are [] [] a = refl
    heads_are [] (m ∷ ms) a = absurd a
    heads_are (o ∷ os) [] a = absurd a
    heads_are (o ∷ os) (m ∷ ms) a = ap (λ hs. m.head ∷ hs) (heads_are os ms a.1)

    -- After a step that sends a record, that record comes next.
    pub step_sends : (os ms ns : List (Peeked I)) (xs : List Record) (r : Record) → Advance os ms →
        ComeFirst (places os ms) xs → IsStep link progress Follows received ms (Send r) ns →
        ComeFirst (places os ns) (xs ++ r ∷ [])
    step_sends os ms ns xs r a first step =
        let heads = heads_are os ms a in
        come_first_goes_on (places os ms) (places os ns) xs r.key r.value first
        (subst (AllByRecursion (Allows r.key)) (sym heads) step.0)
        (subst (λ hs. last_change_of (hands_of hs) r.key ≡ Some r.value) (sym heads) step.1)
        (all_go_on r.key os ms ns a step.2).1

    pub step_advances : (os ms ns : List (Peeked I)) (r : Record) → Advance os ms →
        IsStep link progress Follows received ms (Send r) ns → Advance os ns
    step_advances os ms ns r a step = (all_go_on r.key os ms ns a step.2).0

    -- After a step that stops, the heads say why.
    pub step_stops : (os ms ns : List (Peeked I)) (xs : List Record) (end : End) → Advance os ms →
        ComeFirst (places os ms) xs → IsStep link progress Follows received ms (Stop end) ns →
        ComeFirst (places os ns) xs × Stops (heads_of (places os ns)) end
    step_stops os ms ns xs end a first step =
        let both : ComeFirst (places os ms) xs × Stops (heads_of (places os ms)) end =
        (first, subst (λ hs. Stops hs end) (sym (heads_are os ms a)) step.0) in
        subst (λ x. ComeFirst (places os x) xs × Stops (heads_of (places os x)) end) (sym step.1)
        both

    pub stop_advances : (os ms ns : List (Peeked I)) (end : End) → Advance os ms →
        IsStep link progress Follows received ms (Stop end) ns → Advance os ns
    stop_advances os ms ns end a step = subst (Advance os) (sym step.1) a
