-- A merger from the inputs that it was given to those that it gives back.
use Rattle.std.proofs.Common.{◌≡◌, ℕ, zero, suc, List, [], ◌∷◌, ◌++◌, map, Some, slice_get, refl}
use Rattle.std.proofs.Common.{sym, ap, ◌∙◌, subst}
use Rattle.prolly_entry.specs.Record.{Record}
use Rattle.prolly_tree.specs.Merge.{Input}
use Rattle.prolly_link.specs.Identity.{LinkId}
use Rattle.prolly_link.specs.Progress.{end_given}
use Rattle.prolly_link.specs.declared.message.Progress.{Progress}
use Rattle.prolly_link.specs.declared.fault.RunFault.{RunFault}
use Rattle.prolly_merge.specs.declared.heads.Head.{Head}
use Rattle.prolly_merge.specs.declared.heads.Peeked.{Peeked}
use Rattle.prolly_merge.specs.Inputs.{input_of, Ends, inputs_of}
use Rattle.prolly_merge.specs.Head.{in_hand, IsHeld}
use Rattle.prolly_merge.specs.Places.{AllFit, wholes}
use Rattle.prolly_merge.specs.Each.{Each}
use Rattle.prolly_merge.specs.Peeked.{AllHeld, Advances, places_after, Opens, Finishes}
use Rattle.prolly_merge.proofs.Peeks.{peeked}
use Rattle.prolly_merge.proofs.Equal.{none_some, some_same}

module _ {I : Type 0} (link : I → LinkId) (progress : I → Progress) (Follows : I → I → Type 0)
    (received : I → I → List Record) where
  abbrev Open : List I → List (Peeked I) → Type 0
  Open = Each (Opens link progress Follows received)

  abbrev Advance : List (Peeked I) → List (Peeked I) → Type 0
  Advance = Each (Advances link progress Follows)

  abbrev Finish : List (Peeked I) → List I → Type 0
  Finish = Each (Finishes link progress Follows received)

  pub open_held : (es : List I) (os : List (Peeked I)) → Open es os → AllHeld progress os
  open_held [] [] b = tt
  open_held [] (o ∷ os) b = absurd b
  open_held (e ∷ es) [] b = absurd b
  open_held (e ∷ es) (o ∷ os) b = (b.0.held, open_held es os b.1)

  pub advance_held : (os ms : List (Peeked I)) → Advance os ms → AllHeld progress ms
  advance_held [] [] a = tt
  advance_held [] (m ∷ ms) a = absurd a
  advance_held (o ∷ os) [] a = absurd a
  advance_held (o ∷ os) (m ∷ ms) a = (a.0.held, advance_held os ms a.1)

  pub held_get : (ms : List (Peeked I)) (at : ℕ) (m : Peeked I) → AllHeld progress ms →
      slice_get ms at ≡ Some m → IsHeld m.head (progress m.input)
  held_get [] at m h e = absurd (none_some m e)
  held_get (x ∷ ms) zero m h e = subst (λ p. IsHeld p.head (progress p.input)) (some_same x m e) h.0
  held_get (x ∷ ms) (suc at) m h e = held_get ms at m h.1 e

  -- The input that was finished is this one.
  pub finishes_same : (m : Peeked I) (n n' : I) (h : Head) → n ≡ m.input → h ≡ m.head →
      Finishes link progress Follows received (peeked n h) n' →
      Finishes link progress Follows received m n'
  finishes_same m n n' h e f fin =
      subst (λ x. Finishes link progress Follows received (peeked m.input x) n') f
      (subst (λ x. Finishes link progress Follows received (peeked x h) n') e fin)

  -- What the inputs gave behind their heads.
  abbrev pub rest_of : List (Peeked I) → List I → List (Input RunFault)
  rest_of ms ns = inputs_of progress received (map (λ p. p.input) ms) ns

  -- What is known of inputs once all of them were received to their ends.
  pub record AreFinished (es : List I) (os ms : List (Peeked I)) (ns : List I) : Type 0 where
    pub whole : wholes (places_after received os ms) (rest_of ms ns) ≡
        inputs_of progress received es ns
    pub fits : AllFit (places_after received os ms) (rest_of ms ns)
    pub ends : Each (Ends link progress Follows) es ns

  module _ (goes_on : (a b c : I) → Follows a b → Follows b c → Follows a c)
      (received_both : (a b c : I) → Follows a b → Follows b c →
      received a c ≡ received a b ++ received b c) where
    one_whole : (e : I) (o m : Peeked I) (n : I) → Opens link progress Follows received e o →
        Advances link progress Follows o m → Finishes link progress Follows received m n →
        (in_hand o.head ++ received o.input m.input) ++ received m.input n ≡ received e n
    one_whole e o m n b a f =
        ap (λ x. (x ++ received o.input m.input) ++ received m.input n) (sym b.received_is)
        ∙ ap (λ x. x ++ received m.input n) (sym
        (received_both e o.input m.input b.follows a.follows))
        ∙ sym (received_both e m.input n (goes_on e o.input m.input b.follows a.follows)
        f.ends.follows)

    one_ends : (e : I) (o m : Peeked I) (n : I) → Opens link progress Follows received e o →
        Advances link progress Follows o m → Finishes link progress Follows received m n →
        Ends link progress Follows e n
    one_ends e o m n b a f = record {
      link_is = f.ends.link_is ∙ a.link_is ∙ b.link_is;
      follows = goes_on e m.input n (goes_on e o.input m.input b.follows a.follows) f.ends.follows;
      ended = f.ends.ended;
    }

    pub are_finished : (es : List I) (os ms : List (Peeked I)) (ns : List I) → Open es os →
        Advance os ms → Finish ms ns → AreFinished es os ms ns
    are_finished [] [] [] [] b a f = record { whole = refl; fits = tt; ends = tt }
    are_finished [] [] [] (n ∷ ns) b a f = absurd f
    are_finished [] [] (m ∷ ms) ns b a f = absurd a
    are_finished [] (o ∷ os) ms ns b a f = absurd b
    are_finished (e ∷ es) [] ms ns b a f = absurd b
    are_finished (e ∷ es) (o ∷ os) [] ns b a f = absurd a
    are_finished (e ∷ es) (o ∷ os) (m ∷ ms) [] b a f = absurd f
    are_finished (e ∷ es) (o ∷ os) (m ∷ ms) (n ∷ ns) b a f =
        let rest = are_finished es os ms ns b.1 a.1 f.1 in
        record {
          whole = ap (λ x. input_of x (end_given (progress n)) ∷
              wholes (places_after received os ms) (rest_of ms ns)) (one_whole e o m n b.0 a.0 f.0)
              ∙ ap (λ is. input_of (received e n) (end_given (progress n)) ∷ is) rest.whole;
          fits = (f.0.fits, rest.fits);
          ends = (one_ends e o m n b.0 a.0 f.0, rest.ends);
        }
