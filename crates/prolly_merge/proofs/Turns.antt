-- The turns of two inputs.
use Rattle.std.proofs.Common.{◌≡◌, ℕ, true, false, cond, List, [], ◌∷◌, Some, None, refl, sym, ap}
use Rattle.std.proofs.Common.{◌∙◌, subst}
use Rattle.std.specs.declared.cmp.Ordering.TheVariants.{Less, Equal, Greater}
use Rattle.std.specs.Ordering.{is_lt, is_eq}
use Rattle.prolly_entry.specs.Record.{Record}
use Rattle.prolly_entry.specs.Keys.{key_order}
use Rattle.prolly_entry.specs.Overlay.{change_of, or_else}
use Rattle.prolly_entry.specs.lemmas.Orders.{order_self, below_greater}
use Rattle.prolly_merge.specs.declared.heads.Head.{Head}
use Rattle.prolly_merge.specs.declared.heads.Head.TheVariants.{Ready, Ended}
use Rattle.prolly_merge.specs.declared.heads.MergeStep.TheVariants.{Send}
use Rattle.prolly_merge.specs.declared.two.Turn.TheVariants.{Left, Right, Both}
use Rattle.prolly_link.specs.Identity.{LinkId}
use Rattle.prolly_link.specs.declared.message.Progress.{Progress}
use Rattle.prolly_merge.specs.declared.heads.Peeked.{Peeked}
use Rattle.prolly_merge.specs.Head.{in_hand, Allows, has_key}
use Rattle.prolly_merge.specs.Peeked.{Advances}
use Rattle.prolly_merge.specs.MergeStep.{MovesOn, IsStep}
use Rattle.prolly_merge.specs.Turn.{IsTurn}
use Rattle.prolly_merge.proofs.Steps.{has_moved, has_stayed}
use Rattle.prolly_merge.proofs.Equal.{ready_same}

pub left_is_less : (left right : Head) (l r : Record) → left ≡ Ready l → right ≡ Ready r →
    key_order l.key r.key ≡ Less → IsTurn left right Left
left_is_less left right l r is is' less =
    let more : key_order r.key l.key ≡ Greater = below_greater l.key r.key less in (
      l,
      is,
      subst (Allows l.key) (sym is') (ap is_lt more),
      subst (λ h. has_key l.key h ≡ false) (sym is') (ap is_eq more),
    )

-- A head without the key says nothing of it.
pub change_of_none : (key : List ℕ) (h : Head) → has_key key h ≡ false →
    change_of (in_hand h) key ≡ None
change_of_none key (Ended e) is = refl
change_of_none key (Ready r) is = ap (λ b. cond b (Some r.value) None) is

-- A record says its value of its key.
pub change_of_own : (r : Record) → change_of (r ∷ []) r.key ≡ Some r.value
change_of_own r = ap (λ b. cond b (Some r.value) None) (ap is_eq (order_self r.key))

module _ {I : Type 0} (link : I → LinkId) (progress : I → Progress) (Follows : I → I → Type 0)
    (received : I → I → List Record)
    (stays : (a : I) → Follows a a) (received_none : (a : I) → received a a ≡ []) where
  abbrev Gave : Peeked I → Peeked I → Type 0
  Gave o n = Advances link progress Follows o n × (received o.input n.input ≡ in_hand n.head)

  abbrev Sends : Peeked I → Peeked I → Record → Peeked I → Peeked I → Type 0
  Sends l r s l' r' = IsStep link progress Follows received (l ∷ r ∷ []) (Send s) (l' ∷ r' ∷ [])

  own_key : (h : Head) (s : Record) → h ≡ Ready s → has_key s.key h ≡ true
  own_key h s is = ap (has_key s.key) is ∙ ap is_eq (order_self s.key)

  own_allows : (h : Head) (s : Record) → h ≡ Ready s → Allows s.key h
  own_allows h s is = subst (Allows s.key) (sym is) (ap is_lt (order_self s.key))

  own_change : (h : Head) (s : Record) → h ≡ Ready s → change_of (in_hand h) s.key ≡ Some s.value
  own_change h s is = ap (λ x. change_of (in_hand x) s.key) is ∙ change_of_own s

  pub step_left : (l r : Peeked I) (s : Record) (l' r' : Peeked I) → IsTurn l.head r.head Left →
      l.head ≡ Ready s → Gave l l' → r' ≡ r → Sends l r s l' r'
  step_left l r s l' r' t is gave same =
      let own : t.0 ≡ s = ready_same t.0 s (sym t.1 ∙ is) in
      let allows : Allows s.key r.head = subst (λ x. Allows x.key r.head) own t.2 in
      let due : has_key s.key r.head ≡ false =
      subst (λ x. has_key x.key r.head ≡ false) own t.3 in (
        (own_allows l.head s is, (allows, tt)),
        ap (λ o. or_else o (change_of (in_hand l.head) s.key)) (change_of_none s.key r.head due)
            ∙
            own_change l.head s is,
        (
          has_moved link progress Follows received s.key l l' gave.0 gave.1
              (own_key l.head s is),
          (
            subst (MovesOn link progress Follows received s.key r) (sym same)
                (has_stayed link progress Follows received stays received_none s.key r due),
            tt,
          ),
        ),
      )

  pub step_right : (l r : Peeked I) (s : Record) (l' r' : Peeked I) →
      IsTurn l.head r.head Right →
      r.head ≡ Ready s → l' ≡ l → Gave r r' → Sends l r s l' r'
  step_right l r s l' r' t is same gave =
      let own : t.0 ≡ s = ready_same t.0 s (sym t.1 ∙ is) in
      let allows : Allows s.key l.head = subst (λ x. Allows x.key l.head) own t.2 in
      let due : has_key s.key l.head ≡ false =
      subst (λ x. has_key x.key l.head ≡ false) own t.3 in (
        (allows, (own_allows r.head s is, tt)),
        ap (λ o. or_else o (change_of (in_hand l.head) s.key)) (own_change r.head s is),
        (
          subst (MovesOn link progress Follows received s.key l) (sym same)
              (has_stayed link progress Follows received stays received_none s.key l due),
          (
            has_moved link progress Follows received s.key r r' gave.0 gave.1
                (own_key r.head s is),
            tt,
          ),
        ),
      )

  pub step_both : (l r : Peeked I) (s : Record) (l' r' : Peeked I) → IsTurn l.head r.head Both →
      r.head ≡ Ready s → Gave l l' → Gave r r' → Sends l r s l' r'
  step_both l r s l' r' t is gave_left gave_right =
      let own : t.1 ≡ s = ready_same t.1 s (sym t.3 ∙ is) in
      let equal : key_order t.0.key s.key ≡ Equal =
      subst (λ x. key_order t.0.key x.key ≡ Equal) own t.4 in (
        (subst (Allows s.key) (sym t.2) (ap is_lt equal), (own_allows r.head s is, tt)),
        ap (λ o. or_else o (change_of (in_hand l.head) s.key)) (own_change r.head s is),
        (
          has_moved link progress Follows received s.key l l' gave_left.0 gave_left.1
              (ap (has_key s.key) t.2 ∙ ap is_eq equal),
          (
            has_moved link progress Follows received s.key r r' gave_right.0 gave_right.1
                (own_key r.head s is),
            tt,
          ),
        ),
      )
