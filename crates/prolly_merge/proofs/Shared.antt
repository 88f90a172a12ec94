-- Keys that several heads have.
use Rattle.std.proofs.Common.{◌≡◌, ℕ, zero, suc, ◌+◌, Bool, true, false, cond, List, [], ◌∷◌, ◌++◌}
use Rattle.std.proofs.Common.{take, slice_get, Option, Some, None, refl, sym, ap, ◌∙◌, subst, add-one}
use Rattle.std.proofs.Common.{append_assoc}
use Rattle.std.proofs.lemmas.List.Elements.{filter-append}
use Rattle.std.specs.List.{flat_map, AllByRecursion}
use Rattle.std.specs.Ordering.{is_eq}
use Rattle.prolly_entry.specs.Keys.{key_order}
use Rattle.prolly_entry.specs.Overlay.{or_else}
use Rattle.prolly_entry.specs.Record.{Record}
use Rattle.prolly_entry.specs.lemmas.Orders.{order_self}
use Rattle.prolly_link.specs.Identity.{LinkId}
use Rattle.prolly_link.specs.declared.message.Progress.{Progress}
use Rattle.prolly_merge.specs.declared.heads.Head.{Head}
use Rattle.prolly_merge.specs.declared.heads.Head.TheVariants.{Ready, Ended}
use Rattle.prolly_merge.specs.declared.heads.MergeStep.TheVariants.{Send as SendOne}
use Rattle.prolly_merge.specs.declared.heads.Peeked.{Peeked}
use Rattle.prolly_merge.specs.declared.round.ManyStep.{ManyStep}
use Rattle.prolly_merge.specs.declared.round.ManyStep.TheVariants.{Send, Stop, Refuse}
use Rattle.prolly_merge.specs.declared.round.SharedKey.{SharedKey}
use Rattle.prolly_merge.specs.declared.round.Taken.{Taken}
use Rattle.prolly_merge.specs.Choice.{IsAbove, IsChosen, IsFirstHead}
use Rattle.prolly_merge.specs.Head.{in_hand, record_in, has_key}
use Rattle.prolly_merge.specs.Many.{last_with, hands_with, IsLeftOut, IsStepWith, IsManyStep}
use Rattle.prolly_merge.specs.MergeStep.{IsStep}
use Rattle.prolly_merge.specs.Peeked.{heads_in}
use Rattle.prolly_merge.specs.Unique.{records_with}
use Rattle.prolly_merge.proofs.Choices.{take_next}

-- ---- the last head of a key, one head after another

or_none : (o : Option Record) → or_else o None ≡ o
or_none None = refl
or_none (Some r) = refl

or_or : (a b c : Option Record) → or_else (or_else a b) c ≡ or_else a (or_else b c)
or_or None b c = refl
or_or (Some r) b c = refl

abbrev own : List ℕ → Head → Option Record
own key h = cond (has_key key h) (record_in h) None

last_more : (key : List ℕ) (hs : List Head) (h : Head) →
    last_with key (hs ++ h ∷ []) ≡ or_else (own key h) (last_with key hs)
last_more key [] h = sym (or_none (own key h))
last_more key (x ∷ hs) h = ap (λ o. or_else o (own key x)) (last_more key hs h)
    ∙ or_or (own key h) (last_with key hs) (own key x)

last_next : (key : List ℕ) (hs : List Head) (at : ℕ) (h : Head) → slice_get hs at ≡ Some h →
    last_with key (take (at + 1) hs) ≡ or_else (own key h) (last_with key (take at hs))
last_next key hs at h e =
    ap (λ k. last_with key (take k hs)) (add-one at) ∙ ap (last_with key) (take_next hs at h e)
    ∙ last_more key (take at hs) h

-- The next head has the key, and is the last one so far.
pub last_taken : (key : List ℕ) (hs : List Head) (at : ℕ) (h : Head) → slice_get hs at ≡ Some h →
    has_key key h ≡ true → record_in h ≡ last_with key (take (at + 1) hs)
last_taken key hs at (Ended end) e is = absurd (no is)
  where
    no : false ≡ true → ⊥
    no e = cc
last_taken key hs at (Ready r) e is = sym (last_next key hs at (Ready r) e
    ∙ ap (λ b. or_else (cond b (Some r) None) (last_with key (take at hs))) is)

-- The next head does not have the key.
pub last_stays : (key : List ℕ) (hs : List Head) (at : ℕ) (h : Head) → slice_get hs at ≡ Some h →
    has_key key h ≡ false → last_with key (take at hs) ≡ last_with key (take (at + 1) hs)
last_stays key hs at h e is = sym (last_next key hs at h e
    ∙ ap (λ b. or_else (cond b (record_in h) None) (last_with key (take at hs))) is)

-- ---- the records of a key

-- The record has the key.
abbrev pub with_key : List ℕ → Record → Bool
with_key key r = is_eq (key_order r.key key)

hand_without : (key : List ℕ) (h : Head) → has_key key h ≡ false → records_with key (in_hand h) ≡ []
hand_without key (Ended e) is = refl
hand_without key (Ready r) is = ap (λ b. cond b (r ∷ []) []) is

-- A record is the one of its own key.
pub own_record : (r : Record) → records_with r.key (r ∷ []) ≡ r ∷ []
own_record r = ap (λ b. cond b (r ∷ []) []) (ap is_eq (order_self r.key))

-- One head more.
pub hands_more : (key : List ℕ) (h : Head) (hs : List Head) →
    hands_with key (h ∷ hs) ≡ records_with key (in_hand h) ++ hands_with key hs
hands_more key h hs = filter-append (with_key key) (in_hand h) (flat_map in_hand hs)

abbrev IsLastOf : List Record → Option Record → Type 0
IsLastOf rs None = rs ≡ []
IsLastOf rs (Some r) = (more : List Record) × (rs ≡ more ++ r ∷ [])

last_of_more : (key : List ℕ) (h : Head) (hs : List Head) (o : Option Record) →
    IsLastOf (hands_with key hs) o → IsLastOf (hands_with key (h ∷ hs)) (or_else o (own key h))
last_of_more key h hs (Some r) is = (
  records_with key (in_hand h) ++ is.0,
  hands_more key h hs ∙ ap (λ rs. records_with key (in_hand h) ++ rs) is.1
      ∙ sym (append_assoc (records_with key (in_hand h)) is.0 (r ∷ [])),
)
last_of_more key (Ended e) hs None is = is
last_of_more key (Ready r) hs None is = go (is_eq (key_order r.key key)) (hands_more key (Ready r) hs
    ∙ ap (λ rs. records_with key (r ∷ []) ++ rs) is)
  where
    go : (b : Bool) → hands_with key (Ready r ∷ hs) ≡ cond b (r ∷ []) [] ++ [] →
        IsLastOf (hands_with key (Ready r ∷ hs)) (cond b (Some r) None)
    go true e = ([], e)
    go false e = e

last_is : (key : List ℕ) (hs : List Head) → IsLastOf (hands_with key hs) (last_with key hs)
last_is key [] = refl
last_is key (h ∷ hs) = last_of_more key h hs (last_with key hs) (last_is key hs)

above_hands : (r : Record) (hs : List Head) → AllByRecursion (IsAbove r) hs →
    hands_with r.key hs ≡ []
above_hands r [] a = refl
above_hands r (h ∷ hs) a = hands_more r.key h hs
    ∙ ap (λ rs. rs ++ hands_with r.key hs) (hand_without r.key h a.0.1) ∙ above_hands r hs a.1

first_hands : (at : ℕ) (hs : List Head) (r : Record) → IsFirstHead at hs r →
    hands_with r.key (take at hs) ≡ []
first_hands zero hs r f = refl
first_hands (suc at) [] r f = absurd f
first_hands (suc at) (h ∷ hs) r f = hands_more r.key h (take at hs)
    ∙ ap (λ rs. rs ++ hands_with r.key (take at hs)) (hand_without r.key h f.0)
    ∙ first_hands at hs r f.1

-- The chosen record is the last one of its key.
chosen_hands : (at : ℕ) (hs : List Head) (r : Record) → IsChosen at hs r →
    hands_with r.key hs ≡ hands_with r.key (take at hs) ++ r ∷ []
chosen_hands at [] r c = absurd c
chosen_hands zero (h ∷ hs) r c = hands_more r.key h hs
    ∙ ap (λ rs. records_with r.key (in_hand h) ++ rs) (above_hands r hs c.1)
    ∙ ap (λ x. records_with r.key (in_hand x) ++ []) c.0 ∙ ap (λ rs. rs ++ []) (own_record r)
chosen_hands (suc at) (h ∷ hs) r c = hands_more r.key h hs
    ∙ ap (λ rs. records_with r.key (in_hand h) ++ rs) (chosen_hands at hs r c.1)
    ∙ sym (append_assoc (records_with r.key (in_hand h)) (hands_with r.key (take at hs)) (r ∷ []))
    ∙ ap (λ rs. rs ++ r ∷ []) (sym (hands_more r.key h (take at hs)))

-- Where no head before the chosen one has its key, no other record does.
pub alone_is : (at : ℕ) (hs : List Head) (r : Record) → IsChosen at hs r → IsFirstHead at hs r →
    IsLeftOut hs r None
alone_is at hs r c f = chosen_hands at hs r c ∙ ap (λ rs. rs ++ r ∷ []) (first_hands at hs r f)

-- The last one before the chosen one that has its key stands right before it.
pub left_out_is : (at : ℕ) (hs : List Head) (r : Record) → IsChosen at hs r → (o : Option Record) →
    o ≡ last_with r.key (take at hs) → IsLeftOut hs r o
left_out_is at hs r c o is = go o (subst (IsLastOf (hands_with r.key (take at hs))) (sym is)
    (last_is r.key (take at hs)))
  where
    go : (o : Option Record) → IsLastOf (hands_with r.key (take at hs)) o → IsLeftOut hs r o
    go None none = chosen_hands at hs r c ∙ ap (λ rs. rs ++ r ∷ []) none
    go (Some other) some = (
      some.0,
      chosen_hands at hs r c ∙ ap (λ rs. rs ++ r ∷ []) some.1
          ∙ append_assoc some.0 (other ∷ []) (r ∷ []),
    )

-- ---- a record that was taken

-- What is done with a record that was taken is a step.
pub step_with_is : {I : Type 0} (link : I → LinkId) (progress : I → Progress)
    (Follows : I → I → Type 0) (received : I → I → List Record) (shared : SharedKey)
    (os : List (Peeked I)) (hs : List Head) (taken : Taken) (step : ManyStep)
    (ns : List (Peeked I)) → hs ≡ heads_in os →
    IsStep link progress Follows received os (SendOne taken.record) ns →
    IsLeftOut hs taken.record taken.left_out → IsStepWith taken shared step →
    IsManyStep link progress Follows received shared os step ns
step_with_is link progress Follows received shared os hs taken (Send r) ns same sends left is = (
  subst (λ x. IsStep link progress Follows received os (SendOne x) ns) (sym is.0) sends,
  λ refused. subst (λ xs. IsLeftOut xs r None) same (subst (λ x. IsLeftOut hs x None) (sym is.0)
      (subst (IsLeftOut hs taken.record) (is.1 refused) left)),
)
step_with_is link progress Follows received shared os hs taken (Refuse d) ns same sends left is = (
  is.0,
  subst (λ x. IsStep link progress Follows received os (SendOne x) ns) (sym is.1) sends,
  subst (λ xs. IsLeftOut xs d.second (Some d.first)) same
      (subst (λ x. IsLeftOut hs x (Some d.first)) (sym is.1)
      (subst (IsLeftOut hs taken.record) is.2 left)),
)
step_with_is link progress Follows received shared os hs taken (Stop end) ns same sends left is =
    absurd is
