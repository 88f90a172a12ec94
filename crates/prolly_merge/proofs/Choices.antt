-- The last head of the least key.
use Rattle.std.proofs.Common.{◌≡◌, ℕ, zero, suc, ◌+◌, Bool, true, false, List, [], ◌∷◌, ◌++◌}
use Rattle.std.proofs.Common.{length, take, drop, Option, Some, None, Ordering, slice_get, get_or}
use Rattle.std.proofs.Common.{inl, refl, sym, ap, ◌∙◌, subst, add-one}
use Rattle.std.specs.declared.cmp.Ordering.TheVariants.{Less, Equal, Greater}
use Rattle.std.specs.Ordering.{is_lt, is_eq}
use Rattle.std.specs.List.{AllByRecursion}
use Rattle.std.proofs.lemmas.Bool.{false≢true}
use Rattle.std.proofs.lemmas.List.{take-append-drop}
use Rattle.std.proofs.lemmas.Option.{slice_get_within, slice_get_read}
use Rattle.prolly_entry.specs.Record.{Record}
use Rattle.prolly_entry.specs.Keys.{key_order, KeyBelow}
use Rattle.prolly_entry.specs.lemmas.Orders.{order_self, order_same, order_trans, greater_below}
use Rattle.prolly_entry.specs.lemmas.Orders.{below_greater, eq_true}
use Rattle.prolly_link.specs.declared.message.End.{End}
use Rattle.prolly_link.specs.declared.message.End.TheVariants.{Clean, Fault}
use Rattle.prolly_link.specs.declared.fault.RunFault.{RunFault}
use Rattle.prolly_merge.specs.declared.heads.Head.{Head}
use Rattle.prolly_merge.specs.declared.heads.Head.TheVariants.{Ready, Ended}
use Rattle.prolly_merge.specs.declared.round.Least.{Least}
use Rattle.prolly_merge.specs.Head.{Allows, has_key, IsFaultIn, Stops}
use Rattle.prolly_merge.specs.Choice.{IsAbove, IsChosen, IsFirstHead, IsFirstUnless, IsLeast}
use Rattle.prolly_merge.proofs.Equal.{none_some, some_same, ready_same, ready_ended}

abbrev lone : ℕ → Bool → Least
lone at is_shared = record { at = at; is_shared = is_shared }

-- ---- one more head

pub take_next : (hs : List Head) (at : ℕ) (h : Head) → slice_get hs at ≡ Some h →
    take (suc at) hs ≡ take at hs ++ h ∷ []
take_next [] at h e = absurd (none_some h e)
take_next (x ∷ hs) zero h e = ap (λ y. y ∷ []) (some_same x h e)
take_next (x ∷ hs) (suc at) h e = ap (λ ys. x ∷ ys) (take_next hs at h e)

length_taken : (hs : List Head) (at : ℕ) (h : Head) → slice_get hs at ≡ Some h →
    length (take at hs) ≡ at
length_taken [] at h e = absurd (none_some h e)
length_taken (x ∷ hs) zero h e = refl
length_taken (x ∷ hs) (suc at) h e = ap suc (length_taken hs at h e)

all_more : (P : Head → Type 0) (hs : List Head) (h : Head) → AllByRecursion P hs → P h →
    AllByRecursion P (hs ++ h ∷ [])
all_more P [] h a p = (p, tt)
all_more P (x ∷ hs) h a p = (a.0, all_more P hs h a.1 p)

chosen_more : (at : ℕ) (hs : List Head) (s : Record) (h : Head) → IsChosen at hs s → IsAbove s h →
    IsChosen at (hs ++ h ∷ []) s
chosen_more at [] s h c a = absurd c
chosen_more zero (x ∷ hs) s h c a = (c.0, all_more (IsAbove s) hs h c.1 a)
chosen_more (suc at) (x ∷ hs) s h c a = (c.0, chosen_more at hs s h c.1 a)

first_more : (at : ℕ) (hs : List Head) (s : Record) (h : Head) → IsFirstHead at hs s →
    IsFirstHead at (hs ++ h ∷ []) s
first_more zero hs s h f = tt
first_more (suc at) [] s h f = absurd f
first_more (suc at) (x ∷ hs) s h f = (f.0, first_more at hs s h f.1)

first_unless_more : (shared : Bool) (at : ℕ) (hs : List Head) (s : Record) (h : Head) →
    IsFirstUnless shared at hs s → IsFirstUnless shared at (hs ++ h ∷ []) s
first_unless_more true at hs s h f = tt
first_unless_more false at hs s h f = first_more at hs s h f

-- Behind clean ends the record is chosen, and no other head has its key.
after_none : (hs : List Head) (r : Record) → AllByRecursion (λ h. h ≡ Ended Clean) hs →
    IsChosen (length hs) (hs ++ Ready r ∷ []) r × IsFirstHead (length hs) (hs ++ Ready r ∷ []) r
after_none [] r a = ((refl, tt), tt)
after_none (x ∷ hs) r a =
    let more = after_none hs r a.1 in
    ((subst (Allows r.key) (sym a.0) refl, more.0), (ap (has_key r.key) a.0, more.1))

-- What is not below x is not below y, where x is not below y.
not_below_trans : (z x y : List ℕ) → is_lt (key_order z x) ≡ false → is_lt (key_order x y) ≡ false →
    is_lt (key_order z y) ≡ false
not_below_trans z x y h k = go (key_order z y) refl (key_order x y) refl
  where
    go : (o : Ordering) → key_order z y ≡ o → (p : Ordering) → key_order x y ≡ p →
        is_lt (key_order z y) ≡ false
    go Equal e p f = ap is_lt e
    go Greater e p f = ap is_lt e
    go Less e Less f = absurd (false≢true (sym k ∙ ap is_lt f))
    go Less e Equal f = absurd (false≢true (sym h ∙
        ap is_lt (subst (λ q. KeyBelow z q) (sym (order_same x y f)) e)))
    go Less e Greater f = absurd (false≢true (sym h ∙
        ap is_lt (order_trans z y x e (greater_below x y f))))

allows_lower : (x y : List ℕ) (h : Head) → is_lt (key_order x y) ≡ false → Allows x h → Allows y h
allows_lower x y (Ended e) k a = a
allows_lower x y (Ready r) k a = not_below_trans r.key x y a k

above_lower : (hs : List Head) (s r : Record) → AllByRecursion (IsAbove s) hs →
    is_lt (key_order s.key r.key) ≡ false → IsChosen (length hs) (hs ++ Ready r ∷ []) r
above_lower [] s r a k = (refl, tt)
above_lower (x ∷ hs) s r a k = (allows_lower s.key r.key x k a.0.0, above_lower hs s r a.1 k)

-- A record that is not above the chosen one is chosen behind it.
chosen_lower : (at : ℕ) (hs : List Head) (s r : Record) → IsChosen at hs s →
    is_lt (key_order s.key r.key) ≡ false → IsChosen (length hs) (hs ++ Ready r ∷ []) r
chosen_lower at [] s r c k = absurd c
chosen_lower zero (x ∷ hs) s r c k = (subst (Allows r.key) (sym c.0) k, above_lower hs s r c.1 k)
chosen_lower (suc at) (x ∷ hs) s r c k = (
  allows_lower s.key r.key x k c.0,
  chosen_lower at hs s r c.1 k,
)

-- What allows a greater key does not have this one.
other_key : (x y : List ℕ) (h : Head) → KeyBelow y x → Allows x h → has_key y h ≡ false
other_key x y (Ended e) k a = refl
other_key x y (Ready r) k a = go (is_eq (key_order r.key y)) refl
  where
    go : (b : Bool) → is_eq (key_order r.key y) ≡ b → is_eq (key_order r.key y) ≡ false
    go true e = absurd (false≢true (sym a ∙ ap is_lt
        (subst (λ z. KeyBelow z x) (sym (order_same r.key y (eq_true (key_order r.key y) e))) k)))
    go false e = e

above_first : (hs : List Head) (s r : Record) → AllByRecursion (IsAbove s) hs →
    KeyBelow r.key s.key → IsFirstHead (length hs) (hs ++ Ready r ∷ []) r
above_first [] s r a k = tt
above_first (x ∷ hs) s r a k = (other_key s.key r.key x k a.0.0, above_first hs s r a.1 k)

first_lower : (at : ℕ) (hs : List Head) (s r : Record) → IsChosen at hs s → KeyBelow r.key s.key →
    IsFirstHead (length hs) (hs ++ Ready r ∷ []) r
first_lower at [] s r c k = absurd c
first_lower zero (x ∷ hs) s r c k = (
  other_key s.key r.key x k (subst (Allows s.key) (sym c.0) (ap is_lt (order_self s.key))),
  above_first hs s r c.1 k,
)
first_lower (suc at) (x ∷ hs) s r c k = (other_key s.key r.key x k c.0, first_lower at hs s r c.1 k)

-- ---- the least with one more head

-- Where the records of the heads are one more than these, the least of them.
abbrev Next : List Head → ℕ → Head → Type 0
Next hs at h = slice_get hs at ≡ Some h

extend : (hs : List Head) (at : ℕ) (h : Head) (least : Option Least) → Next hs at h →
    IsLeast (take at hs ++ h ∷ []) least → IsLeast (take (at + 1) hs) least
extend hs at h least e l = subst (λ xs. IsLeast xs least)
    (sym (ap (λ k. take k hs) (add-one at) ∙ take_next hs at h e)) l

pub least_first : (hs : List Head) (at : ℕ) (r : Record) → Next hs at (Ready r) →
    IsLeast (take at hs) None → IsLeast (take (at + 1) hs) (Some (lone at false))
least_first hs at r e l =
    let both = after_none (take at hs) r l in
    extend hs at (Ready r) (Some (lone at false)) e
    (subst (λ k. IsLeast (take at hs ++ Ready r ∷ []) (Some (lone k false)))
    (length_taken hs at (Ready r) e) (r, both.0, both.1))

pub least_less : (hs : List Head) (at : ℕ) (least : Least) (r s : Record) → Next hs at (Ready r) →
    IsChosen least.at (take at hs) s → key_order r.key s.key ≡ Less →
    IsLeast (take (at + 1) hs) (Some (lone at false))
least_less hs at least r s e c less =
    extend hs at (Ready r) (Some (lone at false)) e
    (subst (λ k. IsLeast (take at hs ++ Ready r ∷ []) (Some (lone k false)))
    (length_taken hs at (Ready r) e) (
      r,
      chosen_lower least.at (take at hs) s r c (ap is_lt (below_greater r.key s.key less)),
      first_lower least.at (take at hs) s r c less,
    ))

pub least_equal : (hs : List Head) (at : ℕ) (least : Least) (r s : Record) → Next hs at (Ready r) →
    IsChosen least.at (take at hs) s → key_order r.key s.key ≡ Equal →
    IsLeast (take (at + 1) hs) (Some (lone at true))
least_equal hs at least r s e c equal =
    let same : key_order s.key r.key ≡ Equal =
    subst (λ k. key_order k r.key ≡ Equal) (order_same r.key s.key equal) (order_self r.key) in
    extend hs at (Ready r) (Some (lone at true)) e
    (subst (λ k. IsLeast (take at hs ++ Ready r ∷ []) (Some (lone k true)))
    (length_taken hs at (Ready r) e)
    (r, chosen_lower least.at (take at hs) s r c (ap is_lt same), tt))

pub least_keeps : (hs : List Head) (at : ℕ) (least : Least) (r s : Record) → Next hs at (Ready r) →
    IsChosen least.at (take at hs) s → IsFirstUnless least.is_shared least.at (take at hs) s →
    key_order r.key s.key ≡ Greater → IsLeast (take (at + 1) hs) (Some least)
least_keeps hs at least r s e c f greater =
    extend hs at (Ready r) (Some least) e (
      s,
      chosen_more least.at (take at hs) s (Ready r) c (ap is_lt greater, ap is_eq greater),
      first_unless_more least.is_shared least.at (take at hs) s (Ready r) f,
    )

pub least_ended : (hs : List Head) (at : ℕ) (h : Head) (least : Option Least) → Next hs at h →
    h ≡ Ended Clean → IsLeast (take at hs) least → IsLeast (take (at + 1) hs) least
least_ended hs at h None e is l = extend hs at h None e
    (all_more (λ x. x ≡ Ended Clean) (take at hs) h l is)
least_ended hs at h (Some least) e is l = extend hs at h (Some least) e (
  l.0,
  chosen_more least.at (take at hs) l.0 h l.1 (subst (IsAbove l.0) (sym is) (refl, refl)),
  first_unless_more least.is_shared least.at (take at hs) l.0 h l.2,
)

-- ---- reading the chosen head

get_front : (at : ℕ) (xs ys : List Head) (s : Record) → IsChosen at xs s →
    slice_get (xs ++ ys) at ≡ Some (Ready s)
get_front at [] ys s c = absurd c
get_front zero (x ∷ xs) ys s c = ap Some c.0
get_front (suc at) (x ∷ xs) ys s c = get_front at xs ys s c.1

pub chosen_get : (at k : ℕ) (hs : List Head) (s : Record) → IsChosen at (take k hs) s →
    slice_get hs at ≡ Some (Ready s)
chosen_get at k hs s c = subst (λ xs. slice_get xs at ≡ Some (Ready s)) (take-append-drop k hs)
    (get_front at (take k hs) (drop k hs) s c)

pub get_chosen : (at : ℕ) (hs : List Head) (s : Record) → IsChosen at hs s →
    slice_get hs at ≡ Some (Ready s)
get_chosen at [] s c = absurd c
get_chosen zero (x ∷ hs) s c = ap Some c.0
get_chosen (suc at) (x ∷ hs) s c = get_chosen at hs s c.1

-- ---- the end of the heads

clean_fault_in : (xs ys : List Head) (end : End) → AllByRecursion (λ h. h ≡ Ended Clean) xs →
    IsFaultIn ys end → IsFaultIn (xs ++ ys) end
clean_fault_in [] ys end a f = f
clean_fault_in (x ∷ xs) ys end a f = subst (λ h. IsFaultIn (h ∷ (xs ++ ys)) end) (sym a.0)
    (clean_fault_in xs ys end a.1 f)

allowed_fault : (key : List ℕ) (h : Head) (hs : List Head) (end : End) → Allows key h →
    IsFaultIn hs end → IsFaultIn (h ∷ hs) end
allowed_fault key (Ready r) hs end a f = f
allowed_fault key (Ended e) hs end a f = subst (λ x. IsFaultIn (Ended x ∷ hs) end) (sym a) f

above_fault_in : (xs ys : List Head) (s : Record) (end : End) → AllByRecursion (IsAbove s) xs →
    IsFaultIn ys end → IsFaultIn (xs ++ ys) end
above_fault_in [] ys s end a f = f
above_fault_in (x ∷ xs) ys s end a f = allowed_fault s.key x (xs ++ ys) end a.0.0
    (above_fault_in xs ys s end a.1 f)

chosen_fault_in : (at : ℕ) (xs ys : List Head) (s : Record) (end : End) → IsChosen at xs s →
    IsFaultIn ys end → IsFaultIn (xs ++ ys) end
chosen_fault_in at [] ys s end c f = absurd c
chosen_fault_in zero (x ∷ xs) ys s end c f = subst (λ h. IsFaultIn (h ∷ (xs ++ ys)) end) (sym c.0)
    (above_fault_in xs ys s end c.1 f)
chosen_fault_in (suc at) (x ∷ xs) ys s end c f =
    allowed_fault s.key x (xs ++ ys) end c.0 (chosen_fault_in at xs ys s end c.1 f)

least_fault_in : (xs ys : List Head) (least : Option Least) (end : End) → IsLeast xs least →
    IsFaultIn ys end → IsFaultIn (xs ++ ys) end
least_fault_in xs ys None end l f = clean_fault_in xs ys end l f
least_fault_in xs ys (Some least) end l f = chosen_fault_in least.at xs ys l.0 end l.1 f

drop_at : (hs : List Head) (at : ℕ) (h : Head) → slice_get hs at ≡ Some h →
    drop at hs ≡ h ∷ drop (suc at) hs
drop_at [] at h e = absurd (none_some h e)
drop_at (x ∷ hs) zero h e = ap (λ y. y ∷ hs) (some_same x h e)
drop_at (x ∷ hs) (suc at) h e = drop_at hs at h e

-- Where the first heads have no fault, that of the next one is the first.
pub first_fault : (hs : List Head) (at : ℕ) (least : Option Least) (f : RunFault) →
    IsLeast (take at hs) least → slice_get hs at ≡ Some (Ended (Fault f)) → Stops hs (Fault f)
first_fault hs at least f l e =
    inl (subst (λ xs. IsFaultIn xs (Fault f)) (take-append-drop at hs)
    (least_fault_in (take at hs) (drop at hs) least (Fault f) l
    (subst (λ xs. IsFaultIn xs (Fault f)) (sym (drop_at hs at (Ended (Fault f)) e)) refl)))

pub take_all : (hs : List Head) → take (length hs) hs ≡ hs
take_all [] = refl
take_all (x ∷ hs) = ap (λ xs. x ∷ xs) (take_all hs)

-- ---- what the code compared

chosen_read : (hs : List Head) (at k : ℕ) (s : Record) (h : Head) → IsChosen at (take k hs) s →
    h ≡ get_or hs at h → Ready s ≡ h
chosen_read hs at k s h c is =
    let got = chosen_get at k hs s c in
    some_same (Ready s) h (sym got ∙ slice_get_read hs (length hs) at h refl
    (slice_get_within hs at (Ready s) got) is)

pub chosen_is : (hs : List Head) (at k : ℕ) (s : Record) (h : Head) (r : Record) →
    IsChosen at (take k hs) s → h ≡ get_or hs at h → h ≡ Ready r → r ≡ s
chosen_is hs at k s h r c is e = sym (ready_same s r (chosen_read hs at k s h c is ∙ e))

pub chosen_not : (hs : List Head) (at k : ℕ) (s : Record) (h : Head) (end : End) →
    IsChosen at (take k hs) s → h ≡ get_or hs at h → h ≡ Ended end → ⊥
chosen_not hs at k s h end c is e = ready_ended s end (chosen_read hs at k s h c is ∙ e)

pub keys_compare : (a b : List ℕ) (r s t : Record) (given o : Ordering) → a ≡ r.key → b ≡ t.key →
    t ≡ s → given ≡ key_order a b → given ≡ o → key_order r.key s.key ≡ o
keys_compare a b r s t given o x y z e f =
    ap (λ k. key_order k s.key) (sym x) ∙ ap (λ k. key_order a k.key) (sym z) ∙
    ap (key_order a) (sym y) ∙ sym e ∙ f
