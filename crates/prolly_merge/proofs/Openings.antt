-- The first heads of inputs, while they are received.
use Rattle.std.proofs.Common.{◌≡◌, ℕ, List, [], ◌∷◌, ◌++◌, length, Some, slice_get, slice_set}
use Rattle.std.proofs.Common.{sym, ap, ◌∙◌, subst}
use Rattle.prolly_entry.specs.Record.{Record}
use Rattle.prolly_link.specs.Identity.{LinkId}
use Rattle.prolly_link.specs.declared.message.Progress.{Progress}
use Rattle.prolly_merge.specs.declared.heads.Head.{Head}
use Rattle.prolly_merge.specs.declared.heads.Peeked.{Peeked}
use Rattle.prolly_merge.specs.Each.{Each}
use Rattle.prolly_merge.specs.Peeked.{peeked_of, Opens}
use Rattle.prolly_merge.proofs.Peeks.{peeked}
use Rattle.prolly_merge.proofs.Equal.{none_some, some_same, suc_same, zero_suc}

cons_same : {A : Type 0} (x y : A) (xs ys : List A) → y ∷ ys ≡ x ∷ xs → (y ≡ x) × (ys ≡ xs)
cons_same x y xs ys e = (cc, cc)

module _ {I : Type 0} (link : I → LinkId) (progress : I → Progress) (Follows : I → I → Type 0)
    (received : I → I → List Record) where
  abbrev Open : I → Peeked I → Type 0
  Open = Opens link progress Follows received

  -- As many inputs as there are heads gave these, and the others are as they were.
  abbrev pub FirstOpen : List I → List I → List Head → Type 0
  FirstOpen os ns [] = ns ≡ os
  FirstOpen [] ns (h ∷ hs) = ⊥
  FirstOpen (o ∷ os) [] (h ∷ hs) = ⊥
  FirstOpen (o ∷ os) (n ∷ ns) (h ∷ hs) = Open o (record { input = n; head = h }) ×
      FirstOpen os ns hs

  pub open_next : (os ns : List I) (hs : List Head) (n n' : I) (h : Head) → FirstOpen os ns hs →
      slice_get ns (length hs) ≡ Some n → Open n (peeked n' h) →
      FirstOpen os (slice_set ns (length hs) n') (hs ++ h ∷ [])
  open_next os [] hs n n' h f e o = absurd (none_some n e)
  open_next [] (m ∷ ns) [] n n' h f e o = absurd (nil_cons f)
    where
      nil_cons : m ∷ ns ≡ [] → ⊥
      nil_cons e = cc
  open_next (p ∷ os) (m ∷ ns) [] n n' h f e o =
      let same = cons_same p m os ns f in
      (subst (λ x. Open x (peeked n' h)) (sym (some_same m n e) ∙ same.0) o, same.1)
  open_next [] (m ∷ ns) (k ∷ hs) n n' h f e o = absurd f
  open_next (p ∷ os) (m ∷ ns) (k ∷ hs) n n' h f e o = (f.0, open_next os ns hs n n' h f.1 e o)

  pub open_at : (os ns : List I) (hs hs' : List Head) (n n' : I) (h : Head) (i : ℕ) →
      FirstOpen os ns hs → length hs ≡ i → slice_get ns i ≡ Some n → Open n (peeked n' h) →
      hs' ≡ hs ++ h ∷ [] → FirstOpen os (slice_set ns i n') hs'
  open_at os ns hs hs' n n' h i f len e o is =
      subst (FirstOpen os (slice_set ns i n')) (sym is)
      (subst (λ k. FirstOpen os (slice_set ns k n') (hs ++ h ∷ [])) len
      (open_next os ns hs n n' h f (ap (slice_get ns) len ∙ e) o))

  pub open_all : (os ns : List I) (hs : List Head) → FirstOpen os ns hs → length hs ≡ length ns →
      Each Open os (peeked_of ns hs)
  open_all [] [] [] f e = tt
  open_all (o ∷ os) [] [] f e = absurd (nil_cons f)
    where
      nil_cons : [] ≡ o ∷ os → ⊥
      nil_cons e = cc
  open_all os (n ∷ ns) [] f e = absurd (zero_suc (length ns) e)
  open_all [] ns (h ∷ hs) f e = absurd f
  open_all (o ∷ os) [] (h ∷ hs) f e = absurd f
  open_all (o ∷ os) (n ∷ ns) (h ∷ hs) f e = (
    f.0,
    open_all os ns hs f.1 (suc_same (length hs) (length ns) e),
  )
