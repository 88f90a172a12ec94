-- Lists: their fronts, what holds of all elements, what is behind an offset.
use Rattle.std.proofs.Common.{◌≡◌, ℕ, suc, ◌-◌, true, List, [], ◌∷◌, ◌++◌, length, take, drop, refl}
use Rattle.std.proofs.Common.{sym, ap, ◌∙◌, arith, append_assoc, append-nil, length-drop}
use Rattle.std.proofs.Math.Seq.{take-length}
use Rattle.std.specs.List.{filter, AllByRecursion}
use Rattle.prolly_entry.specs.Prefix.{IsPrefix}

-- Two lists of bytes are the same, and so is what follows them.
pub record Apart (a b x y : List ℕ) : Type 0 where
  pub front : a ≡ b
  pub rest : x ≡ y

-- Equal lists begin with the same.
pub head_is : {A : Type 0} (x y : A) (xs ys : List A) → x ∷ xs ≡ y ∷ ys → x ≡ y
head_is x y xs ys e = cc

-- Equal lists are the same behind their first element.
pub tail_is : {A : Type 0} (x y : A) (xs ys : List A) → x ∷ xs ≡ y ∷ ys → xs ≡ ys
tail_is x y xs ys e = cc

-- A list that has a first element is not the empty one.
pub no_cons : {A B : Type 0} (x : A) (xs : List A) → x ∷ xs ≡ [] → B
no_cons x xs e = cc

-- Equal bytes cut at equal lengths are equal in front of the cut and behind it.
pub apart : (a b x y : List ℕ) → length a ≡ length b → a ++ x ≡ b ++ y → Apart a b x y
apart [] [] x y n e = record { front = refl; rest = e }
apart [] (q ∷ b) x y n e = absurd (omega arith)
apart (p ∷ a) [] x y n e = absurd (omega arith)
apart (p ∷ a) (q ∷ b) x y n e =
    let n' : suc (length a) ≡ suc (length b) = n in
    let r = apart a b x y (omega arith) (tail_is p q (a ++ x) (b ++ y) e) in
    record {
      front = ap (λ h. h ∷ a) (head_is p q (a ++ x) (b ++ y) e) ∙ ap (λ t. q ∷ t) r.front;
      rest = r.rest;
    }

-- What holds of all elements holds of all in front.
pub all_front : {X : Type 0} (P : X → Type 0) (xs ys : List X) → AllByRecursion P (xs ++ ys) →
    AllByRecursion P xs
all_front P [] ys h = tt
all_front P (x ∷ xs) ys h = (h.0, all_front P xs ys h.1)

-- What holds of all elements holds of all behind.
pub all_back : {X : Type 0} (P : X → Type 0) (xs ys : List X) → AllByRecursion P (xs ++ ys) →
    AllByRecursion P ys
all_back P [] ys h = h
all_back P (x ∷ xs) ys h = all_back P xs ys h.1

-- What holds of all elements of two lists holds of all of both.
pub all_append : {X : Type 0} (P : X → Type 0) (xs ys : List X) → AllByRecursion P xs →
    AllByRecursion P ys → AllByRecursion P (xs ++ ys)
all_append P [] ys h k = k
all_append P (x ∷ xs) ys h k = (h.0, all_append P xs ys h.1 k)

-- Bytes from an offset on are what `&bytes[at..]` is.
pub rest_is : (bytes : List ℕ) (at : ℕ) → take (length bytes - at) (drop at bytes) ≡ drop at bytes
rest_is bytes at = ap (λ k. take k (drop at bytes)) (sym (length-drop at bytes)) ∙
    take-length (drop at bytes)

-- A filter that keeps all elements leaves the list as it was.
pub all_kept : {A : Type 0} (rs : List A) → filter (λ r. true) rs ≡ rs
all_kept [] = refl
all_kept (r ∷ rs) = ap (λ ss. r ∷ ss) (all_kept rs)

-- A prefix of a prefix is one.
pub prefix_trans : {A : Type 0} (xs ys zs : List A) → IsPrefix xs ys → IsPrefix ys zs →
    IsPrefix xs zs
prefix_trans xs ys zs a b = (a.0 ++ b.0, b.1 ∙ ap (λ l. l ++ b.0) a.1 ∙ append_assoc xs a.0 b.0)

-- Where nothing came in the last stretch, there is what was there before.
pub nothing_came : {A : Type 0} (before stretch all : List A) → all ≡ before ++ stretch →
    stretch ≡ [] → all ≡ before
nothing_came before stretch all e f = e ∙ ap (λ xs. before ++ xs) f ∙ append-nil before
